-- Escaping and its inverse.
use Rattle.std.proofs.Common.{◌≡◌, ℕ, ◌-◌, ◌/◌, ◌%◌, ◌<◌, ◌≤◌, zero, suc, Bool, true, false, ◌&&◌, ◌==◌, if◌then◌else◌, List, [], ◌∷◌, ◌++◌, length, get_or, take, drop, refl, sym, ◌∙◌, ap, subst, arith, append_assoc, append-nil, length-append, Option, Some, None, option_map, true≢false, ◌⊎◌, inl, inr, ne_eqb, eq-eqb, Ok}
use Rattle.std.proofs.lemmas.List.{take_rest}
use Rattle.std.proofs.lemmas.Bool.{cases_Bool, cases_lt, and_parts, or_parts}
use Rattle.std.specs.List.{list_any}
use Rattle.std.proofs.lemmas.Bool.Decides.{nat_tests}
use Rattle.std.proofs.lemmas.Str.{IsUtf8-append, IsUtf8-nil, IsUtf8-drop, IsUtf8-encode, IsCharBoundary-after_ascii, encode_ascii, inside_one, length-encode, len_utf8_bounds}
use lib.Utf8.{scalar, scalars, encode, encodes, low_scalar}
use Rattle.std.specs.Str.{IsUtf8}
use Rattle.slee_value.specs.Escape.{is_escaped, hex_digit_of, escaped}
use Rattle.signal_script.specs.Signals.{text_of}
use Rattle.signal_script.specs.WordText.{unescaped, is_escape, byte_of_digits, digit_value}

-- these bytes, and then those
abbrev pub with_bytes : List ℕ → Option (List ℕ) → Option (List ℕ)
with_bytes front more = option_map (λ bytes. front ++ bytes) more

-- one byte more was read
pub one_byte_more : (word : Bool) (front text rest : List ℕ) (b : ℕ) → unescaped word text ≡ option_map (λ more. b ∷ more) (unescaped word rest)
    → with_bytes front (unescaped word text) ≡ with_bytes (front ++ b ∷ []) (unescaped word rest)
one_byte_more word front text rest b is = rw is (joined (unescaped word rest))
  where
    joined : (o : Option (List ℕ)) → with_bytes front (option_map (λ more. b ∷ more) o) ≡ with_bytes (front ++ b ∷ []) o
    joined None = refl
    joined (Some bytes) = ap Some (sym (append_assoc front (b ∷ []) bytes))

-- where a byte can't be read
pub none_more : (word : Bool) (front text : List ℕ) → unescaped word text ≡ None → with_bytes front (unescaped word text) ≡ None
none_more word front text is = rw is

percent_is_escaped : (word : Bool) (b : ℕ) → is_escaped word b ≡ false → b ≡ 37 → ⊥
percent_is_escaped word b not is = true≢false (subst (λ (n : ℕ). is_escaped word n ≡ false) is not)

-- a byte that stands as it is
pub plain_byte : (word : Bool) (b : ℕ) (bs : List ℕ) → is_escaped word b ≡ false → unescaped word (b ∷ bs) ≡ option_map (λ more. b ∷ more) (unescaped word bs)
plain_byte word b [] not = rw not
plain_byte word b (h ∷ []) not = rw not
plain_byte word b (h ∷ l ∷ bs) not = rw (not, ne_eqb b 37 (percent_is_escaped word b not))

-- an escape
pub escape_read : (word : Bool) (b h l : ℕ) (bs : List ℕ) → b ≡ 37 → is_escape word h l ≡ true
    → unescaped word (b ∷ h ∷ l ∷ bs) ≡ option_map (λ more. byte_of_digits h l ∷ more) (unescaped word bs)
escape_read word b h l bs percent is = rw (eq-eqb b 37 percent, is)

-- a text without a byte that has to be escaped stands as it is
pub plain_text : (word : Bool) (text : List ℕ) → list_any (is_escaped word) text ≡ false → unescaped word text ≡ Some text
plain_text word [] none = refl
plain_text word (b ∷ bs) none =
    let parts = or_parts (is_escaped word b) (list_any (is_escaped word) bs) none in
    plain_byte word b bs parts.0 ∙ ap (option_map (λ more. b ∷ more)) (plain_text word bs parts.1)

-- so a word without one stands for itself
pub plain_word : (word : List ℕ) → list_any (is_escaped true) word ≡ false → text_of word ≡ Ok word
plain_word word none = rw (plain_text true word none) refl

-- the same, as the code cuts them
pub plain_cut : (word : Bool) (text : List ℕ) → 0 < length text → is_escaped word (get_or text 0 0) ≡ false
    → unescaped word text ≡ option_map (λ more. get_or text 0 0 ∷ more) (unescaped word (take (length text - 1) (drop 1 text)))
plain_cut word [] some not = absurd (omega arith)
plain_cut word (b ∷ bs) some not = rw (take_rest (b ∷ bs) 1) (plain_byte word b bs not)

pub escape_cut : (word : Bool) (text : List ℕ) (byte : ℕ) → 3 ≤ length text → get_or text 0 0 ≡ 37
    → (is_escape word (get_or text 1 0) (get_or text 2 0) ≡ true) × (byte ≡ byte_of_digits (get_or text 1 0) (get_or text 2 0))
    → unescaped word text ≡ option_map (λ more. byte ∷ more) (unescaped word (take (length text - 3) (drop 3 text)))
escape_cut word [] byte long percent is = absurd (omega arith)
escape_cut word (b ∷ []) byte long percent is = absurd (omega arith)
escape_cut word (b ∷ h ∷ []) byte long percent is = absurd (omega arith)
escape_cut word (b ∷ h ∷ l ∷ bs) byte long percent is = rw (take_rest (b ∷ h ∷ l ∷ bs) 3, is.1) (escape_read word b h l bs percent is.0)

digit_back : (n : ℕ) → n < 16 → digit_value (hex_digit_of n) ≡ n
digit_back n small = grind (arith, nat_tests)

-- only ASCII bytes are escaped
pub escaped_small : (word : Bool) (b : ℕ) → is_escaped word b ≡ true → b < 128
escaped_small word b is = grind (arith, nat_tests)

byte_back : (b : ℕ) → b < 128 → byte_of_digits (hex_digit_of (b / 16)) (hex_digit_of (b % 16)) ≡ b
byte_back b small = rw (digit_back (b / 16) (omega arith), digit_back (b % 16) (omega arith)) (omega arith)

escape_back : (word : Bool) (b : ℕ) → is_escaped word b ≡ true → is_escape word (hex_digit_of (b / 16)) (hex_digit_of (b % 16)) ≡ true
escape_back word b is =
    rw (byte_back b (escaped_small word b is), is, eq-eqb (hex_digit_of (b / 16)) (hex_digit_of (b / 16)) refl, eq-eqb (hex_digit_of (b % 16)) (hex_digit_of (b % 16)) refl)

-- an escaped text is read as what was escaped
pub unescaped_back : (word : Bool) (bytes : List ℕ) → unescaped word (escaped word bytes) ≡ Some bytes
unescaped_back word [] = refl
unescaped_back word (b ∷ bytes) = either (cases_Bool (is_escaped word b)) (unescaped_back word bytes)
  where
    either : (is_escaped word b ≡ true) ⊎ (is_escaped word b ≡ false) → unescaped word (escaped word bytes) ≡ Some bytes
        → unescaped word (escaped word (b ∷ bytes)) ≡ Some (b ∷ bytes)
    either (inl is) rest = rw is (rw (escape_back word b is, byte_back b (escaped_small word b is), rest) refl)
    either (inr not) rest = rw not (plain_byte word b (escaped word bytes) not ∙ ap (option_map (λ more. b ∷ more)) rest)

-- what is read, a byte at a time
joined_some : (b : ℕ) (o : Option (List ℕ)) (bytes : List ℕ) → option_map (λ more. b ∷ more) o ≡ Some bytes
    → (more : List ℕ) × (o ≡ Some more) × (bytes ≡ b ∷ more)
joined_some b None bytes is = cc
joined_some b (Some more) bytes is = (more, refl, cc)

plain_back : (word : Bool) (b : ℕ) (bytes text : List ℕ) (o : Option (List ℕ)) → is_escaped word b ≡ false → option_map (λ more. b ∷ more) o ≡ Some bytes
    → ((more : List ℕ) → o ≡ Some more → escaped word more ≡ text) → escaped word bytes ≡ b ∷ text
plain_back word b bytes text o not is rest =
    let more = joined_some b o bytes is in
    rw (more.2, not) (ap (λ bytes. b ∷ bytes) (rest more.0 more.1))

one_back : (word : Bool) (b : ℕ) (bytes text : List ℕ) (o : Option (List ℕ))
    → (if is_escaped word b then None else option_map (λ more. b ∷ more) o) ≡ Some bytes
    → ((more : List ℕ) → o ≡ Some more → escaped word more ≡ text) → escaped word bytes ≡ b ∷ text
one_back word b bytes text o is rest = either (cases_Bool (is_escaped word b))
  where
    either : (is_escaped word b ≡ true) ⊎ (is_escaped word b ≡ false) → escaped word bytes ≡ b ∷ text
    either (inl holds) = let never : None ≡ Some bytes = rw holds at is in cc
    either (inr not) = plain_back word b bytes text o not (rw not at is) rest

escape_one_back : (word : Bool) (h l : ℕ) (bytes text : List ℕ) (o : Option (List ℕ))
    → (if is_escape word h l then option_map (λ more. byte_of_digits h l ∷ more) o else None) ≡ Some bytes
    → ((more : List ℕ) → o ≡ Some more → escaped word more ≡ text) → escaped word bytes ≡ 37 ∷ h ∷ l ∷ text
escape_one_back word h l bytes text o is rest = either (cases_Bool (is_escape word h l))
  where
    b : ℕ
    b = byte_of_digits h l

    digits : (escaped_b high low : Bool) → (escaped_b && (high && low)) ≡ true → (escaped_b ≡ true) × (high ≡ true) × (low ≡ true)
    digits escaped_b high low all = ((and_parts escaped_b (high && low) all).0, (and_parts high low (and_parts escaped_b (high && low) all).1).0, (and_parts high low (and_parts escaped_b (high && low) all).1).1)

    either : (is_escape word h l ≡ true) ⊎ (is_escape word h l ≡ false) → escaped word bytes ≡ 37 ∷ h ∷ l ∷ text
    either (inr not) = let never : None ≡ Some bytes = rw not at is in cc
    either (inl holds) =
        let more = joined_some b o bytes (rw holds at is) in
        let parts = digits (is_escaped word b) (hex_digit_of (b / 16) == h) (hex_digit_of (b % 16) == l) holds in
        let high : hex_digit_of (b / 16) ≡ h = grind (arith, nat_tests, parts.1) in
        let low : hex_digit_of (b % 16) ≡ l = grind (arith, nat_tests, parts.2) in
        rw (more.2, parts.0, high, low) (ap (λ bytes. 37 ∷ h ∷ l ∷ bytes) (rest more.0 more.1))

otherwise : (test : Bool) (here there result : Option (List ℕ)) → test ≡ false → (if test then here else there) ≡ result → there ≡ result
otherwise test here there result not is = rw not at is

-- and what is read has this one escaped text
pub escaped_back : (word : Bool) (text bytes : List ℕ) → unescaped word text ≡ Some bytes → escaped word bytes ≡ text
escaped_back word [] bytes is = let none : [] ≡ bytes = cc in rw (← none) refl
escaped_back word (b ∷ []) bytes is = one_back word b bytes [] (Some []) is (λ more e. escaped_back word [] more e)
escaped_back word (b ∷ h ∷ []) bytes is = one_back word b bytes (h ∷ []) (unescaped word (h ∷ [])) is (λ more e. escaped_back word (h ∷ []) more e)
escaped_back word (b ∷ h ∷ l ∷ bs) bytes is =
    either (cases_Bool (b == 37)) (λ more e. escaped_back word bs more e) (λ more e. escaped_back word (h ∷ l ∷ bs) more e)
  where
    either : ((b == 37) ≡ true) ⊎ ((b == 37) ≡ false)
        → ((more : List ℕ) → unescaped word bs ≡ Some more → escaped word more ≡ bs)
        → ((more : List ℕ) → unescaped word (h ∷ l ∷ bs) ≡ Some more → escaped word more ≡ h ∷ l ∷ bs)
        → escaped word bytes ≡ b ∷ h ∷ l ∷ bs
    either (inl percent) short long =
        let b_is : b ≡ 37 = grind (arith, nat_tests, percent) in
        rw b_is (escape_one_back word h l bytes bs (unescaped word bs) (rw percent at is) short)
    either (inr other) short long = one_back word b bytes (h ∷ l ∷ bs) (unescaped word (h ∷ l ∷ bs)) (otherwise (b == 37) _ _ (Some bytes) other is) long

-- UTF-8 is kept.
ascii_tail : (x : ℕ) (bs : List ℕ) → x < 128 → IsUtf8 (x ∷ bs) → IsUtf8 bs
ascii_tail x bs small is = IsUtf8-drop (x ∷ bs) 1 is (IsCharBoundary-after_ascii (x ∷ bs) 0 is (omega arith) small)

ascii_then : (x : ℕ) (bs : List ℕ) → x < 128 → IsUtf8 bs → IsUtf8 (x ∷ bs)
ascii_then x bs small is = IsUtf8-append (x ∷ []) bs (subst IsUtf8 (encode_ascii x small) (IsUtf8-encode x (low_scalar x (omega arith)))) is

hex_small : (n : ℕ) → n < 16 → hex_digit_of n < 128
hex_small n small = grind (arith, nat_tests)

-- the character that begins with a byte from 128 on, and what follows it
record FirstCharacter (bs : List ℕ) : Type 0 where
  pub char : ℕ
  pub rest : List ℕ
  pub valid : scalar char ≡ true
  pub high : 128 ≤ char
  pub utf8 : IsUtf8 rest
  pub parts : bs ≡ encode char ++ rest

first_character : (b : ℕ) (bs : List ℕ) → 128 ≤ b → IsUtf8 (b ∷ bs) → FirstCharacter (b ∷ bs)
first_character b bs high is = by is.0 is.1.0 is.1.1
  where
    by : (cs : List ℕ) → scalars cs ≡ true → encodes cs ≡ b ∷ bs → FirstCharacter (b ∷ bs)
    by [] valid same = cc
    by (c ∷ cs) valid same = elim (cases_lt c 128) [
      | inl low ↦ let first : c ∷ encodes cs ≡ b ∷ bs = rw (encode_ascii c low) at same in let e : c ≡ b = cc in absurd (omega arith)
      | inr above ↦ record {
        char = c;
        rest = encodes cs;
        valid = (and_parts (scalar c) (scalars cs) valid).0;
        high = above;
        utf8 = (cs, ((and_parts (scalar c) (scalars cs) valid).1, refl));
        parts = sym same;
      }
    ]

-- bytes from 128 on stand as they are
record StandsAsItIs (word : Bool) (front rest bytes : List ℕ) : Type 0 where
  pub more : List ℕ
  pub parts : bytes ≡ front ++ more
  pub escaped : escaped word more ≡ rest

stands : (word : Bool) (front rest bytes : List ℕ) → ((k : ℕ) → k < length front → 128 ≤ get_or front k 0) → escaped word bytes ≡ front ++ rest
    → StandsAsItIs word front rest bytes
stands word [] rest bytes high is = record { more = bytes; parts = refl; escaped = is }
stands word (x ∷ front) rest [] high is = cc
stands word (x ∷ front) rest (y ∷ bytes) high is = elim (cases_Bool (is_escaped word y)) [
  | inl holds ↦
      let all : 37 ∷ hex_digit_of (y / 16) ∷ hex_digit_of (y % 16) ∷ escaped word bytes ≡ x ∷ (front ++ rest) = rw holds at is in
      let first : 37 ≡ x = cc in
      absurd (omega (arith, high 0 (omega arith)))
  | inr not ↦
      let all : y ∷ escaped word bytes ≡ x ∷ (front ++ rest) = rw not at is in
      let more = stands word front rest bytes (λ k below. high (suc k) (omega arith)) (cc) in
      record { more = more.more; parts = cc; escaped = more.escaped }
]

kept : (n : ℕ) (word : Bool) (bytes : List ℕ) → length bytes ≤ n → IsUtf8 (escaped word bytes) → IsUtf8 bytes
kept n word [] fits is = IsUtf8-nil
kept zero word (b ∷ bytes) fits is = absurd (omega arith)
kept (suc n) word (b ∷ bytes) fits is = elim (cases_Bool (is_escaped word b)) [
  | inl holds ↦
      let small = escaped_small word b holds in
      let all : IsUtf8 (37 ∷ hex_digit_of (b / 16) ∷ hex_digit_of (b % 16) ∷ escaped word bytes) = rw holds at is in
      let low = ascii_tail 37 _ (omega arith) all in
      let digit = ascii_tail (hex_digit_of (b / 16)) _ (hex_small (b / 16) (omega arith)) low in
      ascii_then b bytes small (kept n word bytes (omega arith) (ascii_tail (hex_digit_of (b % 16)) _ (hex_small (b % 16) (omega arith)) digit))
  | inr not ↦
      let all : IsUtf8 (b ∷ escaped word bytes) = rw not at is in
      elim (cases_lt b 128) [
        | inl low ↦ ascii_then b bytes low (kept n word bytes (omega arith) (ascii_tail b (escaped word bytes) low all))
        | inr high ↦
            let first = first_character b (escaped word bytes) high all in
            let bytes_high : (k : ℕ) → k < length (encode first.char) → 128 ≤ get_or (encode first.char) k 0 = λ k below. elim (cases_lt (get_or (encode first.char) k 0) 128) [
              | inl low ↦ absurd (omega (arith, first.high, inside_one first.char [] (encode first.char) k (sym (append-nil _)) below low))
              | inr at ↦ at
            ] in
            let whole : escaped word (b ∷ bytes) ≡ encode first.char ++ first.rest = rw not first.parts in
            let cut = stands word (encode first.char) first.rest (b ∷ bytes) bytes_high whole in
            let shorter : length cut.more ≤ n = omega (arith, ap length cut.parts, length-append (encode first.char) cut.more, length-encode first.char, (len_utf8_bounds first.char).0) in
            let rest : IsUtf8 cut.more = kept n word cut.more shorter (subst IsUtf8 (sym cut.escaped) first.utf8) in
            subst IsUtf8 (sym cut.parts) (IsUtf8-append (encode first.char) cut.more (IsUtf8-encode first.char first.valid) rest)
      ]
]

pub unescaped_utf8 : (word : Bool) (text bytes : List ℕ) → unescaped word text ≡ Some bytes → IsUtf8 text → IsUtf8 bytes
unescaped_utf8 word text bytes is utf8 =
    kept (length bytes) word bytes (omega arith) (subst (λ (bs : List ℕ). IsUtf8 bs) (sym (escaped_back word text bytes is)) utf8)

pub made_utf8 : (word : Bool) (text made rest : List ℕ) → unescaped word text ≡ with_bytes made (unescaped word rest) → length rest ≡ 0 → IsUtf8 text → IsUtf8 made
made_utf8 word text made [] is none utf8 = unescaped_utf8 word text made (is ∙ ap Some (append-nil made)) utf8
made_utf8 word text made (b ∷ bs) is none utf8 = absurd (omega arith)
