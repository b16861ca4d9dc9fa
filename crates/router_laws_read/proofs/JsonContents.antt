-- What stands between the quotes of a JSON text in UTF-8 is UTF-8, escapes and all.
use Rattle.std.proofs.Common.{◌≡◌, ℕ, ◌+◌, ◌-◌, ◌*◌, ◌<◌, ◌≤◌, ◌==◌, ◌&&◌, ◌||◌, zero, suc, Bool, true, false, List, [], ◌∷◌, ◌++◌, length, refl, sym, ◌∙◌, ap, subst, arith, inl, inr, Option, Some, None, nat_lt, nat_le}
use Rattle.std.specs.Char.{digit_value, encode_utf8, is_digit}
use Rattle.std.specs.List.{AllByRecursion}
use Rattle.std.specs.Prelude.{cond, option_and_then, ◌⊎◌}
use Rattle.std.specs.Str.{IsUtf8}
use Rattle.std.proofs.lemmas.Bool.{and_parts, cases_Bool, cases_lt, eqb-true, ltb-true}
use Rattle.std.proofs.lemmas.Bool.Decides.{nat_tests}
use Rattle.std.proofs.lemmas.List.{length-append}
use Rattle.std.proofs.lemmas.Str.{IsUtf8-append, IsUtf8-encode, IsUtf8-nil, encode_ascii, len_utf8_bounds, length-encode}
use lib.Utf8.{scalar, scalars, encode, encodes}
use Rattle.json.specs.Text.{after_backslash, after_high, after_u, code_unit, content, is_high_surrogate, is_low_surrogate, plain, prepend, short_escape, surrogate_pair}
use Rattle.router_laws_spelled.proofs.Characters.{all_high, apart, ascii_tail, ascii_then, no_control}

some_same : {A : Type 0} {x y : A} → Some x ≡ Some y → x ≡ y
some_same same = cc

-- a text begins with a byte of ASCII, or with a character from 128 on
abbrev Begins : ℕ → List ℕ → Type 0
Begins x xs = (x < 128) ⊎ ((c : ℕ) × (rest : List ℕ) × (scalar c ≡ true) × (128 ≤ c) × IsUtf8 rest × (x ∷ xs ≡ encode c ++ rest))

begins : (x : ℕ) (xs : List ℕ) → IsUtf8 (x ∷ xs) → Begins x xs
begins x xs is = by is.0 is.1.0 is.1.1
  where
    by : (cs : List ℕ) → scalars cs ≡ true → encodes cs ≡ x ∷ xs → Begins x xs
    by [] valid same = absurd (cc)
    by (c ∷ cs) valid same =
        let parts = and_parts (scalar c) (scalars cs) valid in
        elim (cases_lt c 128) [
          | inl low ↦ (let first : c ∷ encodes cs ≡ x ∷ xs = rw (encode_ascii c low) at same in let e : c ≡ x = cc in inl (subst (λ k. k < 128) e low))
          | inr high ↦ inr (c, encodes cs, parts.0, high, (cs, (parts.1, refl)), sym same)
        ]

-- bytes in front
prepended : (bs : List ℕ) (o : Option (List ℕ)) (s : List ℕ) → prepend bs o ≡ Some s → (r : List ℕ) × (o ≡ Some r) × (s ≡ bs ++ r)
prepended bs None s is = absurd (cc)
prepended bs (Some r) s is = (r, refl, sym (some_same is))

-- hexadecimal digits

hex_low : (a : ℕ) → is_digit a 16 ≡ true → a < 128
hex_low a is = elim (cases_lt a 128) [
  | inl low ↦ low
  | inr high ↦ absurd (large (digit_value a) (rw (above a 48 high (omega arith), above a 58 high (omega arith), above a 65 high (omega arith), above a 91 high (omega arith), above a 97 high (omega arith), above a 123 high (omega arith)) refl) (ltb-true (digit_value a) 16 is))
]
  where
    above : (a n : ℕ) → 128 ≤ a → n < 128 → nat_lt a n ≡ false
    above a n high less = grind (arith, nat_tests, high, less)

    large : (n : ℕ) → n ≡ 36 → n < 16 → ⊥
    large n same less = omega (arith, same, less)

-- four digits and the unit that they write
pub record FourDigits (a b c d u : ℕ) : Type 0 where
  pub one : a < 128
  pub two : b < 128
  pub three : c < 128
  pub four : d < 128
  pub small : u < 65536

four_digits : (a b c d u : ℕ) → code_unit a b c d ≡ Some u → FourDigits a b c d u
unfolding code_unit
four_digits a b c d u is = by (is_digit a 16) refl (is_digit b 16) refl (is_digit c 16) refl (is_digit d 16) refl is
  where
    few : (i j k l n : ℕ) → i < 16 → j < 16 → k < 16 → l < 16 → i * 4096 + j * 256 + k * 16 + l ≡ n → n < 65536
    few i j k l n one two three four same = omega (arith, one, two, three, four, same)

    by : (p : Bool) → is_digit a 16 ≡ p → (q : Bool) → is_digit b 16 ≡ q → (r : Bool) → is_digit c 16 ≡ r → (t : Bool) → is_digit d 16 ≡ t → cond (p && q && r && t) (Some (digit_value a * 4096 + digit_value b * 256 + digit_value c * 16 + digit_value d)) None ≡ Some u → FourDigits a b c d u
    by true one true two true three true four same = record {
      one = hex_low a one;
      two = hex_low b two;
      three = hex_low c three;
      four = hex_low d four;
      small = few (digit_value a) (digit_value b) (digit_value c) (digit_value d) u (ltb-true (digit_value a) 16 one) (ltb-true (digit_value b) 16 two) (ltb-true (digit_value c) 16 three) (ltb-true (digit_value d) 16 four) (some_same same);
    }
    by false one q two r three t four same = absurd (cc)
    by true one false two r three t four same = absurd (cc)
    by true one true two false three t four same = absurd (cc)
    by true one true two true three false four same = absurd (cc)

-- surrogates

lone_scalar : (u : ℕ) → u < 65536 → is_high_surrogate u ≡ false → is_low_surrogate u ≡ false → scalar u ≡ true
lone_scalar u small high low = grind (arith, nat_tests, small, high, low)

pair_scalar : (h l : ℕ) → is_high_surrogate h ≡ true → is_low_surrogate l ≡ true → scalar (surrogate_pair h l) ≡ true
pair_scalar h l high low = wide (surrogate_pair h l) (bounds h l (ltb-true h 0xdc00 (and_parts (nat_le 0xd800 h) (nat_lt h 0xdc00) high).1) (ltb-true l 0xe000 (and_parts (nat_le 0xdc00 l) (nat_lt l 0xe000) low).1))
  where
    bounds : (h l : ℕ) → h < 0xdc00 → l < 0xe000 → (0x10000 ≤ 0x10000 + (h - 0xd800) * 1024 + (l - 0xdc00)) × (0x10000 + (h - 0xd800) * 1024 + (l - 0xdc00) < 0x110000)
    bounds h l one two = (omega (arith, one, two), omega (arith, one, two))

    wide : (c : ℕ) → (0x10000 ≤ c) × (c < 0x110000) → scalar c ≡ true
    wide c both = grind (arith, nat_tests, both)

-- a backslash and one byte

short_low : (x c : ℕ) → short_escape x ≡ Some c → (x < 128) × (c < 128)
unfolding short_escape
short_low x c is = by (cases_lt x 128)
  where
    by : (x < 128) ⊎ (128 ≤ x) → (x < 128) × (c < 128)
    by (inr high) = (let none : None ≡ Some c = rw (apart x 34 high (omega arith), apart x 92 high (omega arith), apart x 47 high (omega arith), apart x 98 high (omega arith), apart x 102 high (omega arith), apart x 110 high (omega arith), apart x 114 high (omega arith), apart x 116 high (omega arith)) at is in absurd (cc))
    by (inl low) = (low, stays (cases_Bool ((x == 34) || (x == 92) || (x == 47))))
      where
        same : (n : ℕ) → n ≡ c → n < 128 → c < 128
        same n is less = omega (arith, is, less)

        stays : (((x == 34) || (x == 92) || (x == 47)) ≡ true) ⊎ (((x == 34) || (x == 92) || (x == 47)) ≡ false) → c < 128
        stays (inl own) = same x (some_same (rw own at is)) low
        stays (inr third) = elim (cases_Bool (x == 98)) [
          | inl b ↦ same 8 (some_same (rw (third, b) at is)) (omega arith)
          | inr nb ↦ (elim (cases_Bool (x == 102)) [
            | inl f ↦ same 12 (some_same (rw (third, nb, f) at is)) (omega arith)
            | inr nf ↦ (elim (cases_Bool (x == 110)) [
              | inl n ↦ same 10 (some_same (rw (third, nb, nf, n) at is)) (omega arith)
              | inr nn ↦ (elim (cases_Bool (x == 114)) [
                | inl r ↦ same 13 (some_same (rw (third, nb, nf, nn, r) at is)) (omega arith)
                | inr nr ↦ (elim (cases_Bool (x == 116)) [
                  | inl t ↦ same 9 (some_same (rw (third, nb, nf, nn, nr, t) at is)) (omega arith)
                  | inr nt ↦ (let none : None ≡ Some c = rw (third, nb, nf, nn, nr, nt) at is in absurd (cc))
                ])
              ])
            ])
          ])
        ]

-- the four places in a text

-- what is read of so many bytes at most is UTF-8
abbrev Reads : ℕ → Type 0
Reads n = (xs : List ℕ) → length xs ≤ n → IsUtf8 xs → (s : List ℕ) → content plain xs ≡ Some s → IsUtf8 s

fewer : (k n : ℕ) → suc k ≤ n → k ≤ n
fewer k n le = omega (arith, le)

-- a character in front of what is read
in_front : (c : ℕ) (n : ℕ) (xs : List ℕ) (s : List ℕ) → Reads n → length xs ≤ n → IsUtf8 xs → scalar c ≡ true → prepend (encode c) (content plain xs) ≡ Some s → IsUtf8 s
in_front c n xs s reads short u valid is =
    let rest = prepended (encode c) (content plain xs) s is in
    subst IsUtf8 (sym rest.2) (IsUtf8-append (encode c) rest.0 (IsUtf8-encode c valid) (reads xs short u rest.0 rest.1))

byte_in_front : (b : ℕ) (n : ℕ) (xs : List ℕ) (s : List ℕ) → Reads n → length xs ≤ n → IsUtf8 xs → b < 128 → prepend (b ∷ []) (content plain xs) ≡ Some s → IsUtf8 s
byte_in_front b n xs s reads short u small is =
    let rest = prepended (b ∷ []) (content plain xs) s is in
    subst IsUtf8 (sym rest.2) (ascii_then b rest.0 small (reads xs short u rest.0 rest.1))

high_utf8 : (n h : ℕ) → Reads n → is_high_surrogate h ≡ true → (xs : List ℕ) → length xs ≤ n → IsUtf8 xs → (s : List ℕ) → content (after_high h) xs ≡ Some s → IsUtf8 s
unfolding content
high_utf8 n h reads high [] short u s is = absurd (cc)
high_utf8 n h reads high (x ∷ []) short u s is = absurd (cc)
high_utf8 n h reads high (x ∷ y ∷ []) short u s is = absurd (cc)
high_utf8 n h reads high (x ∷ y ∷ a ∷ []) short u s is = absurd (cc)
high_utf8 n h reads high (x ∷ y ∷ a ∷ b ∷ []) short u s is = absurd (cc)
high_utf8 n h reads high (x ∷ y ∷ a ∷ b ∷ c ∷ []) short u s is = absurd (cc)
high_utf8 n h reads high (x ∷ y ∷ a ∷ b ∷ c ∷ d ∷ xs) short u s is = by ((x == 92) && (y == 117)) refl is
  where
    less : (k n : ℕ) → suc (suc (suc (suc (suc (suc k))))) ≤ n → k ≤ n
    less k n le = omega (arith, le)

    low : (a n : ℕ) → (a == n) ≡ true → n < 128 → a < 128
    low a n same small = subst (λ k. k < 128) (sym (eqb-true a n same)) small

    second : (o : Option ℕ) → code_unit a b c d ≡ o → (x == 92) ≡ true → (y == 117) ≡ true → option_and_then (λ l. cond (is_low_surrogate l) (prepend (encode_utf8 (surrogate_pair h l)) (content plain xs)) None) o ≡ Some s → IsUtf8 s
    second None unit one two same = absurd (cc)
    second (Some l) unit one two same =
        let digits = four_digits a b c d l unit in
        let behind = ascii_tail d xs digits.four (ascii_tail c (d ∷ xs) digits.three (ascii_tail b (c ∷ d ∷ xs) digits.two (ascii_tail a (b ∷ c ∷ d ∷ xs) digits.one (ascii_tail y (a ∷ b ∷ c ∷ d ∷ xs) (low y 117 two (omega arith)) (ascii_tail x (y ∷ a ∷ b ∷ c ∷ d ∷ xs) (low x 92 one (omega arith)) u))))) in
        elim (cases_Bool (is_low_surrogate l)) [
          | inl is_low ↦ in_front (surrogate_pair h l) n xs s reads (less (length xs) n short) behind (pair_scalar h l high is_low) (rw is_low at same)
          | inr isnt ↦ (let none : None ≡ Some s = rw isnt at same in absurd (cc))
        ]

    by : (p : Bool) → ((x == 92) && (y == 117)) ≡ p → cond p (option_and_then (λ l. cond (is_low_surrogate l) (prepend (encode_utf8 (surrogate_pair h l)) (content plain xs)) None) (code_unit a b c d)) None ≡ Some s → IsUtf8 s
    by true escape same = let parts = and_parts (x == 92) (y == 117) escape in second (code_unit a b c d) refl parts.0 parts.1 same
    by false escape same = absurd (cc)

unit_utf8 : (n : ℕ) → Reads n → (xs : List ℕ) → length xs ≤ n → IsUtf8 xs → (s : List ℕ) → content after_u xs ≡ Some s → IsUtf8 s
unfolding content
unit_utf8 n reads [] short u s is = absurd (cc)
unit_utf8 n reads (a ∷ []) short u s is = absurd (cc)
unit_utf8 n reads (a ∷ b ∷ []) short u s is = absurd (cc)
unit_utf8 n reads (a ∷ b ∷ c ∷ []) short u s is = absurd (cc)
unit_utf8 n reads (a ∷ b ∷ c ∷ d ∷ xs) short u s is = by (code_unit a b c d) refl is
  where
    less : (k n : ℕ) → suc (suc (suc (suc k))) ≤ n → k ≤ n
    less k n le = omega (arith, le)

    by : (o : Option ℕ) → code_unit a b c d ≡ o → option_and_then (λ v. cond (is_high_surrogate v) (content (after_high v) xs) (cond (is_low_surrogate v) None (prepend (encode_utf8 v) (content plain xs)))) o ≡ Some s → IsUtf8 s
    by None unit same = absurd (cc)
    by (Some v) unit same =
        let digits = four_digits a b c d v unit in
        let behind = ascii_tail d xs digits.four (ascii_tail c (d ∷ xs) digits.three (ascii_tail b (c ∷ d ∷ xs) digits.two (ascii_tail a (b ∷ c ∷ d ∷ xs) digits.one u))) in
        elim (cases_Bool (is_high_surrogate v)) [
          | inl high ↦ high_utf8 n v reads high xs (less (length xs) n short) behind s (rw high at same)
          | inr not_high ↦ (elim (cases_Bool (is_low_surrogate v)) [
            | inl low ↦ (let none : None ≡ Some s = rw (not_high, low) at same in absurd (cc))
            | inr not_low ↦ in_front v n xs s reads (less (length xs) n short) behind (lone_scalar v digits.small not_high not_low) (rw (not_high, not_low) at same)
          ])
        ]

slash_utf8 : (n : ℕ) → Reads n → (xs : List ℕ) → length xs ≤ n → IsUtf8 xs → (s : List ℕ) → content after_backslash xs ≡ Some s → IsUtf8 s
unfolding content
slash_utf8 n reads [] short u s is = absurd (cc)
slash_utf8 n reads (x ∷ xs) short u s is = elim (cases_Bool (x == 117)) [
  | inl unit ↦ unit_utf8 n reads xs (fewer (length xs) n short) (ascii_tail x xs (subst (λ k. k < 128) (sym (eqb-true x 117 unit)) (omega arith)) u) s (rw unit at is)
  | inr other ↦ by (short_escape x) refl (rw other at is)
]
  where
    by : (o : Option ℕ) → short_escape x ≡ o → option_and_then (λ c. prepend (c ∷ []) (content plain xs)) o ≡ Some s → IsUtf8 s
    by None escape same = absurd (cc)
    by (Some c) escape same = let low = short_low x c escape in byte_in_front c n xs s reads (fewer (length xs) n short) (ascii_tail x xs low.0 u) low.1 same

-- bytes from 128 on stand for themselves
run_content : (hs xs : List ℕ) → AllByRecursion (λ h. 128 ≤ h) hs → content plain (hs ++ xs) ≡ prepend hs (content plain xs)
unfolding content
run_content [] xs high = none (content plain xs)
  where
    none : (o : Option (List ℕ)) → o ≡ prepend [] o
    none None = refl
    none (Some s) = refl
run_content (h ∷ hs) xs high = rw (apart h 34 high.0 (omega arith), apart h 92 high.0 (omega arith), no_control h high.0) (ap (prepend (h ∷ [])) (run_content hs xs high.1) ∙ more (content plain xs))
  where
    more : (o : Option (List ℕ)) → prepend (h ∷ []) (prepend hs o) ≡ prepend (h ∷ hs) o
    more None = refl
    more (Some s) = refl

reads_all : (n : ℕ) → Reads n
unfolding content
reads_all n [] short u s is = absurd (cc)
reads_all zero (x ∷ xs) short u s is = absurd (none (length xs) short)
  where
    none : (k : ℕ) → suc k ≤ 0 → ⊥
    none k le = omega (arith, le)
reads_all (suc n) (x ∷ xs) short u s is = elim (begins x xs u) [
  | inl small ↦ (
      let tail = ascii_tail x xs small u in
      elim (cases_Bool (x == 34)) [
        | inl quote ↦ (let same : [] ≡ s = some_same (rw quote at is) in subst IsUtf8 same IsUtf8-nil)
        | inr no_quote ↦ (elim (cases_Bool (x == 92)) [
          | inl slash ↦ slash_utf8 n (reads_all n) xs (less (length xs) n short) tail s (rw (no_quote, slash) at is)
          | inr no_slash ↦ (elim (cases_Bool (nat_lt x 32)) [
            | inl control ↦ (let none : None ≡ Some s = rw (no_quote, no_slash, control) at is in absurd (cc))
            | inr fine ↦ byte_in_front x n xs s (reads_all n) (less (length xs) n short) tail small (rw (no_quote, no_slash, fine) at is)
          ])
        ])
      ]
      )
  | inr large ↦ (
      let c = large.0 in
      let rest = large.1 in
      in_front c n rest s (reads_all n) (behind (encode c) rest xs n large.5 (some c) short) large.4 large.2 (sym (run_content (encode c) rest (all_high c large.3)) ∙ ap (content plain) (sym large.5) ∙ is)
      )
]
  where
    less : (k n : ℕ) → suc k ≤ suc n → k ≤ n
    less k n le = omega (arith, le)

    some : (c : ℕ) → 1 ≤ length (encode c)
    some c = let one = (len_utf8_bounds c).0 in let long = length-encode c in omega (arith, one, long)

    behind : (hs rest xs : List ℕ) (n : ℕ) → x ∷ xs ≡ hs ++ rest → 1 ≤ length hs → suc (length xs) ≤ suc n → length rest ≤ n
    behind hs rest xs n same some le = numbers (length hs) (length rest) (length xs) n (ap length same ∙ length-append hs rest) some le
      where
        numbers : (i j k n : ℕ) → suc k ≡ i + j → 1 ≤ i → suc k ≤ suc n → j ≤ n
        numbers i j k n same some le = omega (arith, same, some, le)

pub content_utf8 : (xs s : List ℕ) → IsUtf8 xs → content plain xs ≡ Some s → IsUtf8 s
content_utf8 xs s u is = reads_all (length xs) xs (omega arith) u s is
