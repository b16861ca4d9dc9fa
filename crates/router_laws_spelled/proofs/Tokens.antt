-- The tokens of a text in UTF-8 have numbers of 64 bits and texts in UTF-8.
use Rattle.std.proofs.Common.{◌≡◌, ℕ, ◌+◌, ◌-◌, ◌<◌, ◌≤◌, ◌==◌, ◌^◌, ◌&&◌, ◌||◌, zero, suc, Bool, true, false, not, List, [], ◌∷◌, ◌++◌, length, drop, take, map, refl, sym, ◌∙◌, ap, subst, arith, inl, inr, Option, Some, None, nat_lt, nat_le}
use Rattle.std.specs.List.{AllByRecursion, prefix_len, take_while}
use Rattle.std.specs.Prelude.{cond, if◌then◌else◌, pos, slice_index}
use Rattle.std.specs.Str.{IsUtf8, is_utf8}
use Rattle.std.proofs.Math.Seq.{drop-append-add}
use Rattle.std.proofs.lemmas.Bool.{and_from, cases_Bool, cases_lt, cond_both, eqb-true, leb-true, lt-ltb}
use Rattle.std.proofs.lemmas.Bool.Decides.{nat_tests}
use Rattle.std.proofs.lemmas.List.{length-append}
use Rattle.std.proofs.lemmas.List.Folds.{length-prefix_len}
use Rattle.std.proofs.lemmas.Str.{IsCharBoundary-after_ascii, IsUtf8-append, IsUtf8-drop, IsUtf8-encode, IsUtf8-nil, is_utf8-from_IsUtf8}
use lib.Utf8.{encode}
use Rattle.slee_value.specs.Name.{is_byte_of_name, is_digit, is_letter}
use Rattle.script_tree.proofs.Lexing.{cut_sized, lexed_skip, one_blank, token_first}
use Rattle.script_tree.specs.Lexer.{cut, cut_of_one, cut_of_two, decimal_in, digits_value, escape_of, escape_then, is_blank, is_in_line, lexed, lexeme_of, lexemes_of, number_cut, number_lexeme, quote_of, sign_cut, sign_of_one, sign_of_two, starts_token, text_cut, unless_bad, with_byte, word_cut, word_lexeme}
use Rattle.script_tree.specs.Quotes.{behind_run}
use Rattle.script_tree.specs.Tree.{Bytes}
use Rattle.script_tree.specs.Words.{is_number, reserved}
use Rattle.script_tree.specs.declared.lexeme.Cut.{Cut}
use Rattle.script_tree.specs.declared.lexeme.Lexeme.{Lexeme}
use Rattle.script_tree.specs.declared.lexeme.Lexeme.TheVariants as t
use Rattle.script_tree.specs.declared.lexeme.Quote.{Quote}
use Rattle.script_tree.specs.declared.lexeme.Spotted.{Spotted}
use Rattle.script_tree.specs.declared.symbol.Symbol.{Symbol}
use Rattle.router_laws_spelled.proofs.Characters.{all_high, apart, ascii_tail, ascii_then, behind_run_of, by_characters, from_stop, no_control}
use Rattle.router_laws_spelled.specs.Lexemes.{LexemeSpelled}
use Rattle.router_state.specs.Fits.{is_i64, is_text}

-- texts between quotes

-- what is read up to a quote, with so many bytes left out behind it
abbrev Quoted : ℕ → Quote → Bytes → Type 0
Quoted more q xs = IsUtf8 q.text × (length q.text ≤ q.size) × IsUtf8 (drop (q.size + more) xs)

some_same : {A : Type 0} {x y : A} → Some x ≡ Some y → x ≡ y
some_same same = cc

-- a byte in front
with_some : (b n : ℕ) (o : Option Quote) (q : Quote) → with_byte b n o ≡ Some q → (r : Quote) × (o ≡ Some r) × (q.text ≡ b ∷ r.text) × (q.size ≡ n + r.size)
with_some b n None q is = absurd (cc)
with_some b n (Some r) q is = (r, refl, ap (λ (z : Quote). z.text) (sym (some_same is)), ap (λ (z : Quote). z.size) (sym (some_same is)))

dropped : (n : ℕ) (b : ℕ) (bs : Bytes) → drop (n + 1) (b ∷ bs) ≡ drop n bs
dropped n b bs = let e : n + 1 ≡ suc n = omega arith in ap (λ m. drop m (b ∷ bs)) e

-- a byte of ASCII in front, which one or two bytes write
with_ascii : (c n more less : ℕ) (q r : Quote) (xs bs : Bytes) → c < 128 → q.text ≡ c ∷ r.text → q.size ≡ n + r.size → 1 ≤ n → Quoted 1 r bs → drop ((n + r.size) + more) xs ≡ drop (r.size + 1) bs → Quoted more q xs
with_ascii c n more less q r xs bs small text size some good rest = (
  subst IsUtf8 (sym text) (ascii_then c r.text small good.0),
  longer (length r.text) r.size n (length q.text) q.size (ap length text) size some good.1,
  subst (λ k. IsUtf8 (drop (k + more) xs)) (sym size) (subst IsUtf8 (sym rest) good.2),
)
  where
    longer : (i j n k m : ℕ) → k ≡ suc i → m ≡ n + j → 1 ≤ n → i ≤ j → k ≤ m
    longer i j n k m one two some le = omega (arith, one, two, some, le)

-- what both readers of quotes give of bytes
abbrev BothQuoted : Bytes → Type 0
BothQuoted xs = ((q : Quote) → quote_of false xs ≡ Some q → Quoted 1 q xs) × ((q : Quote) → quote_of true xs ≡ Some q → Quoted 0 q xs)

escaped_byte : (b c : ℕ) → escape_of b ≡ Some c → c < 128
escaped_byte b c is = elim (cases_Bool (b == 34)) [
  | inl quote ↦ below 34 c (some_same (rw quote at is)) (omega arith)
  | inr one ↦ (elim (cases_Bool (b == 92)) [
    | inl slash ↦ below 92 c (some_same (rw (one, slash) at is)) (omega arith)
    | inr two ↦ (elim (cases_Bool (b == 110)) [
      | inl line ↦ below 10 c (some_same (rw (one, two, line) at is)) (omega arith)
      | inr three ↦ (let none : None ≡ Some c = rw (one, two, three) at is in absurd (cc))
    ])
  ])
]
  where
    below : (n m : ℕ) → n ≡ m → n < 128 → m < 128
    below n m same less = omega (arith, same, less)

quoted_low : (b : ℕ) (bs : Bytes) → b < 128 → IsUtf8 bs → BothQuoted bs → BothQuoted (b ∷ bs)
quoted_low b bs small u ih = (plainly, escaping)
  where
    plainly : (q : Quote) → quote_of false (b ∷ bs) ≡ Some q → Quoted 1 q (b ∷ bs)
    plainly q is = elim (cases_Bool (b == 34)) [
      | inl quote ↦ (let none : Quote = record { text = []; size = 0 } in let same : Some none ≡ Some q = rw quote at is in subst (λ (z : Quote). Quoted 1 z (b ∷ bs)) (some_same same) (IsUtf8-nil, omega arith, u))
      | inr other ↦ (elim (cases_Bool (nat_lt b 32)) [
        | inl control ↦ (let none : None ≡ Some q = rw (other, control) at is in absurd (cc))
        | inr fine ↦ (elim (cases_Bool (b == 92)) [
          | inl slash ↦ (
              let good = ih.1 q (rw (other, fine, slash) at is) in
              let none : q.size + 0 ≡ q.size = omega arith in
              (good.0, good.1, subst IsUtf8 (sym (dropped q.size b bs)) (subst (λ k. IsUtf8 (drop k bs)) none good.2))
              )
          | inr plain ↦ (
              let found = with_some b 1 (quote_of false bs) q (rw (other, fine, plain) at is) in
              with_ascii b 1 1 0 q found.0 (b ∷ bs) bs small found.2 found.3 (omega arith) (ih.0 found.0 found.1) (let e : (1 + found.0.size) + 1 ≡ (found.0.size + 1) + 1 = omega arith in ap (λ m. drop m (b ∷ bs)) e ∙ dropped (found.0.size + 1) b bs)
              )
        ])
      ])
    ]

    escaping : (q : Quote) → quote_of true (b ∷ bs) ≡ Some q → Quoted 0 q (b ∷ bs)
    escaping q is = by (escape_of b) refl is
      where
        by : (o : Option ℕ) → escape_of b ≡ o → escape_then o (quote_of false bs) ≡ Some q → Quoted 0 q (b ∷ bs)
        by None escape same = absurd (cc)
        by (Some c) escape same =
            let found = with_some c 2 (quote_of false bs) q same in
            with_ascii c 2 0 0 q found.0 (b ∷ bs) bs (escaped_byte b c escape) found.2 found.3 (omega arith) (ih.0 found.0 found.1) (let e : (2 + found.0.size) + 0 ≡ (found.0.size + 1) + 1 = omega arith in ap (λ m. drop m (b ∷ bs)) e ∙ dropped (found.0.size + 1) b bs)

-- bytes from 128 on stand for themselves
run_high : (hs bs : Bytes) → AllByRecursion (λ h. 128 ≤ h) hs → quote_of false (hs ++ bs) ≡ behind_run hs (length hs) (quote_of false bs)
run_high [] bs high = none (quote_of false bs)
  where
    none : (o : Option Quote) → o ≡ behind_run [] 0 o
    none None = refl
    none (Some q) = let e : q.size ≡ 0 + q.size = omega arith in ap (λ n. (let z : Quote = record { text = q.text; size = n } in Some z)) e
run_high (h ∷ hs) bs high = rw (apart h 34 high.0 (omega arith), no_control h high.0, apart h 92 high.0 (omega arith)) (ap (with_byte h 1) (run_high hs bs high.1) ∙ more (quote_of false bs))
  where
    more : (o : Option Quote) → with_byte h 1 (behind_run hs (length hs) o) ≡ behind_run (h ∷ hs) (suc (length hs)) o
    more None = refl
    more (Some q) = let e : 1 + (length hs + q.size) ≡ suc (length hs) + q.size = omega arith in ap (λ n. (let z : Quote = record { text = h ∷ (hs ++ q.text); size = n } in Some z)) e

quoted_high : (c : ℕ) (bs : Bytes) → 128 ≤ c → IsUtf8 (encode c) → BothQuoted bs → BothQuoted (encode c ++ bs)
quoted_high c bs large own ih = (plainly, escaping (encode c) (all_high c large) (some c))
  where
    some : (c : ℕ) → encode c ≡ encode c
    some c = refl

    plainly : (q : Quote) → quote_of false (encode c ++ bs) ≡ Some q → Quoted 1 q (encode c ++ bs)
    plainly q is = by (quote_of false bs) refl (sym (run_high (encode c) bs (all_high c large)) ∙ is)
      where
        by : (o : Option Quote) → quote_of false bs ≡ o → behind_run (encode c) (length (encode c)) o ≡ Some q → Quoted 1 q (encode c ++ bs)
        by None found same = absurd (cc)
        by (Some r) found same =
            let good = ih.0 r found in
            let e : (length (encode c) + r.size) + 1 ≡ length (encode c) + (r.size + 1) = omega arith in
            subst (λ (z : Quote). Quoted 1 z (encode c ++ bs)) (some_same same) (
              IsUtf8-append (encode c) r.text own good.0,
              longer (length (encode c)) (length r.text) r.size (length (encode c ++ r.text)) (length-append (encode c) r.text) good.1,
              subst IsUtf8 (sym (ap (λ m. drop m (encode c ++ bs)) e ∙ drop-append-add (encode c) bs (r.size + 1))) good.2,
            )
          where
            longer : (i j k n : ℕ) → n ≡ i + j → j ≤ k → n ≤ i + k
            longer i j k n is le = omega (arith, is, le)

    escaping : (hs : Bytes) → AllByRecursion (λ h. 128 ≤ h) hs → hs ≡ encode c → (q : Quote) → quote_of true (encode c ++ bs) ≡ Some q → Quoted 0 q (encode c ++ bs)
    escaping hs high same q is = by hs high same (subst (λ xs. quote_of true (xs ++ bs) ≡ Some q) (sym same) is)
      where
        by : (hs : Bytes) → AllByRecursion (λ h. 128 ≤ h) hs → hs ≡ encode c → quote_of true (hs ++ bs) ≡ Some q → Quoted 0 q (encode c ++ bs)
        by [] high same is = subst (λ xs. Quoted 0 q (xs ++ bs)) same (ih.1 q is)
        by (h ∷ hs) high same is = let none : None ≡ Some q = rw (apart h 34 high.0 (omega arith), apart h 92 high.0 (omega arith), apart h 110 high.0 (omega arith)) at is in absurd (cc)

quotes : (xs : Bytes) → IsUtf8 xs → BothQuoted xs
quotes xs u = by_characters BothQuoted ((λ q is. absurd (cc)), (λ q is. absurd (cc))) quoted_low (λ c bs valid large more ih. quoted_high c bs large (IsUtf8-encode c valid) ih) xs u

-- one token

-- a token has its spelling, and where it isn't bad, what stands behind it is UTF-8
abbrev IsCut : Cut → Bytes → Type 0
IsCut c xs = LexemeSpelled c.lexeme × ((c.lexeme ≡ t.Bad → ⊥) → IsUtf8 (drop c.size xs))

name_byte : (b : ℕ) → is_byte_of_name b ≡ true → b < 128
name_byte b is = grind (arith, nat_tests, is)

digit_byte : (b : ℕ) → is_digit b ≡ true → b < 128
digit_byte b is = grind (arith, nat_tests, is)

run_cut : (p : ℕ → Bool) → ((b : ℕ) → p b ≡ true → b < 128) → (xs : Bytes) → IsUtf8 xs → IsUtf8 (drop (length (take_while p xs)) xs)
run_cut p low xs u = subst (λ n. IsUtf8 (drop n xs)) (sym (length-prefix_len p xs)) (behind_run_of p low xs u)

word_spelled : (o : Option Symbol) (bs : Bytes) → LexemeSpelled (word_lexeme o bs)
word_spelled (Some word) bs = tt
word_spelled None bs = by (nat_le (length bs) 64)
  where
    by : (b : Bool) → LexemeSpelled (if b then t.Name bs else t.Bad)
    by true = tt
    by false = tt

number_spelled : (bs : Bytes) → LexemeSpelled (number_lexeme (decimal_in bs))
number_spelled bs = by ((nat_le (length bs) 1 || not (slice_index bs 0 == 48))) (is_number (digits_value 0 bs)) refl
  where
    signed : (n : ℕ) → is_number n ≡ true → is_i64 (pos n) ≡ true
    signed n is = grind (arith, nat_tests, is)

    by : (a b : Bool) → is_number (digits_value 0 bs) ≡ b → LexemeSpelled (number_lexeme (if a && b then Some (digits_value 0 bs) else None))
    by true true is = signed (digits_value 0 bs) is
    by true false is = tt
    by false b is = tt

text_is : (b : ℕ) (bs : Bytes) (o : Option Quote) → b < 128 → IsUtf8 (b ∷ bs) → ((q : Quote) → o ≡ Some q → Quoted 1 q bs) → IsCut (text_cut o) (b ∷ bs)
text_is b bs None small u each = (tt, (λ fine. absurd (fine refl)))
text_is b bs (Some q) small u each = elim (cases_Bool (nat_le q.size 4096)) [
  | inl fits ↦ (
      let good = each q refl in
      let spelled : is_text q.text ≡ true = and_from (is_utf8 q.text) _ (is_utf8-from_IsUtf8 q.text good.0) (lt-ltb (length q.text) (2 ^ 32) (short (length q.text) q.size good.1 (leb-true q.size 4096 fits))) in
      let e : q.size + 2 ≡ (q.size + 1) + 1 = omega arith in
      rw fits (spelled, (λ fine. subst IsUtf8 (sym (ap (λ m. drop m (b ∷ bs)) e ∙ dropped (q.size + 1) b bs)) good.2))
      )
  | inr long ↦ rw long (tt, (λ fine. absurd (fine refl)))
]
  where
    short : (n m : ℕ) → n ≤ m → m ≤ 4096 → n < 2 ^ 32
    short n m le few = omega (arith, le, few)

-- signs are ASCII

off : (p : Bool) → (p && false) ≡ false
off true = refl
off false = refl

sign_low : (b : ℕ) (y : Symbol) → sign_of_one b ≡ Some y → b < 128
sign_low b y is = elim (cases_lt b 128) [
  | inl low ↦ low
  | inr high ↦ (
      let none : None ≡ Some y = rw (
        apart b 40 high (omega arith),
        apart b 41 high (omega arith),
        apart b 123 high (omega arith),
        apart b 125 high (omega arith),
        apart b 46 high (omega arith),
        apart b 44 high (omega arith),
        apart b 58 high (omega arith),
        apart b 59 high (omega arith),
        apart b 61 high (omega arith),
        apart b 60 high (omega arith),
        apart b 62 high (omega arith),
        apart b 43 high (omega arith),
        apart b 45 high (omega arith),
        apart b 42 high (omega arith),
        apart b 47 high (omega arith),
        apart b 37 high (omega arith),
      ) at is in
      absurd (cc)
      )
]

both_low : (b c : ℕ) (y : Symbol) → sign_of_two b c ≡ Some y → (b < 128) × (c < 128)
both_low b c y is = (
  elim (cases_lt b 128) [
    | inl low ↦ low
    | inr high ↦ (let none : None ≡ Some y = rw (apart b 61 high (omega arith), apart b 33 high (omega arith), apart b 60 high (omega arith), apart b 62 high (omega arith), apart b 43 high (omega arith)) at is in absurd (cc))
  ],
  elim (cases_lt c 128) [
    | inl low ↦ low
    | inr high ↦ (let none : None ≡ Some y = rw (apart c 61 high (omega arith), apart c 43 high (omega arith), off (b == 61), off (b == 33), off (b == 60), off (b == 62), off (b == 43)) at is in absurd (cc))
  ],
)

one_is : (b : ℕ) (bs : Bytes) (o : Option Symbol) → sign_of_one b ≡ o → IsUtf8 (b ∷ bs) → IsCut (cut_of_one o) (b ∷ bs)
one_is b bs None is u = (tt, (λ fine. absurd (fine refl)))
one_is b bs (Some y) is u = (tt, (λ fine. ascii_tail b bs (sign_low b y is) u))

sign_is : (b : ℕ) (bs : Bytes) → IsUtf8 (b ∷ bs) → IsCut (sign_cut b bs) (b ∷ bs)
sign_is b [] u = one_is b [] (sign_of_one b) refl u
sign_is b (c ∷ bs) u = by (sign_of_two b c) refl
  where
    by : (o : Option Symbol) → sign_of_two b c ≡ o → IsCut (cut_of_two o (cut_of_one (sign_of_one b))) (b ∷ c ∷ bs)
    by None is = one_is b (c ∷ bs) (sign_of_one b) refl u
    by (Some y) is = let low = both_low b c y is in (tt, (λ fine. ascii_tail c bs low.1 (ascii_tail b (c ∷ bs) low.0 u)))

cut_is : (b : ℕ) (bs : Bytes) → IsUtf8 (b ∷ bs) → IsCut (cut (b ∷ bs)) (b ∷ bs)
cut_is b bs u =
    let sign : Cut = cond (b == 34) (text_cut (quote_of false bs)) (sign_cut b bs) in
    let number : Cut = cond (is_digit b) (number_cut (take_while is_digit (b ∷ bs))) sign in
    cond_both (is_letter b) (word_cut (take_while is_byte_of_name (b ∷ bs))) number (λ c. IsCut c (b ∷ bs))
    (λ _. (word_spelled (reserved (take_while is_byte_of_name (b ∷ bs))) (take_while is_byte_of_name (b ∷ bs)), (λ fine. run_cut is_byte_of_name name_byte (b ∷ bs) u)))
    (λ _. cond_both (is_digit b) (number_cut (take_while is_digit (b ∷ bs))) sign (λ c. IsCut c (b ∷ bs))
    (λ _. (number_spelled (take_while is_digit (b ∷ bs)), (λ fine. run_cut is_digit digit_byte (b ∷ bs) u)))
    (λ _. cond_both (b == 34) (text_cut (quote_of false bs)) (sign_cut b bs) (λ c. IsCut c (b ∷ bs))
    (λ quote. (let small : b < 128 = low b (eqb-true b 34 quote) in text_is b bs (quote_of false bs) small u (quotes bs (ascii_tail b bs small u)).0))
    (λ _. sign_is b bs u)))
  where
    low : (b : ℕ) → b ≡ 34 → b < 128
    low b same = omega (arith, same)

-- all tokens

blank_low : (b : ℕ) → is_blank b ≡ true → b < 128
blank_low b is = grind (arith, nat_tests, is)

line_low : (b : ℕ) → is_in_line b ≡ false → b < 128
line_low b is = grind (arith, nat_tests, is)

one_comment : (b : ℕ) (bs : Bytes) (at : ℕ) → b ≡ 35 → lexed at 0 (b ∷ bs) ≡ lexed (at + 1 + prefix_len is_in_line bs) 0 (drop (prefix_len is_in_line bs) bs)
one_comment b bs at h = rw h (lexed_skip (at + 1) (prefix_len is_in_line bs) bs)

abbrev AllSpelled : ℕ → Bytes → Type 0
AllSpelled at xs = AllByRecursion LexemeSpelled (map lexeme_of (lexed at 0 xs))

lexed_spelled : (n : ℕ) (xs : Bytes) → length xs ≤ n → IsUtf8 xs → (at : ℕ) → AllSpelled at xs
lexed_spelled n [] short u at = tt
lexed_spelled zero (b ∷ bs) short u at = absurd (none (length bs) short)
  where
    none : (k : ℕ) → suc k ≤ 0 → ⊥
    none k le = omega (arith, le)
lexed_spelled (suc n) (b ∷ bs) short u at = elim (cases_Bool (is_blank b)) [
  | inl blank ↦ subst (λ spots. AllByRecursion LexemeSpelled (map lexeme_of spots)) (sym (one_blank b bs at blank)) (lexed_spelled n bs (fewer (length bs) n short) (ascii_tail b bs (blank_low b blank) u) (at + 1))
  | inr no_blank ↦ (elim (cases_Bool (b == 35)) [
    | inl comment ↦
        subst (λ spots. AllByRecursion LexemeSpelled (map lexeme_of spots)) (sym (one_comment b bs at (eqb-true b 35 comment)))
        (lexed_spelled n (drop (prefix_len is_in_line bs) bs) (rest_short (prefix_len is_in_line bs) bs n (fewer (length bs) n short)) (from_stop is_in_line line_low bs (ascii_tail b bs (low b (eqb-true b 35 comment)) u)) (at + 1 + prefix_len is_in_line bs))
    | inr no_comment ↦ (
        let c : Cut = cut (b ∷ bs) in
        let starts : starts_token (b ∷ bs) ≡ true = rw (no_blank, no_comment) refl in
        let own = cut_is b bs u in
        let sized = cut_sized b bs in
        subst (λ spots. AllByRecursion LexemeSpelled (map lexeme_of spots)) (sym (token_first (b ∷ bs) at c starts refl))
        (own.0, behind c.lexeme (lexed (at + c.size) 0 (drop c.size (b ∷ bs))) (λ fine. lexed_spelled n (drop c.size (b ∷ bs)) (behind_short c.size b bs n sized.0 short) (own.1 fine) (at + c.size)))
        )
  ])
]
  where
    fewer : (k n : ℕ) → suc k ≤ suc n → k ≤ n
    fewer k n le = omega (arith, le)

    low : (b : ℕ) → b ≡ 35 → b < 128
    low b same = omega (arith, same)

    rest_short : (k : ℕ) (xs : Bytes) (n : ℕ) → length xs ≤ n → length (drop k xs) ≤ n
    rest_short zero xs n le = le
    rest_short (suc k) [] n le = le
    rest_short (suc k) (x ∷ xs) n le = rest_short k xs n (less (length xs) n le)
      where
        less : (k n : ℕ) → suc k ≤ n → k ≤ n
        less k n le = omega (arith, le)

    behind_short : (k b : ℕ) (bs : Bytes) (n : ℕ) → 1 ≤ k → suc (length bs) ≤ suc n → length (drop k (b ∷ bs)) ≤ n
    behind_short zero b bs n some le = absurd (omega (arith, some))
    behind_short (suc k) b bs n some le = rest_short k bs n (fewer (length bs) n le)

    behind : (l : Lexeme) (spots : List Spotted) → ((l ≡ t.Bad → ⊥) → AllByRecursion LexemeSpelled (map lexeme_of spots)) → AllByRecursion LexemeSpelled (map lexeme_of (unless_bad l spots))
    behind t.Bad spots each = tt
    behind (t.Int n) spots each = each (λ same. absurd (cc))
    behind (t.Name n) spots each = each (λ same. absurd (cc))
    behind (t.Text n) spots each = each (λ same. absurd (cc))
    behind (t.Symbol y) spots each = each (λ same. absurd (cc))

pub tokens_spelled : (text : Bytes) → IsUtf8 text → AllByRecursion LexemeSpelled (lexemes_of text)
tokens_spelled text u = lexed_spelled (length text) text (omega arith) u 0
