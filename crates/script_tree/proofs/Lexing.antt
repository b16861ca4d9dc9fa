-- How tokens follow one another in a text.
use Rattle.std.proofs.Common.{◌≡◌, ◌≤◌, ◌<◌, ◌+◌, ◌-◌, ◌*◌, ◌/◌, ℕ, zero, suc, Bool, true, false, cond, ◌&&◌, List, [], ◌∷◌, ◌++◌, length, take, drop, get_or, Option, Some, None, Result, Ok, Err, IsUtf8, IsCharBoundary, refl, sym, ap, subst, ◌∙◌, arith}
use Rattle.std.specs.Prelude.{◌==◌, ◌||◌, not, nat_lt, nat_le, slice_index}
use Rattle.std.specs.List.{prefix_len, take_while, list_all}
use Rattle.std.proofs.lemmas.List.{drop_more, drop-drop, drop_all, length-drop, take_rest, get_or-drop}
use Rattle.std.proofs.lemmas.Str.{IsCharBoundary-after_ascii}
use Rattle.std.proofs.lemmas.List.Folds.{length-prefix_len}
use Rattle.std.proofs.lemmas.List.Sums.{prefix_len-le-length}
use Rattle.std.proofs.lemmas.Bool.Decides.{nat_tests}
use Rattle.slee_value.specs.Name.{is_letter, is_digit, is_byte_of_name}
use Rattle.script_tree.specs.declared.symbol.Symbol.{Symbol}
use Rattle.script_tree.specs.declared.lexeme.Lexeme.{Lexeme}
use Rattle.script_tree.specs.declared.lexeme.Lexeme.TheVariants as t
use Rattle.script_tree.specs.declared.lexeme.Cut.{Cut}
use Rattle.script_tree.specs.declared.lexeme.Quote.{Quote}
use Rattle.script_tree.specs.declared.token.Token.{Token}
use Rattle.script_tree.specs.declared.fault.SyntaxFault.{SyntaxFault}
use Rattle.script_tree.specs.Tree.{Bytes}
use Rattle.script_tree.specs.Lexer.{Spot, Gap, lexed, spots_behind, spotted, unless_bad, is_bad, is_blank, is_in_line, starts_token, cut, cut_of_one, cut_of_two, sign_cut, sign_of_one, sign_of_two, text_cut, quote_of, with_byte, escape_of, escape_then, word_cut, number_cut, digits_value, decimal_in}
use Rattle.script_tree.specs.Words.{is_number}

and_parts : (a b : Bool) → (a && b) ≡ true → (a ≡ true) × (b ≡ true)
and_parts true b h = (refl, h)
and_parts false b h = absurd cc

not_true : (a : Bool) → not a ≡ true → a ≡ false
not_true true h = absurd cc
not_true false h = refl

at_true : {A : Type 0} (a : Bool) (x y : A) → a ≡ true → cond a x y ≡ x
at_true true x y h = refl
at_true false x y h = absurd cc

at_false : {A : Type 0} (a : Bool) (x y : A) → a ≡ false → cond a x y ≡ y
at_false true x y h = absurd cc
at_false false x y h = refl

-- bytes that belong to what came before
pub lexed_skip : (at k : ℕ) (bs : Bytes) → lexed at k bs ≡ lexed (at + k) 0 (drop k bs)
lexed_skip at zero bs = let e : at ≡ at + 0 = omega arith in ap (λ n. lexed n 0 bs) e
lexed_skip at (suc k) [] = refl
lexed_skip at (suc k) (b ∷ bs) = let e : at + 1 + k ≡ at + suc k = omega arith in lexed_skip (at + 1) k bs ∙ ap (λ n. lexed n 0 (drop k bs)) e

-- ---- gaps

pub one_blank : (b : ℕ) (bs : Bytes) (at : ℕ) → is_blank b ≡ true → lexed at 0 (b ∷ bs) ≡ lexed (at + 1) 0 bs
one_blank b bs at h = at_true (is_blank b) (lexed (at + 1) 0 bs) (cond (b == 35) (lexed (at + 1) (prefix_len is_in_line bs) bs) (spotted (cut (b ∷ bs)) at (λ skip. lexed (at + 1) skip bs))) h

one_comment : (b : ℕ) (bs : Bytes) (at : ℕ) → b ≡ 35 → lexed at 0 (b ∷ bs) ≡ lexed (at + 1 + prefix_len is_in_line bs) 0 (drop (prefix_len is_in_line bs) bs)
one_comment b bs at h = rw h (lexed_skip (at + 1) (prefix_len is_in_line bs) bs)

abbrev pub Passed : Bytes → ℕ → Type 0
Passed bs n = (at : ℕ) → lexed at 0 bs ≡ lexed (at + n) 0 (drop n bs)

pub passed_none : (bs : Bytes) → Passed bs 0
passed_none bs at = let e : at ≡ at + 0 = omega arith in ap (λ n. lexed n 0 bs) e

pub passed_blank : (bs : Bytes) (n : ℕ) → n < length bs → is_blank (get_or bs n 0) ≡ true → Passed bs n → Passed bs (n + 1)
passed_blank bs n lt h p at =
    let e : at + n + 1 ≡ at + (n + 1) = omega arith in
    p at ∙ ap (lexed (at + n) 0) (drop_more bs n 0 lt) ∙ one_blank (get_or bs n 0) (drop (n + 1) bs) (at + n) h ∙ ap (λ m. lexed m 0 (drop (n + 1) bs)) e

pub passed_comment : (bs : Bytes) (n k : ℕ) → n < length bs → get_or bs n 0 ≡ 35 → k ≡ prefix_len is_in_line (drop (n + 1) bs) → Passed bs n → Passed bs (n + 1 + k)
passed_comment bs n k lt h l p at =
    let e : at + n + 1 + k ≡ at + (n + 1 + k) = omega arith in
    p at ∙ ap (lexed (at + n) 0) (drop_more bs n 0 lt) ∙ one_comment (get_or bs n 0) (drop (n + 1) bs) (at + n) h
    ∙ ap (λ m. lexed (at + n + 1 + m) 0 (drop m (drop (n + 1) bs))) (sym l)
    ∙ ap (lexed (at + n + 1 + k) 0) (drop-drop k (n + 1) bs) ∙ ap (λ m. lexed m 0 (drop (n + 1 + k) bs)) e

pub stops_here : (bs : Bytes) (n : ℕ) → n < length bs → is_blank (get_or bs n 0) ≡ false → (get_or bs n 0 == 35) ≡ false → starts_token (drop n bs) ≡ true
stops_here bs n lt h l = ap starts_token (drop_more bs n 0 lt) ∙ both (is_blank (get_or bs n 0)) (get_or bs n 0 == 35) h l
  where
    both : (a b : Bool) → a ≡ false → b ≡ false → (not a && not b) ≡ true
    both false false h l = refl
    both true b h l = absurd cc
    both false true h l = absurd cc

-- ---- sizes

run_fits : (p : ℕ → Bool) (b : ℕ) (bs : Bytes) → p b ≡ true → (1 ≤ length (take_while p (b ∷ bs))) × (length (take_while p (b ∷ bs)) ≤ length (b ∷ bs))
run_fits p b bs h =
    let n = length-prefix_len p (b ∷ bs) in
    let le = prefix_len-le-length p (b ∷ bs) in
    let one : prefix_len p (b ∷ bs) ≡ 1 + prefix_len p bs = at_true (p b) (1 + prefix_len p bs) 0 h in
    (omega (arith, n, one), omega (arith, n, le))

letter_in_name : (b : ℕ) → is_letter b ≡ true → is_byte_of_name b ≡ true
letter_in_name b h = or_left (is_letter b) (is_digit b || b == 95) h
  where
    or_left : (a c : Bool) → a ≡ true → (a || c) ≡ true
    or_left true c h = refl
    or_left false c h = absurd cc

abbrev Short : ℕ → Option Quote → Type 0
Short n None = Unit {0}
Short n (Some q) = q.size + 1 ≤ n

short_cond : (a : Bool) (n : ℕ) (x y : Option Quote) → Short n x → Short n y → Short n (cond a x y)
short_cond true n x y h l = h
short_cond false n x y h l = l

short_with : (b k m n : ℕ) (o : Option Quote) → m + k ≤ n → Short m o → Short n (with_byte b k o)
short_with b k m n None le h = tt
short_with b k m n (Some q) le h = omega arith

short_escape : (o : Option ℕ) (m n : ℕ) (x : Option Quote) → m + 2 ≤ n → Short m x → Short n (escape_then o x)
short_escape None m n x le h = tt
short_escape (Some c) m n x le h = short_with c 2 m n x le h

pub quote_short : (bs : Bytes) → Short (length bs) (quote_of false bs) × Short (length bs + 1) (quote_of true bs)
quote_short [] = (tt, tt)
quote_short (b ∷ bs) =
    let both = quote_short bs in
    let n : length (b ∷ bs) ≡ length bs + 1 = omega arith in (
      short_cond (b == 34) (length (b ∷ bs)) (Some (record { text = []; size = 0 })) (cond (nat_lt b 32) None (cond (b == 92) (quote_of true bs) (with_byte b 1 (quote_of false bs)))) (omega arith)
          (short_cond (nat_lt b 32) (length (b ∷ bs)) None (cond (b == 92) (quote_of true bs) (with_byte b 1 (quote_of false bs))) tt
          (short_cond (b == 92) (length (b ∷ bs)) (quote_of true bs) (with_byte b 1 (quote_of false bs)) (rw n both.1) (short_with b 1 (length bs) (length (b ∷ bs)) (quote_of false bs) (omega arith) both.0))),
      short_escape (escape_of b) (length bs) (length (b ∷ bs) + 1) (quote_of false bs) (omega arith) both.0,
    )

abbrev Sized : ℕ → Cut → Type 0
Sized n c = (1 ≤ c.size) × (c.size ≤ n)

text_sized : (o : Option Quote) (m n : ℕ) → m + 1 ≤ n → Short m o → Sized n (text_cut o)
text_sized None m n le h = (omega arith, omega arith)
text_sized (Some q) m n le h = by_limit (nat_le q.size 4096)
  where
    by_limit : (a : Bool) → Sized n (cond a (record { lexeme = t.Text q.text; size = q.size + 2 }) (record { lexeme = t.Bad; size = 1 }))
    by_limit true = (omega arith, omega arith)
    by_limit false = (omega arith, omega arith)

one_sized : (o : Option Symbol) (n : ℕ) → 1 ≤ n → Sized n (cut_of_one o)
one_sized None n h = (omega arith, h)
one_sized (Some y) n h = (omega arith, h)

two_sized : (o : Option Symbol) (other : Cut) (n : ℕ) → 2 ≤ n → Sized n other → Sized n (cut_of_two o other)
two_sized None other n le h = h
two_sized (Some y) other n le h = (omega arith, le)

sign_sized : (b : ℕ) (bs : Bytes) (n : ℕ) → length bs + 1 ≤ n → Sized n (sign_cut b bs)
sign_sized b [] n h = one_sized (sign_of_one b) n (omega arith)
sign_sized b (c ∷ bs) n h = two_sized (sign_of_two b c) (cut_of_one (sign_of_one b)) n (omega arith) (one_sized (sign_of_one b) n (omega arith))

sized_cond : (a : Bool) (n : ℕ) (x y : Cut) → (a ≡ true → Sized n x) → Sized n y → Sized n (cond a x y)
sized_cond true n x y h l = h refl
sized_cond false n x y h l = l

pub cut_sized : (b : ℕ) (bs : Bytes) → Sized (length (b ∷ bs)) (cut (b ∷ bs))
cut_sized b bs =
    let n = length (b ∷ bs) in
    let sign = sign_sized b bs n (omega arith) in
    let text = text_sized (quote_of false bs) (length bs) n (omega arith) (quote_short bs).0 in
    let inner = sized_cond (b == 34) n (text_cut (quote_of false bs)) (sign_cut b bs) (λ e. text) sign in
    let digits = sized_cond (is_digit b) n (number_cut (take_while is_digit (b ∷ bs))) (cond (b == 34) (text_cut (quote_of false bs)) (sign_cut b bs)) (λ e. run_fits is_digit b bs e) inner in
    sized_cond (is_letter b) n (word_cut (take_while is_byte_of_name (b ∷ bs))) (cond (is_digit b) (number_cut (take_while is_digit (b ∷ bs))) (cond (b == 34) (text_cut (quote_of false bs)) (sign_cut b bs))) (λ e. run_fits is_byte_of_name b bs (letter_in_name b e)) digits

-- ---- the part of a text from a place on

abbrev pub part : Bytes → ℕ → Bytes
part bytes at = take (length bytes - at) (drop at bytes)

pub part_is : (bytes text : Bytes) (at : ℕ) → bytes ≡ text → part bytes at ≡ drop at text
part_is bytes text at e = take_rest bytes at ∙ ap (drop at) e

-- ---- tokens

drop_behind : (b : ℕ) (bs : Bytes) (n : ℕ) → 1 ≤ n → drop (n - 1) bs ≡ drop n (b ∷ bs)
drop_behind b bs zero h = absurd (omega arith)
drop_behind b bs (suc n) h = let e : suc n - 1 ≡ n = omega arith in ap (λ m. drop m bs) e

abbrev pub spot_of : Cut → ℕ → Spot
spot_of c at = record { lexeme = c.lexeme; start = at; stop = at + c.size }

spotted_is : (c : Cut) (b : ℕ) (bs : Bytes) (at : ℕ) → 1 ≤ c.size → spotted c at (λ skip. lexed (at + 1) skip bs) ≡ spot_of c at ∷ unless_bad c.lexeme (lexed (at + c.size) 0 (drop c.size (b ∷ bs)))
spotted_is c b bs at h =
    let e : at + 1 + (c.size - 1) ≡ at + c.size = omega arith in
    ap (λ spots. spot_of c at ∷ unless_bad c.lexeme spots) (lexed_skip (at + 1) (c.size - 1) bs ∙ ap (λ n. lexed n 0 (drop (c.size - 1) bs)) e ∙ ap (lexed (at + c.size) 0) (drop_behind b bs c.size h))

lexed_token : (b : ℕ) (bs : Bytes) (at : ℕ) → starts_token (b ∷ bs) ≡ true → lexed at 0 (b ∷ bs) ≡ spot_of (cut (b ∷ bs)) at ∷ unless_bad (cut (b ∷ bs)).lexeme (lexed (at + (cut (b ∷ bs)).size) 0 (drop (cut (b ∷ bs)).size (b ∷ bs)))
lexed_token b bs at h =
    let parts = and_parts (not (is_blank b)) (not (b == 35)) h in
    at_false (is_blank b) (lexed (at + 1) 0 bs) (cond (b == 35) (lexed (at + 1) (prefix_len is_in_line bs) bs) (spotted (cut (b ∷ bs)) at (λ skip. lexed (at + 1) skip bs))) (not_true (is_blank b) parts.0)
    ∙ at_false (b == 35) (lexed (at + 1) (prefix_len is_in_line bs) bs) (spotted (cut (b ∷ bs)) at (λ skip. lexed (at + 1) skip bs)) (not_true (b == 35) parts.1)
    ∙ spotted_is (cut (b ∷ bs)) b bs at (cut_sized b bs).0

pub token_first : (bs : Bytes) (at : ℕ) (c : Cut) → starts_token bs ≡ true → cut bs ≡ c → lexed at 0 bs ≡ spot_of c at ∷ unless_bad c.lexeme (lexed (at + c.size) 0 (drop c.size bs))
token_first [] at c h e = absurd cc
token_first (b ∷ bs) at c h e = lexed_token b bs at h ∙ ap (λ (k : Cut). spot_of k at ∷ unless_bad k.lexeme (lexed (at + k.size) 0 (drop k.size (b ∷ bs)))) e

cut_fits : (bs : Bytes) → (cut bs).size ≤ length bs
cut_fits [] = omega arith
cut_fits (b ∷ bs) = (cut_sized b bs).1

-- behind a bad token the text is at its end
unless_at_end : (y : Lexeme) (text : Bytes) (stop behind : ℕ) → behind ≡ cond (is_bad y) (length text) stop → unless_bad y (spots_behind text stop) ≡ spots_behind text behind
unless_at_end (t.Int n) text stop behind e = ap (spots_behind text) (sym e)
unless_at_end (t.Name n) text stop behind e = ap (spots_behind text) (sym e)
unless_at_end (t.Text n) text stop behind e = ap (spots_behind text) (sym e)
unless_at_end (t.Symbol y) text stop behind e = ap (spots_behind text) (sym e)
unless_at_end t.Bad text stop behind e = sym (ap (lexed behind 0) (drop_all behind text (omega (arith, e))))

-- the next token of a text behind a place, and the place behind it
pub record Next (text : Bytes) (at start : ℕ) (c : Cut) : Type 0 where
  pub within : start + c.size ≤ length text
  pub goes_on : (behind : ℕ) → behind ≡ cond (is_bad c.lexeme) (length text) (start + c.size) → spots_behind text at ≡ spot_of c start ∷ spots_behind text behind

pub next_is : (bytes text : Bytes) (at k : ℕ) (c : Cut) → bytes ≡ text → at ≤ length text → Gap (part bytes at) k → ¬ (at + k ≡ length bytes) → c ≡ cut (drop (at + k) text) → Next text at (at + k) c
next_is bytes text at k c e fits gap more is =
    let start = at + k in
    let here : Gap (drop at text) k = subst (λ (bs : Bytes). Gap bs k) (part_is bytes text at e) gap in
    let moved : drop k (drop at text) ≡ drop start text = drop-drop k at text in
    let begins : starts_token (drop start text) ≡ true = ap starts_token (sym moved) ∙ here.stops (omega (arith, ap length e, here.within, length-drop at text)) in
    let behind_gap : spots_behind text at ≡ spots_behind text start = here.passed at ∙ ap (lexed start 0) moved in
    let cut_off : spots_behind text start ≡ spot_of c start ∷ unless_bad c.lexeme (spots_behind text (start + c.size)) =
    token_first (drop start text) start c begins (sym is) ∙ ap (λ bs. spot_of c start ∷ unless_bad c.lexeme (lexed (start + c.size) 0 bs)) (drop-drop c.size start text) in
    record {
      within = omega (arith, ap length e, here.within, length-drop at text, length-drop start text, cut_fits (drop start text), ap (λ (k : Cut). k.size) is);
      goes_on = λ behind there. behind_gap ∙ cut_off ∙ ap (λ spots. spot_of c start ∷ spots) (unless_at_end c.lexeme text (start + c.size) behind there);
    }

-- ---- the tokens that were read, before those that are left

abbrev pub with_front : List Token → Result (List Token) SyntaxFault → Result (List Token) SyntaxFault
with_front ts (Ok us) = Ok (ts ++ us)
with_front ts (Err f) = Err f

-- ---- numbers

pub digits_grow : (bs : Bytes) (n : ℕ) → n ≤ digits_value n bs
digits_grow [] n = omega arith
digits_grow (b ∷ bs) n = omega (arith, digits_grow bs (n * 10 + (b - 48)))

and_false : (a b : Bool) → b ≡ false → (a && b) ≡ false
and_false true b h = h
and_false false b h = refl

-- a number that is too large before its last digit
pub too_large : (ds : Bytes) (n i : ℕ) → i < length ds → digits_value n (drop i ds) ≡ digits_value 0 ds → (9223372036854775807 - (get_or ds i 0 - 48)) / 10 < n → None ≡ decimal_in ds
too_large ds n i lt left h =
    let d = get_or ds i 0 in
    let e : drop i ds ≡ d ∷ drop (i + 1) ds = drop_more ds i 0 lt in
    let grown : n * 10 + (d - 48) ≤ digits_value (n * 10 + (d - 48)) (drop (i + 1) ds) = digits_grow (drop (i + 1) ds) (n * 10 + (d - 48)) in
    let same : digits_value (n * 10 + (d - 48)) (drop (i + 1) ds) ≡ digits_value 0 ds = sym (ap (digits_value n) e) ∙ left in
    let above : 9223372036854775807 < n * 10 + (d - 48) = omega arith in
    sym (at_false ((nat_le (length ds) 1 || not (slice_index ds 0 == 48)) && is_number (digits_value 0 ds)) (Some (digits_value 0 ds)) None
    (and_false (nat_le (length ds) 1 || not (slice_index ds 0 == 48)) (is_number (digits_value 0 ds)) (no_number (digits_value 0 ds) (omega arith))))
  where
    no_number : (m : ℕ) → 9223372036854775807 < m → is_number m ≡ false
    no_number m h = grind (arith, nat_tests)

-- ---- a token at a place

pub run_all : (p : ℕ → Bool) (xs : Bytes) (n : ℕ) → n ≡ prefix_len p xs → list_all p (take n xs) ≡ true
run_all p [] n h = rw h refl
run_all p (x ∷ xs) n h = by_first (p x) refl (run_all p xs (prefix_len p xs) refl)
  where
    by_first : (a : Bool) → p x ≡ a → list_all p (take (prefix_len p xs) xs) ≡ true → list_all p (take n (x ∷ xs)) ≡ true
    by_first true e more =
        let k : n ≡ suc (prefix_len p xs) = h ∙ ap (λ a. cond a (1 + prefix_len p xs) 0) e ∙ omega arith in
        ap (λ i. list_all p (take i (x ∷ xs))) k ∙ rw e more
    by_first false e more =
        let k : n ≡ 0 = h ∙ ap (λ a. cond a (1 + prefix_len p xs) 0) e in
        ap (λ i. list_all p (take i (x ∷ xs))) k

pub word_here : (here : Bytes) (k : ℕ) → 1 ≤ length here → is_letter (get_or here 0 0) ≡ true → k ≡ prefix_len is_byte_of_name here → word_cut (take k here) ≡ cut here
word_here [] k some h e = absurd (omega arith)
word_here (b ∷ bs) k some h e =
    ap (λ i. word_cut (take i (b ∷ bs))) e
    ∙ sym (at_true (is_letter b) (word_cut (take_while is_byte_of_name (b ∷ bs))) (cond (is_digit b) (number_cut (take_while is_digit (b ∷ bs))) (cond (b == 34) (text_cut (quote_of false bs)) (sign_cut b bs))) h)

pub text_here : (here : Bytes) → 1 ≤ length here → get_or here 0 0 ≡ 34 → text_cut (quote_of false (drop 1 here)) ≡ cut here
text_here [] some h = absurd (omega arith)
text_here (b ∷ bs) some h = rw h refl

pub quote_boundary : (bytes text : Bytes) (at : ℕ) → bytes ≡ text → IsUtf8 text → 1 ≤ length (part bytes at) → get_or (part bytes at) 0 0 ≡ 34 → IsCharBoundary text (at + 1)
quote_boundary bytes text at e u some h =
    let p = part_is bytes text at e in
    let lt : at < length text = omega (arith, ap length p, length-drop at text) in
    let z : at + 0 ≡ at = omega arith in
    let byte : get_or text at 0 ≡ 34 = ap (λ i. get_or text i 0) (sym z) ∙ sym (get_or-drop at text 0 0) ∙ ap (λ (xs : Bytes). get_or xs 0 0) (sym p) ∙ h in
    IsCharBoundary-after_ascii text at u lt (omega arith)
