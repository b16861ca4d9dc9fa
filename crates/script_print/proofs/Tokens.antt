-- The names, texts and numbers of a text's tokens can be written.
use Rattle.std.proofs.Common.{◌≡◌, ◌+◌, ◌-◌, ℕ, zero, suc, List, [], ◌∷◌, length, Bool, true, false, cond, ◌&&◌, ◌||◌, Option, Some, None, refl, ap, ◌∙◌}
use Rattle.std.specs.Prelude.{nat_le, not, ◌==◌, map, slice_index, is_some}
use Rattle.std.specs.List.{list_all, take_while, prefix_len}
use Rattle.std.proofs.lemmas.List.Sums.{take_while-cons}
use Rattle.slee_value.specs.Name.{is_letter, is_digit, is_byte_of_name, is_name}
use Rattle.script_tree.specs.declared.symbol.Symbol.{Symbol}
use Rattle.script_tree.specs.declared.lexeme.Lexeme.{Lexeme}
use Rattle.script_tree.specs.declared.lexeme.Lexeme.TheVariants as t
use Rattle.script_tree.specs.declared.lexeme.Cut.{Cut}
use Rattle.script_tree.specs.declared.lexeme.Quote.{Quote}
use Rattle.script_tree.specs.Tree.{Bytes}
use Rattle.script_tree.specs.Words.{reserved, is_identifier, is_number}
use Rattle.script_tree.specs.Lexer.{Spot, is_blank, is_in_line, word_lexeme, word_cut, digits_value, number_lexeme, number_cut, quote_of, text_cut, sign_of_one, sign_of_two, cut_of_one, cut_of_two, sign_cut, cut, unless_bad, spotted, lexed, lexeme_of, lexemes_of}
use Rattle.script_tree.proofs.Quoting.{quote_literal}
use Rattle.script_print.proofs.Levels.{by_test}
use Rattle.script_print.proofs.Expressions.{and_parts, le_is}
use Rattle.script_print.specs.Proper.{is_proper}
use Rattle.script_print.proofs.Steps.{and_join}

-- ---- one token

all_taken : (p : ℕ → Bool) (bs : Bytes) → list_all p (take_while p bs) ≡ true
all_taken p [] = refl
all_taken p (b ∷ bs) =
    let run = take_while p bs in
    ap (list_all p) (take_while-cons p b bs)
    ∙ by_test (p b) (λ e. ap (λ c. list_all p (cond c (b ∷ run) [])) e ∙ and_join (p b) (list_all p run) e (all_taken p bs)) (λ e. ap (λ c. list_all p (cond c (b ∷ run) [])) e)

letter_first : (b : ℕ) → is_letter b ≡ true → is_byte_of_name b ≡ true
letter_first b h = rw h refl

name_proper : (b : ℕ) (bs : Bytes) → is_letter b ≡ true → reserved (b ∷ take_while is_byte_of_name bs) ≡ None → nat_le (length (b ∷ take_while is_byte_of_name bs)) 64 ≡ true → is_identifier (b ∷ take_while is_byte_of_name bs) ≡ true
name_proper b bs letter none short =
    let run = take_while is_byte_of_name bs in
    and_join (is_name (b ∷ run)) (not (is_some (reserved (b ∷ run))))
    (and_join (is_letter b) (list_all is_byte_of_name run && nat_le (length (b ∷ run)) 64) letter (and_join (list_all is_byte_of_name run) (nat_le (length (b ∷ run)) 64) (all_taken is_byte_of_name bs) short))
    (ap (λ o. not (is_some o)) none)

word_proper : (o : Option Symbol) (b : ℕ) (bs : Bytes) → is_letter b ≡ true → reserved (b ∷ take_while is_byte_of_name bs) ≡ o → is_proper (word_lexeme o (b ∷ take_while is_byte_of_name bs)) ≡ true
word_proper (Some word) b bs letter is = refl
word_proper None b bs letter is =
    by_test (nat_le (length (b ∷ take_while is_byte_of_name bs)) 64)
    (λ e. ap (λ c. is_proper (cond c (t.Name (b ∷ take_while is_byte_of_name bs)) t.Bad)) e ∙ name_proper b bs letter is e)
    (λ e. ap (λ c. is_proper (cond c (t.Name (b ∷ take_while is_byte_of_name bs)) t.Bad)) e)

word_cut_proper : (b : ℕ) (bs : Bytes) → is_letter b ≡ true → is_proper (word_cut (take_while is_byte_of_name (b ∷ bs))).lexeme ≡ true
word_cut_proper b bs letter =
    let run : take_while is_byte_of_name (b ∷ bs) ≡ b ∷ take_while is_byte_of_name bs = take_while-cons is_byte_of_name b bs ∙ ap (λ c. cond c (b ∷ take_while is_byte_of_name bs) []) (letter_first b letter) in
    ap (λ w. is_proper (word_cut w).lexeme) run ∙ word_proper (reserved (b ∷ take_while is_byte_of_name bs)) b bs letter refl

number_by : (test : Bool) (n : ℕ) → (test ≡ true → is_number n ≡ true) → is_proper (number_lexeme (cond test (Some n) None)) ≡ true
number_by true n h = h refl
number_by false n h = refl

number_proper : (bs : Bytes) → is_proper (number_cut bs).lexeme ≡ true
number_proper bs =
    let n = digits_value 0 bs in
    let plain = nat_le (length bs) 1 || not (slice_index bs 0 == 48) in
    number_by (plain && is_number n) n (λ e. (and_parts plain (is_number n) e).1)

quote_proper : (o : Option Quote) (bs : Bytes) → quote_of false bs ≡ o → is_proper (text_cut o).lexeme ≡ true
quote_proper None bs is = refl
quote_proper (Some quote) bs is =
    by_test (nat_le quote.size 4096)
    (λ e. rw e (quote_literal bs quote.text quote.size is (le_is quote.size 4096 e)))
    (λ e. rw e refl)

one_proper : (o : Option Symbol) → is_proper (cut_of_one o).lexeme ≡ true
one_proper None = refl
one_proper (Some y) = refl

two_proper : (o p : Option Symbol) → is_proper (cut_of_two o (cut_of_one p)).lexeme ≡ true
two_proper None p = one_proper p
two_proper (Some y) p = refl

sign_proper : (b : ℕ) (bs : Bytes) → is_proper (sign_cut b bs).lexeme ≡ true
sign_proper b [] = one_proper (sign_of_one b)
sign_proper b (c ∷ bs) = two_proper (sign_of_two b c) (sign_of_one b)

cut_by : (b : Bool) (c d : Cut) → (b ≡ true → is_proper c.lexeme ≡ true) → is_proper d.lexeme ≡ true → is_proper (cond b c d).lexeme ≡ true
cut_by true c d h k = h refl
cut_by false c d h k = k

cut_proper : (b : ℕ) (bs : Bytes) → is_proper (cut (b ∷ bs)).lexeme ≡ true
cut_proper b bs =
    let text = text_cut (quote_of false bs) in
    let number = number_cut (take_while is_digit (b ∷ bs)) in
    cut_by (is_letter b) (word_cut (take_while is_byte_of_name (b ∷ bs))) (cond (is_digit b) number (cond (b == 34) text (sign_cut b bs))) (λ e. word_cut_proper b bs e)
    (cut_by (is_digit b) number (cond (b == 34) text (sign_cut b bs)) (λ e. number_proper (take_while is_digit (b ∷ bs)))
    (cut_by (b == 34) text (sign_cut b bs) (λ e. quote_proper (quote_of false bs) bs refl) (sign_proper b bs)))

-- ---- all tokens

abbrev AllProper : List Spot → Type 0
AllProper spots = list_all is_proper (map lexeme_of spots) ≡ true

either : (b : Bool) (xs ys : List Spot) → AllProper xs → AllProper ys → AllProper (cond b xs ys)
either true xs ys h k = h
either false xs ys h k = k

unless_proper : (y : Lexeme) (spots : List Spot) → AllProper spots → AllProper (unless_bad y spots)
unless_proper t.Bad spots h = refl
unless_proper (t.Int n) spots h = h
unless_proper (t.Name n) spots h = h
unless_proper (t.Text n) spots h = h
unless_proper (t.Symbol y) spots h = h

spotted_proper : (c : Cut) (at : ℕ) (later : ℕ → List Spot) → is_proper c.lexeme ≡ true → ((skip : ℕ) → AllProper (later skip)) → AllProper (spotted c at later)
spotted_proper c at later first others = and_join (is_proper c.lexeme) (list_all is_proper (map lexeme_of (unless_bad c.lexeme (later (c.size - 1))))) first (unless_proper c.lexeme (later (c.size - 1)) (others (c.size - 1)))

lexed_proper : (bs : Bytes) (at skip : ℕ) → AllProper (lexed at skip bs)
lexed_proper [] at skip = refl
lexed_proper (b ∷ bs) at (suc skip) = lexed_proper bs (at + 1) skip
lexed_proper (b ∷ bs) at zero =
    let later : ℕ → List Spot = λ skip. lexed (at + 1) skip bs in
    let comment = lexed (at + 1) (prefix_len is_in_line bs) bs in
    either (is_blank b) (lexed (at + 1) 0 bs) (cond (b == 35) comment (spotted (cut (b ∷ bs)) at later)) (lexed_proper bs (at + 1) 0)
    (either (b == 35) comment (spotted (cut (b ∷ bs)) at later) (lexed_proper bs (at + 1) (prefix_len is_in_line bs)) (spotted_proper (cut (b ∷ bs)) at later (cut_proper b bs) (λ skip. lexed_proper bs (at + 1) skip)))

pub tokens_proper : (text : Bytes) → list_all is_proper (lexemes_of text) ≡ true
tokens_proper text = lexed_proper text 0 0
