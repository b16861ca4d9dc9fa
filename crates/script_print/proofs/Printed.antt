-- The text of a script is read as the tokens that it was printed from.
use Rattle.std.proofs.Common.{◌≡◌, ◌≤◌, ◌<◌, ◌+◌, ◌*◌, ◌-◌, ◌/◌, ◌%◌, ◌^◌, ℕ, zero, suc, Bool, true, false, cond, ◌&&◌, ◌||◌, List, [], ◌∷◌, ◌++◌, length, drop, get_or, map, Option, Some, None, refl, sym, ap, ◌∙◌, arith, append_assoc}
use Rattle.std.specs.Prelude.{◌==◌, not, nat_lt, nat_le, is_some, slice_index}
use Rattle.std.specs.List.{prefix_len, take_while, list_all, flat_map}
use Rattle.std.specs.Fmt.{decimal}
use Rattle.std.proofs.lemmas.List.{length-append, take_at, drop_at}
use Rattle.std.proofs.lemmas.Fmt.{decimal_digit, decimal_by_steps, first_decimal}
use Rattle.std.proofs.lemmas.Bool.Decides.{nat_tests}
use Rattle.slee_value.specs.Name.{is_letter, is_digit, is_byte_of_name, is_name}
use Rattle.script_tree.specs.declared.symbol.Operator.{Operator}
use Rattle.script_tree.specs.declared.symbol.Operator.TheVariants as o
use Rattle.script_tree.specs.declared.symbol.Constant.{Constant}
use Rattle.script_tree.specs.declared.symbol.Constant.TheVariants as k
use Rattle.script_tree.specs.declared.symbol.Function.{Function}
use Rattle.script_tree.specs.declared.symbol.Function.TheVariants as f
use Rattle.script_tree.specs.declared.symbol.Verb.{Verb}
use Rattle.script_tree.specs.declared.symbol.Verb.TheVariants as v
use Rattle.script_tree.specs.declared.symbol.Fixed.{Fixed}
use Rattle.script_tree.specs.declared.symbol.Fixed.TheVariants as x
use Rattle.script_tree.specs.declared.symbol.Symbol.{Symbol}
use Rattle.script_tree.specs.declared.symbol.Symbol.TheVariants as s
use Rattle.script_tree.specs.declared.lexeme.Lexeme.{Lexeme}
use Rattle.script_tree.specs.declared.lexeme.Lexeme.TheVariants as t
use Rattle.script_tree.specs.declared.lexeme.Cut.{Cut}
use Rattle.script_tree.specs.declared.lexeme.Quote.{Quote}
use Rattle.script_tree.specs.Tree.{Bytes}
use Rattle.script_tree.specs.Words.{reserved, is_identifier, is_literal, is_number, is_byte_of_text, quoted, quoted_byte}
use Rattle.script_tree.specs.Lexer.{Spot, lexed, lexeme_of, unless_bad, is_blank, starts_token, cut, word_cut, word_lexeme, number_cut, number_lexeme, digits_value, text_cut, quote_of, with_byte, sign_cut}
use Rattle.script_print.specs.declared.manner.Manner.{Manner}
use Rattle.script_print.specs.declared.manner.Manner.TheVariants as m
use Rattle.script_print.specs.Layout.{lexeme_text, manner, is_tight, ends_line, nesting, margin, indent, gap, behind, laid_out, can_be_written}
use Rattle.script_tree.proofs.Lexing.{token_first, one_blank}

and_parts : (a b : Bool) → (a && b) ≡ true → (a ≡ true) × (b ≡ true)
and_parts true b h = (refl, h)
and_parts false b h = absurd cc

and_both : (a b : Bool) → a ≡ true → b ≡ true → (a && b) ≡ true
and_both true b h l = l
and_both false b h l = absurd cc

at_true : {A : Type 0} (a : Bool) (x y : A) → a ≡ true → cond a x y ≡ x
at_true true x y h = refl
at_true false x y h = absurd cc

at_false : {A : Type 0} (a : Bool) (x y : A) → a ≡ false → cond a x y ≡ y
at_false true x y h = absurd cc
at_false false x y h = refl

-- a byte behind which no token goes on
pub record Stop (g : ℕ) : Type 0 where
  pub name : is_byte_of_name g ≡ false
  pub digit : is_digit g ≡ false
  pub equal : (g == 61) ≡ false
  pub plus : (g == 43) ≡ false

-- a token whose text is cut off as that token before such a byte
pub record Clean (g : ℕ) (y : Lexeme) : Type 0 where
  pub starts : (rest : Bytes) → starts_token (lexeme_text y ++ g ∷ rest) ≡ true
  pub cut_is : (rest : Bytes) → cut (lexeme_text y ++ g ∷ rest) ≡ record { lexeme = y; size = length (lexeme_text y) }

-- ---- runs

run_len : (p : ℕ → Bool) (xs : Bytes) (g : ℕ) (rest : Bytes) → list_all p xs ≡ true → p g ≡ false → prefix_len p (xs ++ g ∷ rest) ≡ length xs
run_len p [] g rest h l = at_false (p g) (1 + prefix_len p rest) 0 l
run_len p (x ∷ xs) g rest h l =
    let parts = and_parts (p x) (list_all p xs) h in
    let e : 1 + length xs ≡ length (x ∷ xs) = omega arith in
    at_true (p x) (1 + prefix_len p (xs ++ g ∷ rest)) 0 parts.0 ∙ ap (λ n. 1 + n) (run_len p xs g rest parts.1 l) ∙ e

run_again : (p : ℕ → Bool) (xs : Bytes) (g : ℕ) (rest : Bytes) → list_all p xs ≡ true → p g ≡ false → take_while p (xs ++ g ∷ rest) ≡ xs
run_again p xs g rest h l = take_at xs (g ∷ rest) (prefix_len p (xs ++ g ∷ rest)) (sym (run_len p xs g rest h l))

-- ---- names

no_word : (r : Option Symbol) → not (is_some r) ≡ true → r ≡ None
no_word None h = refl
no_word (Some y) h = absurd cc

letter_starts : (b : ℕ) (bs : Bytes) → is_letter b ≡ true → starts_token (b ∷ bs) ≡ true
letter_starts b bs h = grind (arith, nat_tests)

letter_in_name : (b : ℕ) → is_letter b ≡ true → is_byte_of_name b ≡ true
letter_in_name b h = or_left (is_letter b) (is_digit b || b == 95) h
  where
    or_left : (a c : Bool) → a ≡ true → (a || c) ≡ true
    or_left true c h = refl
    or_left false c h = absurd cc

abbrev first_letter : Bytes → Bool
first_letter [] = false
first_letter (b ∷ bs) = is_letter b

-- a run of bytes of a name that is one word
word_clean : (g : ℕ) (y : Lexeme) → Stop g → first_letter (lexeme_text y) ≡ true → list_all is_byte_of_name (lexeme_text y) ≡ true → word_cut (lexeme_text y) ≡ record { lexeme = y; size = length (lexeme_text y) } → Clean g y
word_clean g y stop first all word = record { starts = λ rest. (cut_by (lexeme_text y) rest first all).0; cut_is = λ rest. (cut_by (lexeme_text y) rest first all).1 ∙ word }
  where
    cut_by : (bs rest : Bytes) → first_letter bs ≡ true → list_all is_byte_of_name bs ≡ true → (starts_token (bs ++ g ∷ rest) ≡ true) × (cut (bs ++ g ∷ rest) ≡ word_cut bs)
    cut_by [] rest first all = absurd cc
    cut_by (b ∷ bs) rest first all = (
      letter_starts b (bs ++ g ∷ rest) first,
      at_true (is_letter b) (word_cut (take_while is_byte_of_name (b ∷ (bs ++ g ∷ rest)))) (cond (is_digit b) (number_cut (take_while is_digit (b ∷ (bs ++ g ∷ rest)))) (cond (b == 34) (text_cut (quote_of false (bs ++ g ∷ rest))) (sign_cut b (bs ++ g ∷ rest)))) first
          ∙ ap word_cut (run_again is_byte_of_name (b ∷ bs) g rest all stop.name),
    )

name_clean : (g : ℕ) (n : Bytes) → Stop g → is_identifier n ≡ true → Clean g (t.Name n)
name_clean g [] stop h = absurd cc
name_clean g (b ∷ bs) stop h =
    let parts = and_parts (is_name (b ∷ bs)) (not (is_some (reserved (b ∷ bs)))) h in
    let first = and_parts (is_letter b) (list_all is_byte_of_name bs && nat_le (length (b ∷ bs)) 64) parts.0 in
    let more = and_parts (list_all is_byte_of_name bs) (nat_le (length (b ∷ bs)) 64) first.1 in
    let all = and_both (is_byte_of_name b) (list_all is_byte_of_name bs) (letter_in_name b first.0) more.0 in
    let word : word_cut (b ∷ bs) ≡ record { lexeme = t.Name (b ∷ bs); size = length (b ∷ bs) } =
    ap (λ r. let c : Cut = record { lexeme = word_lexeme r (b ∷ bs); size = length (b ∷ bs) } in c) (no_word (reserved (b ∷ bs)) parts.1)
    ∙ ap (λ y. let c : Cut = record { lexeme = y; size = length (b ∷ bs) } in c) (at_true (nat_le (length (b ∷ bs)) 64) (t.Name (b ∷ bs)) t.Bad more.1) in
    word_clean g (t.Name (b ∷ bs)) stop first.0 all word

-- ---- numbers

record Digits (n : ℕ) (ds : Bytes) : Type 0 where
  digits : list_all is_digit ds ≡ true
  value : digits_value 0 ds ≡ n
  some : 0 < length ds

all_append : (p : ℕ → Bool) (xs ys : Bytes) → list_all p xs ≡ true → list_all p ys ≡ true → list_all p (xs ++ ys) ≡ true
all_append p [] ys h l = l
all_append p (x ∷ xs) ys h l = let parts = and_parts (p x) (list_all p xs) h in and_both (p x) (list_all p (xs ++ ys)) parts.0 (all_append p xs ys parts.1 l)

value_push : (ds : Bytes) (m y : ℕ) → digits_value m (ds ++ y ∷ []) ≡ digits_value m ds * 10 + (y - 48)
value_push [] m y = refl
value_push (d ∷ ds) m y = value_push ds (m * 10 + (d - 48)) y

digit_is : (n : ℕ) → n < 10 → is_digit (48 + n) ≡ true
digit_is n h = grind (arith, nat_tests)

one_digit : (n : ℕ) → n < 10 → Digits n ((48 + n) ∷ [])
one_digit n h = record { digits = and_both (is_digit (48 + n)) true (digit_is n h) refl; value = omega arith; some = omega arith }

more_digits : (n : ℕ) (ds : Bytes) → 10 ≤ n → Digits (n / 10) ds → Digits n (ds ++ (48 + n % 10) ∷ [])
more_digits n ds h d =
    let last : n % 10 < 10 = omega arith in
    let v = d.value in
    record {
      digits = all_append is_digit ds ((48 + n % 10) ∷ []) d.digits (and_both (is_digit (48 + n % 10)) true (digit_is (n % 10) last) refl);
      value = value_push ds 0 (48 + n % 10) ∙ omega arith;
      some = omega (arith, length-append ds ((48 + n % 10) ∷ []));
    }

digits_of_decimal : (n : ℕ) → n < 2 ^ 64 → Digits n (decimal n)
digits_of_decimal n h = decimal_by_steps Digits one_digit more_digits n h

no_zero : (n : ℕ) → n < 2 ^ 64 → (nat_le (length (decimal n)) 1 || not (slice_index (decimal n) 0 == 48)) ≡ true
no_zero zero h = rw (decimal_digit 0 (omega arith)) refl
no_zero (suc n) h = let first = first_decimal (suc n) (omega arith) h in or_right (nat_le (length (decimal (suc n))) 1) (not (get_or (decimal (suc n)) 0 0 == 48)) (above (get_or (decimal (suc n)) 0 0) first)
  where
    or_right : (a b : Bool) → b ≡ true → (a || b) ≡ true
    or_right true b h = refl
    or_right false b h = h

    above : (d : ℕ) → 48 < d → not (d == 48) ≡ true
    above d h = grind (arith, nat_tests)

digit_starts : (b : ℕ) (bs : Bytes) → is_digit b ≡ true → starts_token (b ∷ bs) ≡ true
digit_starts b bs h = grind (arith, nat_tests)

no_letter : (b : ℕ) → is_digit b ≡ true → is_letter b ≡ false
no_letter b h = grind (arith, nat_tests)

digits_cut : (g : ℕ) (ds : Bytes) (n : ℕ) (rest : Bytes) → Stop g → Digits n ds → (nat_le (length ds) 1 || not (slice_index ds 0 == 48)) ≡ true → is_number n ≡ true → (starts_token (ds ++ g ∷ rest) ≡ true) × (cut (ds ++ g ∷ rest) ≡ record { lexeme = t.Int n; size = length ds })
digits_cut g [] n rest stop d z h = absurd (omega (arith, d.some))
digits_cut g (b ∷ bs) n rest stop d z h =
    let parts = and_parts (is_digit b) (list_all is_digit bs) d.digits in
    let number : is_number (digits_value 0 (b ∷ bs)) ≡ true = ap is_number d.value ∙ h in
    let both = and_both (nat_le (length (b ∷ bs)) 1 || not (b == 48)) (is_number (digits_value 0 (b ∷ bs))) z number in
    let inner = at_true ((nat_le (length (b ∷ bs)) 1 || not (b == 48)) && is_number (digits_value 0 (b ∷ bs))) (Some (digits_value 0 (b ∷ bs))) None both ∙ ap Some d.value in (
      digit_starts b (bs ++ g ∷ rest) parts.0,
      at_false (is_letter b) (word_cut (take_while is_byte_of_name (b ∷ (bs ++ g ∷ rest)))) (cond (is_digit b) (number_cut (take_while is_digit (b ∷ (bs ++ g ∷ rest)))) (cond (b == 34) (text_cut (quote_of false (bs ++ g ∷ rest))) (sign_cut b (bs ++ g ∷ rest)))) (no_letter b parts.0)
          ∙ at_true (is_digit b) (number_cut (take_while is_digit (b ∷ (bs ++ g ∷ rest)))) (cond (b == 34) (text_cut (quote_of false (bs ++ g ∷ rest))) (sign_cut b (bs ++ g ∷ rest))) parts.0
          ∙ ap number_cut (run_again is_digit (b ∷ bs) g rest d.digits stop.digit)
          ∙ ap (λ r. let c : Cut = record { lexeme = number_lexeme r; size = length (b ∷ bs) } in c) inner,
    )

int_clean : (g n : ℕ) → Stop g → is_number n ≡ true → Clean g (t.Int n)
int_clean g n stop h =
    let small : n < 2 ^ 64 = below n h in
    let d = digits_of_decimal n small in
    let z = no_zero n small in
    record { starts = λ rest. (digits_cut g (decimal n) n rest stop d z h).0; cut_is = λ rest. (digits_cut g (decimal n) n rest stop d z h).1 }
  where
    below : (n : ℕ) → is_number n ≡ true → n < 2 ^ 64
    below n h = grind (arith, nat_tests)

-- ---- texts

one_quoted : (b : ℕ) (ys : Bytes) → is_byte_of_text b ≡ true → quote_of false (quoted_byte b ++ ys) ≡ with_byte b (length (quoted_byte b)) (quote_of false ys)
one_quoted b ys h = at_quote (b == 34) refl
  where
    at_line : (a : Bool) → (b == 34) ≡ false → (b == 92) ≡ false → (b == 10) ≡ a → quote_of false (quoted_byte b ++ ys) ≡ with_byte b (length (quoted_byte b)) (quote_of false ys)
    at_line true e g l = let is : b ≡ 10 = grind (arith, nat_tests) in rw is refl
    at_line false e g l = let low : nat_lt b 32 ≡ false = grind (arith, nat_tests) in rw (e, g, l) (rw (e, low, g) refl)

    at_backslash : (a : Bool) → (b == 34) ≡ false → (b == 92) ≡ a → quote_of false (quoted_byte b ++ ys) ≡ with_byte b (length (quoted_byte b)) (quote_of false ys)
    at_backslash true e g = let is : b ≡ 92 = grind (arith, nat_tests) in rw is refl
    at_backslash false e g = at_line (b == 10) e g refl

    at_quote : (a : Bool) → (b == 34) ≡ a → quote_of false (quoted_byte b ++ ys) ≡ with_byte b (length (quoted_byte b)) (quote_of false ys)
    at_quote true e = let is : b ≡ 34 = grind (arith, nat_tests) in rw is refl
    at_quote false e = at_backslash (b == 92) e refl

quote_again : (xs rest : Bytes) → list_all is_byte_of_text xs ≡ true → quote_of false (quoted xs ++ 34 ∷ rest) ≡ Some (record { text = xs; size = length (quoted xs) })
quote_again [] rest h = refl
quote_again (x ∷ xs) rest h =
    let parts = and_parts (is_byte_of_text x) (list_all is_byte_of_text xs) h in
    ap (quote_of false) (append_assoc (quoted_byte x) (quoted xs) (34 ∷ rest)) ∙ one_quoted x (quoted xs ++ 34 ∷ rest) parts.0
    ∙ ap (with_byte x (length (quoted_byte x))) (quote_again xs rest parts.1)
    ∙ ap (λ n. Some (let q : Quote = record { text = x ∷ xs; size = n } in q)) (sym (length-append (quoted_byte x) (quoted xs)))

text_clean : (g : ℕ) (xs : Bytes) → is_literal xs ≡ true → Clean g (t.Text xs)
text_clean g xs h =
    let parts = and_parts (list_all is_byte_of_text xs) (nat_le (length (quoted xs)) 4096) h in
    let size : length (quoted xs) + 2 ≡ length (34 ∷ (quoted xs ++ 34 ∷ [])) = omega (arith, length-append (quoted xs) (34 ∷ [])) in
    record {
      starts = λ rest. refl;
      cut_is = λ rest.
          ap (λ bs. text_cut (quote_of false bs)) (append_assoc (quoted xs) (34 ∷ []) (g ∷ rest)) ∙ ap text_cut (quote_again xs (g ∷ rest) parts.0)
          ∙ at_true (nat_le (length (quoted xs)) 4096) (let c : Cut = record { lexeme = t.Text xs; size = length (quoted xs) + 2 } in c) (let c : Cut = record { lexeme = t.Bad; size = 1 } in c) parts.1
          ∙ ap (λ n. let c : Cut = record { lexeme = t.Text xs; size = n } in c) size;
    }

-- ---- words and signs

operator_clean : (g : ℕ) (y : Operator) → Stop g → Clean g (t.Symbol (s.Operator y))
operator_clean g o.Or stop = word_clean g _ stop refl refl refl
operator_clean g o.And stop = word_clean g _ stop refl refl refl
operator_clean g o.Less stop = record { starts = λ rest. refl; cut_is = λ rest. rw stop.equal refl }
operator_clean g o.Greater stop = record { starts = λ rest. refl; cut_is = λ rest. rw stop.equal refl }
operator_clean g o.Plus stop = record { starts = λ rest. refl; cut_is = λ rest. rw stop.plus refl }
operator_clean g _ stop = record { starts = λ rest. refl; cut_is = λ rest. refl }

constant_clean : (g : ℕ) (y : Constant) → Stop g → Clean g (t.Symbol (s.Constant y))
constant_clean g k.True stop = word_clean g _ stop refl refl refl
constant_clean g _ stop = word_clean g _ stop refl refl refl

function_clean : (g : ℕ) (y : Function) → Stop g → Clean g (t.Symbol (s.Function y))
function_clean g f.Text stop = word_clean g _ stop refl refl refl
function_clean g _ stop = word_clean g _ stop refl refl refl

verb_clean : (g : ℕ) (y : Verb) → Stop g → Clean g (t.Symbol (s.Verb y))
verb_clean g v.End stop = word_clean g _ stop refl refl refl
verb_clean g _ stop = word_clean g _ stop refl refl refl

fixed_clean : (g : ℕ) (y : Fixed) → Stop g → Clean g (t.Symbol (s.Fixed y))
fixed_clean g x.OpenRound stop = record { starts = λ rest. refl; cut_is = λ rest. refl }
fixed_clean g x.CloseRound stop = record { starts = λ rest. refl; cut_is = λ rest. refl }
fixed_clean g x.OpenCurly stop = record { starts = λ rest. refl; cut_is = λ rest. refl }
fixed_clean g x.CloseCurly stop = record { starts = λ rest. refl; cut_is = λ rest. refl }
fixed_clean g x.Dot stop = record { starts = λ rest. refl; cut_is = λ rest. refl }
fixed_clean g x.Comma stop = record { starts = λ rest. refl; cut_is = λ rest. refl }
fixed_clean g x.Colon stop = record { starts = λ rest. refl; cut_is = λ rest. refl }
fixed_clean g x.Semicolon stop = record { starts = λ rest. refl; cut_is = λ rest. refl }
fixed_clean g x.Assign stop = record { starts = λ rest. refl; cut_is = λ rest. rw stop.equal refl }
fixed_clean g _ stop = word_clean g _ stop refl refl refl

symbol_clean : (g : ℕ) (y : Symbol) → Stop g → Clean g (t.Symbol y)
symbol_clean g (s.Operator y) stop = operator_clean g y stop
symbol_clean g (s.Constant y) stop = constant_clean g y stop
symbol_clean g (s.Function y) stop = function_clean g y stop
symbol_clean g (s.Verb y) stop = verb_clean g y stop
symbol_clean g (s.Fixed y) stop = fixed_clean g y stop

-- ---- all tokens

clean : (g : ℕ) (y : Lexeme) → Stop g → can_be_written y ≡ true → Clean g y
clean g (t.Int n) stop h = int_clean g n stop h
clean g (t.Name n) stop h = name_clean g n stop h
clean g (t.Text xs) stop h = text_clean g xs h
clean g (t.Symbol y) stop h = symbol_clean g y stop
clean g t.Bad stop h = absurd cc

unless_good : (y : Lexeme) (spots : List Spot) → can_be_written y ≡ true → unless_bad y spots ≡ spots
unless_good (t.Int n) spots h = refl
unless_good (t.Name n) spots h = refl
unless_good (t.Text n) spots h = refl
unless_good (t.Symbol y) spots h = refl
unless_good t.Bad spots h = absurd cc

-- bytes that are read as these tokens, wherever they stand
abbrev Read : Bytes → List Lexeme → Type 0
Read bs ts = (at : ℕ) → map lexeme_of (lexed at 0 bs) ≡ ts

-- a token, and what is read behind it
cut_first : (y : Lexeme) (rest : Bytes) (ts : List Lexeme) → can_be_written y ≡ true → starts_token (lexeme_text y ++ rest) ≡ true → cut (lexeme_text y ++ rest) ≡ record { lexeme = y; size = length (lexeme_text y) } → Read rest ts → Read (lexeme_text y ++ rest) (y ∷ ts)
cut_first y rest ts h starts cut_is reads = λ at.
    let n = length (lexeme_text y) in
    let c : Cut = record { lexeme = y; size = n } in
    let first = token_first (lexeme_text y ++ rest) at c starts cut_is in
    let there : drop n (lexeme_text y ++ rest) ≡ rest = drop_at (lexeme_text y) rest n refl in
    ap (map lexeme_of) first
    ∙ ap (λ spots. y ∷ map lexeme_of spots) (unless_good y (lexed (at + n) 0 (drop n (lexeme_text y ++ rest))) h ∙ ap (lexed (at + n) 0) there)
    ∙ ap (λ l. y ∷ l) (reads (at + n))

before_stop : (g : ℕ) (y : Lexeme) (rest : Bytes) (ts : List Lexeme) → Stop g → can_be_written y ≡ true → Read (g ∷ rest) ts → Read (lexeme_text y ++ g ∷ rest) (y ∷ ts)
before_stop g y rest ts stop h reads = let one = clean g y stop h in cut_first y (g ∷ rest) ts h (one.starts rest) (one.cut_is rest) reads

-- blanks
a_blank : (b : ℕ) (rest : Bytes) (ts : List Lexeme) → is_blank b ≡ true → Read rest ts → Read (b ∷ rest) ts
a_blank b rest ts h reads = λ at. ap (map lexeme_of) (one_blank b rest at h) ∙ reads (at + 1)

indented : (n : ℕ) (rest : Bytes) (ts : List Lexeme) → Read rest ts → Read (indent n ++ rest) ts
indented zero rest ts reads = reads
indented (suc n) rest ts reads = a_blank 32 (32 ∷ (indent n ++ rest)) ts refl (a_blank 32 (indent n ++ rest) ts refl (indented n rest ts reads))

blank_stops : Stop 32
blank_stops = record { name = refl; digit = refl; equal = refl; plus = refl }

line_stops : Stop 10
line_stops = record { name = refl; digit = refl; equal = refl; plus = refl }

-- ---- tokens with nothing between them

-- the sign that begins with this byte, whatever stands behind it
pub record Sign (y : Lexeme) : Type 0 where
  pub byte : ℕ
  pub stop : Stop byte
  pub text : lexeme_text y ≡ byte ∷ []

dot_sign : Sign (t.Symbol (s.Fixed x.Dot))
dot_sign = record { byte = 46; stop = record { name = refl; digit = refl; equal = refl; plus = refl }; text = refl }

open_sign : Sign (t.Symbol (s.Fixed x.OpenRound))
open_sign = record { byte = 40; stop = record { name = refl; digit = refl; equal = refl; plus = refl }; text = refl }

close_sign : Sign (t.Symbol (s.Fixed x.CloseRound))
close_sign = record { byte = 41; stop = record { name = refl; digit = refl; equal = refl; plus = refl }; text = refl }

comma_sign : Sign (t.Symbol (s.Fixed x.Comma))
comma_sign = record { byte = 44; stop = record { name = refl; digit = refl; equal = refl; plus = refl }; text = refl }

colon_sign : Sign (t.Symbol (s.Fixed x.Colon))
colon_sign = record { byte = 58; stop = record { name = refl; digit = refl; equal = refl; plus = refl }; text = refl }

semicolon_sign : Sign (t.Symbol (s.Fixed x.Semicolon))
semicolon_sign = record { byte = 59; stop = record { name = refl; digit = refl; equal = refl; plus = refl }; text = refl }

-- which manners bind to what stands before them
abbrev binds_front : Manner → Bool
binds_front m.Dot = true
binds_front m.Closing = true
binds_front m.End = true
binds_front m.Opening = true
binds_front _ = false

fixed_sign : (y : Fixed) → binds_front (manner (t.Symbol (s.Fixed y))) ≡ true → Sign (t.Symbol (s.Fixed y))
fixed_sign x.Dot h = dot_sign
fixed_sign x.OpenRound h = open_sign
fixed_sign x.CloseRound h = close_sign
fixed_sign x.Comma h = comma_sign
fixed_sign x.Colon h = colon_sign
fixed_sign x.Semicolon h = semicolon_sign
fixed_sign _ h = absurd cc

front_sign : (y : Lexeme) → binds_front (manner y) ≡ true → Sign y
front_sign (t.Symbol (s.Fixed y)) h = fixed_sign y h
front_sign (t.Symbol (s.Operator y)) h = absurd cc
front_sign (t.Symbol (s.Constant y)) h = absurd cc
front_sign (t.Symbol (s.Function y)) h = absurd cc
front_sign (t.Symbol (s.Verb y)) h = absurd cc
front_sign (t.Int n) h = absurd cc
front_sign (t.Name n) h = absurd cc
front_sign (t.Text n) h = absurd cc
front_sign t.Bad h = absurd cc

-- and which to what stands behind them
abbrev binds_behind : Manner → Bool
binds_behind m.Opening = true
binds_behind m.Dot = true
binds_behind _ = false

abbrev lone_cut : ℕ → Lexeme → Bytes → Type 0
lone_cut b y bs = (starts_token (b ∷ bs) ≡ true) × (cut (b ∷ bs) ≡ record { lexeme = y; size = 1 })

open_alone : (bs : Bytes) → lone_cut 40 (t.Symbol (s.Fixed x.OpenRound)) bs
open_alone [] = (refl, refl)
open_alone (c ∷ bs) = (refl, refl)

dot_alone : (bs : Bytes) → lone_cut 46 (t.Symbol (s.Fixed x.Dot)) bs
dot_alone [] = (refl, refl)
dot_alone (c ∷ bs) = (refl, refl)

fixed_alone : (y : Fixed) (rest : Bytes) (ts : List Lexeme) → binds_behind (manner (t.Symbol (s.Fixed y))) ≡ true → Read rest ts → Read (lexeme_text (t.Symbol (s.Fixed y)) ++ rest) (t.Symbol (s.Fixed y) ∷ ts)
fixed_alone x.OpenRound rest ts h reads = let p = open_alone rest in cut_first (t.Symbol (s.Fixed x.OpenRound)) rest ts refl p.0 p.1 reads
fixed_alone x.Dot rest ts h reads = let p = dot_alone rest in cut_first (t.Symbol (s.Fixed x.Dot)) rest ts refl p.0 p.1 reads
fixed_alone _ rest ts h reads = absurd cc

alone : (y : Lexeme) (rest : Bytes) (ts : List Lexeme) → binds_behind (manner y) ≡ true → Read rest ts → Read (lexeme_text y ++ rest) (y ∷ ts)
alone (t.Symbol (s.Fixed y)) rest ts h reads = fixed_alone y rest ts h reads
alone (t.Symbol (s.Operator y)) rest ts h reads = absurd cc
alone (t.Symbol (s.Constant y)) rest ts h reads = absurd cc
alone (t.Symbol (s.Function y)) rest ts h reads = absurd cc
alone (t.Symbol (s.Verb y)) rest ts h reads = absurd cc
alone (t.Int n) rest ts h reads = absurd cc
alone (t.Name n) rest ts h reads = absurd cc
alone (t.Text n) rest ts h reads = absurd cc
alone t.Bad rest ts h reads = absurd cc

tight_one : (a b : Manner) → is_tight a b ≡ true → binds_front b ≡ false → binds_behind a ≡ true
tight_one m.Opening _ h k = refl
tight_one m.Dot _ h k = refl
tight_one _ m.Dot h k = cc
tight_one _ m.Closing h k = cc
tight_one _ m.End h k = cc
tight_one _ m.Opening h k = cc
tight_one _ _ h k = cc

-- a token right behind another
tight : (y z : Lexeme) (rest : Bytes) (ts : List Lexeme) → is_tight (manner y) (manner z) ≡ true → can_be_written y ≡ true → Read (lexeme_text z ++ rest) ts → Read (lexeme_text y ++ (lexeme_text z ++ rest)) (y ∷ ts)
tight y z rest ts h good reads = by_front (binds_front (manner z)) refl
  where
    by_front : (b : Bool) → binds_front (manner z) ≡ b → Read (lexeme_text y ++ (lexeme_text z ++ rest)) (y ∷ ts)
    by_front true e =
        let sign = front_sign z e in
        let is : lexeme_text z ++ rest ≡ sign.byte ∷ rest = ap (λ l. l ++ rest) sign.text in
        λ at. ap (λ l. map lexeme_of (lexed at 0 (lexeme_text y ++ l))) is
        ∙ before_stop sign.byte y rest ts sign.stop good (λ at. ap (λ l. map lexeme_of (lexed at 0 l)) (sym is) ∙ reads at) at
    by_front false e = alone y (lexeme_text z ++ rest) ts (tight_one (manner y) (manner z) h e) reads

-- a token, what stands between, and the next
spaced : (n : ℕ) (y z : Lexeme) (rest : Bytes) (ts : List Lexeme) → can_be_written y ≡ true → Read (lexeme_text z ++ rest) ts → Read (lexeme_text y ++ (gap n (manner y) (manner z) ++ (lexeme_text z ++ rest))) (y ∷ ts)
spaced n y z rest ts good reads = by_tight (is_tight (manner y) (manner z)) refl
  where
    by_line : (b : Bool) → Read (lexeme_text y ++ (cond b (10 ∷ indent (margin n (manner z))) (32 ∷ []) ++ (lexeme_text z ++ rest))) (y ∷ ts)
    by_line true = before_stop 10 y (indent (margin n (manner z)) ++ (lexeme_text z ++ rest)) ts line_stops good (a_blank 10 (indent (margin n (manner z)) ++ (lexeme_text z ++ rest)) ts refl (indented (margin n (manner z)) (lexeme_text z ++ rest) ts reads))
    by_line false = before_stop 32 y (lexeme_text z ++ rest) ts blank_stops good (a_blank 32 (lexeme_text z ++ rest) ts refl reads)

    by_tight : (b : Bool) → is_tight (manner y) (manner z) ≡ b → Read (lexeme_text y ++ (cond b [] (cond (ends_line (manner y) (manner z)) (10 ∷ indent (margin n (manner z))) (32 ∷ [])) ++ (lexeme_text z ++ rest))) (y ∷ ts)
    by_tight true e = tight y z rest ts e good reads
    by_tight false e = by_line (ends_line (manner y) (manner z))

all_again : (y : Lexeme) (ts : List Lexeme) (n : ℕ) → can_be_written y ≡ true → list_all can_be_written ts ≡ true → Read (lexeme_text y ++ behind n (manner y) ts) (y ∷ ts)
all_again y [] n good all = before_stop 10 y [] [] line_stops good (a_blank 10 [] [] refl (λ at. refl))
all_again y (z ∷ ts) n good all =
    let p = and_parts (can_be_written z) (list_all can_be_written ts) all in
    spaced n y z (behind (nesting n (manner z)) (manner z) ts) (z ∷ ts) good (all_again z ts (nesting n (manner z)) p.0 p.1)

-- tokens that are laid out are read as those tokens
pub tokens_again : (ts : List Lexeme) → list_all can_be_written ts ≡ true → map lexeme_of (lexed 0 0 (laid_out ts)) ≡ ts
tokens_again [] all = refl
tokens_again (y ∷ ts) all =
    let p = and_parts (can_be_written y) (list_all can_be_written ts) all in
    all_again y ts (nesting 0 (manner y)) p.0 p.1 0
