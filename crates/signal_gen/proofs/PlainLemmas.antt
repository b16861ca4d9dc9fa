-- Lines of visible bytes are lines.
use Rattle.std.proofs.Common.{◌≡◌, ℕ, ◌+◌, ◌<◌, ◌≤◌, ◌^◌, ◌%◌, ◌/◌, zero, suc, Bool, true, false, ◌&&◌, ◌||◌, ◌==◌, nat_lt, nat_le, if◌then◌else◌, List, [], ◌∷◌, ◌++◌, codes, decimal, length, get_or, map, length-append, refl, ◌∙◌, subst, arith, Some, None, inl, inr, IsAscii}
use Rattle.std.specs.List.{list_all, list_any, join_with_byte}
use Rattle.std.proofs.lemmas.Bool.{cases_Bool, and_parts, and_from}
use Rattle.std.proofs.lemmas.Bool.Decides.{nat_tests}
use Rattle.std.proofs.lemmas.Fmt.{decimal_by_steps, length-decimal-le}
use Rattle.std.proofs.lemmas.List.Folds.{list_all-append}
use Rattle.std.proofs.lemmas.Str.{IsUtf8-from_ascii, is_utf8-from_IsUtf8}
use Rattle.built_in_events.specs.BuiltIn.{is_built_in}
use Rattle.slee_value.specs.Escape.{escaped, hex_digit_of, is_escaped, spelled_byte}
use Rattle.slee_value.specs.Name.{is_name, is_letter, is_byte_of_name}
use Rattle.slee_value.specs.declared.kind.Kind.{Kind}
use Rattle.slee_value.specs.declared.kind.Kind.TheVariants as kinds
use Rattle.signal_script.specs.Lines.{is_control, is_plain, is_line, line_limit}
use Rattle.signal_script.specs.Signals.{are_fields, clock_limit, is_of_form, is_signal, spelled, spelled_field}
use Rattle.signal_script.specs.declared.signal.Signal.TheVariants as signals
use Rattle.signal_gen.specs.Firing.{value_by}
use Rattle.signal_gen.specs.Generator.{activity_name}
use Rattle.signal_gen.specs.Seen.{are_seen, are_told, is_seen}

no_control : (b : ℕ) → is_seen b ≡ true → is_control b ≡ false
no_control b is = grind (arith, nat_tests)

no_controls : (bs : List ℕ) → are_seen bs ≡ true → list_any is_control bs ≡ false
no_controls [] all = refl
no_controls (b ∷ bs) all =
    let parts = and_parts (is_seen b) (are_seen bs) all in
    rw (no_control b parts.0, no_controls bs parts.1) refl

seen_below : (b : ℕ) → is_seen b ≡ true → b < 128
seen_below b is = grind (arith, nat_tests)

seen_ascii : (bs : List ℕ) → are_seen bs ≡ true → (i : ℕ) → get_or bs i 0 < 128
seen_ascii [] all i = omega arith
seen_ascii (b ∷ bs) all zero = seen_below b (and_parts (is_seen b) (are_seen bs) all).0
seen_ascii (b ∷ bs) all (suc i) = seen_ascii bs (and_parts (is_seen b) (are_seen bs) all).1 i

plain_of_seen : (bs : List ℕ) → are_seen bs ≡ true → is_plain bs ≡ true
plain_of_seen bs all =
    let ascii : IsAscii bs = λ i. seen_ascii bs all i in
    rw (no_controls bs all, is_utf8-from_IsUtf8 bs (IsUtf8-from_ascii bs ascii)) refl

-- names and numbers are seen
letter_seen : (b : ℕ) → is_letter b ≡ true → is_seen b ≡ true
letter_seen b is = grind (arith, nat_tests)

byte_of_name_seen : (b : ℕ) → is_byte_of_name b ≡ true → is_seen b ≡ true
byte_of_name_seen b is = grind (arith, nat_tests)

bytes_of_name_seen : (bs : List ℕ) → list_all is_byte_of_name bs ≡ true → are_seen bs ≡ true
bytes_of_name_seen [] all = refl
bytes_of_name_seen (b ∷ bs) all =
    let parts = and_parts (is_byte_of_name b) (list_all is_byte_of_name bs) all in
    and_from (is_seen b) (are_seen bs) (byte_of_name_seen b parts.0) (bytes_of_name_seen bs parts.1)

name_seen : (name : List ℕ) → is_name name ≡ true → are_seen name ≡ true
name_seen [] is = cc
name_seen (b ∷ bs) is =
    let parts = and_parts (is_letter b) _ is in
    let rest = and_parts (list_all is_byte_of_name bs) _ parts.1 in
    and_from (is_seen b) (are_seen bs) (letter_seen b parts.0) (bytes_of_name_seen bs rest.0)

digit_of_name : (n : ℕ) → n < 10 → is_byte_of_name (48 + n) ≡ true
digit_of_name n small = grind (arith, nat_tests)

decimal_of_name : (n : ℕ) → n < 2 ^ 64 → list_all is_byte_of_name (decimal n) ≡ true
decimal_of_name n fits = decimal_by_steps (λ _ ds. list_all is_byte_of_name ds ≡ true) one more n fits
  where
    one : (n : ℕ) → n < 10 → list_all is_byte_of_name ((48 + n) ∷ []) ≡ true
    one n small = and_from (is_byte_of_name (48 + n)) true (digit_of_name n small) refl

    more : (n : ℕ) (ds : List ℕ) → 10 ≤ n → list_all is_byte_of_name ds ≡ true → list_all is_byte_of_name (ds ++ (48 + n % 10) ∷ []) ≡ true
    more n ds large all = list_all-append is_byte_of_name ds ((48 + n % 10) ∷ []) ∙ and_from (list_all is_byte_of_name ds) _ all (one (n % 10) (omega arith))

pub decimal_seen : (n : ℕ) → n < 2 ^ 64 → are_seen (decimal n) ≡ true
decimal_seen n fits = bytes_of_name_seen (decimal n) (decimal_of_name n fits)

-- the name of an activity is a name
pub name_of_activity : (n : ℕ) → n < 2 ^ 32 → is_name (activity_name n) ≡ true
name_of_activity n small =
    let fits : n < 2 ^ 64 = omega (arith, small) in
    let short = length-decimal-le 20 n (omega arith) (omega (arith, small)) fits in
    let few : nat_le (length (103 ∷ decimal n)) 64 ≡ true = grind (arith, nat_tests, short) in
    and_from (list_all is_byte_of_name (decimal n)) _ (decimal_of_name n fits) few

-- words that are seen, with spaces between them, are seen
words_seen : (words : List (List ℕ)) → list_all are_seen words ≡ true → are_seen (join_with_byte 32 words) ≡ true
words_seen [] all = refl
words_seen (word ∷ []) all = (and_parts (are_seen word) true all).0
words_seen (word ∷ next ∷ words) all =
    let parts = and_parts (are_seen word) (list_all are_seen (next ∷ words)) all in
    list_all-append is_seen word (32 ∷ join_with_byte 32 (next ∷ words)) ∙ and_from (are_seen word) _ parts.0 (words_seen (next ∷ words) parts.1)

-- what is escaped is seen
hex_seen : (n : ℕ) → n < 16 → is_seen (hex_digit_of n) ≡ true
hex_seen n small = elim (cases_Bool (nat_lt n 10)) [
  | inl low ↦ rw low (grind (arith, nat_tests, low))
  | inr high ↦ rw high (grind (arith, nat_tests, high))
]

kept_seen : (b : ℕ) → is_seen b ≡ true → are_seen (spelled_byte true b) ≡ true
kept_seen b is = elim (cases_Bool (is_escaped true b)) [
  | inl marked ↦
      let below = seen_below b is in
      rw marked (and_from (is_seen (hex_digit_of (b / 16))) _ (hex_seen (b / 16) (omega (arith, below))) (and_from (is_seen (hex_digit_of (b % 16))) true (hex_seen (b % 16) (omega arith)) refl))
  | inr not_marked ↦ rw not_marked (and_from (is_seen b) true is refl)
]

escaped_seen : (bs : List ℕ) → are_seen bs ≡ true → are_seen (escaped true bs) ≡ true
escaped_seen [] all = refl
escaped_seen (b ∷ bs) all =
    let parts = and_parts (is_seen b) (are_seen bs) all in
    list_all-append is_seen (spelled_byte true b) (escaped true bs) ∙ and_from (are_seen (spelled_byte true b)) _ (kept_seen b parts.0) (escaped_seen bs parts.1)

-- the value of a field is seen
pub value_seen : (rest : ℕ) (kind : Kind) (value : List ℕ) → value_by rest kind ≡ Some value → are_seen value ≡ true
value_seen rest kinds.Int value is =
    let it : decimal (rest % 1000) ≡ value = cc in
    subst (λ v. are_seen v ≡ true) it (decimal_seen (rest % 1000) (omega arith))
value_seen rest kinds.Text value is =
    let it : codes "tel:" ++ decimal (rest % 100) ≡ value = cc in
    subst (λ v. are_seen v ≡ true) it (list_all-append is_seen (codes "tel:") (decimal (rest % 100)) ∙ and_from (are_seen (codes "tel:")) _ refl (decimal_seen (rest % 100) (omega arith)))
value_seen rest kinds.Bool value is = elim (cases_Bool (rest % 2 == 1)) [
  | inl odd ↦ let it : codes "true" ≡ value = by_true odd is in subst (λ v. are_seen v ≡ true) it refl
  | inr even ↦ let it : codes "false" ≡ value = by_false even is in subst (λ v. are_seen v ≡ true) it refl
]
  where
    by_true : (rest % 2 == 1) ≡ true → Some (if rest % 2 == 1 then codes "true" else codes "false") ≡ Some value → codes "true" ≡ value
    by_true odd same = let made : Some (codes "true") ≡ Some value = rw odd at same in cc

    by_false : (rest % 2 == 1) ≡ false → Some (if rest % 2 == 1 then codes "true" else codes "false") ≡ Some value → codes "false" ≡ value
    by_false even same = let made : Some (codes "false") ≡ Some value = rw even at same in cc
value_seen rest kinds.Activity value is = cc
value_seen rest kinds.Timer value is = cc

told_seen : (fields : List (List ℕ × List ℕ)) → are_told fields ≡ true → list_all are_seen (map spelled_field fields) ≡ true
told_seen [] all = refl
told_seen (field ∷ fields) all =
    let parts = and_parts (is_name field.0 && are_seen field.1) (are_told fields) all in
    let own = and_parts (is_name field.0) (are_seen field.1) parts.0 in
    and_from (are_seen (spelled_field field)) _
    (list_all-append is_seen field.0 (61 ∷ escaped true field.1) ∙ and_from (are_seen field.0) _ (name_seen field.0 own.0) (escaped_seen field.1 own.1))
    (told_seen fields parts.1)

-- a name isn't long
name_short : (name : List ℕ) → is_name name ≡ true → length name ≤ 64
name_short [] is = cc
name_short (b ∷ bs) is =
    let parts = and_parts (is_letter b) _ is in
    let rest = and_parts (list_all is_byte_of_name bs) (nat_le (length (b ∷ bs)) 64) parts.1 in
    let few = rest.1 in
    grind (arith, nat_tests, few)

within_line : (bs : List ℕ) → length bs ≤ 4096 → nat_le (length bs) line_limit ≡ true
within_line bs short = grind (arith, nat_tests, short)

-- how long two words are, with a space between them
two_words : (verb word : List ℕ) (n m : ℕ) → length verb ≡ n → length word ≤ m → n + m ≤ 4000 → length (join_with_byte 32 (verb ∷ word ∷ [])) ≤ 4096
two_words verb word n m is short few = let size = length-append verb (32 ∷ word) in omega (arith, size, is, short, few)

-- lines of a verb and one more word
pub start_valid : (name : List ℕ) → is_name name ≡ true → is_signal (signals.Start name) ≡ true
start_valid name is =
    let short = name_short name is in
    and_from (is_name name) _ is (and_from (nat_le (length (spelled (signals.Start name))) line_limit) _ (within_line (spelled (signals.Start name)) (two_words (codes "start") name 5 64 refl short (omega arith)))
    (plain_of_seen (spelled (signals.Start name)) (words_seen (codes "start" ∷ name ∷ []) (and_from (are_seen (codes "start")) _ refl (and_from (are_seen name) true (name_seen name is) refl)))))

pub end_valid : (name : List ℕ) → is_name name ≡ true → is_signal (signals.End name) ≡ true
end_valid name is =
    let short = name_short name is in
    and_from (is_name name) _ is (and_from (nat_le (length (spelled (signals.End name))) line_limit) _ (within_line (spelled (signals.End name)) (two_words (codes "end") name 3 64 refl short (omega arith)))
    (plain_of_seen (spelled (signals.End name)) (words_seen (codes "end" ∷ name ∷ []) (and_from (are_seen (codes "end")) _ refl (and_from (are_seen name) true (name_seen name is) refl)))))

pub clock_valid : (to : ℕ) → to ≤ 4000000000000000 → is_signal (signals.Clock to) ≡ true
clock_valid to early =
    let fits : to < 2 ^ 64 = omega (arith, early) in
    let short = length-decimal-le 20 to (omega arith) (omega (arith, early)) fits in
    let soon : nat_le to clock_limit ≡ true = grind (arith, nat_tests, early) in
    and_from (nat_le to clock_limit) _ soon (and_from (nat_le (length (spelled (signals.Clock to))) line_limit) _ (within_line (spelled (signals.Clock to)) (two_words (codes "clock") (decimal to) 5 20 refl short (omega arith)))
    (plain_of_seen (spelled (signals.Clock to)) (words_seen (codes "clock" ∷ decimal to ∷ []) (and_from (are_seen (codes "clock")) _ refl (and_from (are_seen (decimal to)) true (decimal_seen to fits) refl)))))

-- a line that fires an event is a signal exactly where it isn't too long
fire_plain : (name event : List ℕ) (fields : List (List ℕ × List ℕ)) → is_name name ≡ true → is_name event ≡ true → are_told fields ≡ true
    → is_plain (spelled (signals.Fire name event None fields)) ≡ true
fire_plain name event fields named evented told =
    plain_of_seen (spelled (signals.Fire name event None fields)) (words_seen (codes "fire" ∷ name ∷ event ∷ map spelled_field fields)
    (and_from (are_seen (codes "fire")) _ refl (and_from (are_seen name) _ (name_seen name named) (and_from (are_seen event) _ (name_seen event evented) (told_seen fields told)))))

form_by : (a b d c : Bool) → a ≡ true → b ≡ true → (a && ((b || d) && (true && c))) ≡ c
form_by true true d c one two = refl
form_by true false d c one two = cc
form_by false b d c one two = cc

fire_form : (name event : List ℕ) (fields : List (List ℕ × List ℕ)) → is_name name ≡ true → is_name event ≡ true → is_of_form (signals.Fire name event None fields) ≡ are_fields [] fields
fire_form name event fields named evented = form_by (is_name name) (is_name event) (is_built_in event) (are_fields [] fields) named evented

line_by : (short form plain : Bool) → form ≡ true → plain ≡ true → (form && (short && plain)) ≡ short
line_by true true true is_form is_plain = refl
line_by false true true is_form is_plain = refl
line_by short true false is_form is_plain = cc
line_by short false plain is_form is_plain = cc

pub fire_valid : (name event : List ℕ) (fields : List (List ℕ × List ℕ)) → is_name name ≡ true → is_name event ≡ true → are_told fields ≡ true → are_fields [] fields ≡ true
    → is_signal (signals.Fire name event None fields) ≡ nat_le (length (spelled (signals.Fire name event None fields))) line_limit
fire_valid name event fields named evented told new =
    line_by (nat_le (length (spelled (signals.Fire name event None fields))) line_limit) (is_of_form (signals.Fire name event None fields)) (is_plain (spelled (signals.Fire name event None fields)))
    (fire_form name event fields named evented ∙ new) (fire_plain name event fields named evented told)

first_false : (a b : Bool) → a ≡ false → (a && b) ≡ false
first_false false b is = refl
first_false true b is = cc

pub fire_invalid : (name event : List ℕ) (fields : List (List ℕ × List ℕ)) → is_name name ≡ true → is_name event ≡ true → are_fields [] fields ≡ false
    → is_signal (signals.Fire name event None fields) ≡ false
fire_invalid name event fields named evented twice =
    first_false (is_of_form (signals.Fire name event None fields)) (is_line (spelled (signals.Fire name event None fields))) (fire_form name event fields named evented ∙ twice)
