-- What is spelled is read as itself, part by part.
use Rattle.std.proofs.Common.{◌≡◌, ℕ, ◌/◌, ◌%◌, ◌<◌, ◌≤◌, Bool, true, false, not, ◌||◌, ◌==◌, nat_lt, nat_le, List, [], ◌∷◌, ◌++◌, decimal, length, map, refl, sym, ◌∙◌, ap, arith, append_assoc, append-nil, Option, Some, None, is_some, Ok, ◌⊎◌, inl, inr}
use Rattle.std.proofs.lemmas.Bool.{cases_Bool, and_parts, and_from}
use Rattle.std.proofs.lemmas.Bool.Decides.{nat_tests}
use Rattle.std.proofs.lemmas.Slice.Eq.{bytes_eq-Decides}
use Rattle.std.specs.List.{find, list_all, join_with_byte}
use Rattle.std.specs.Str.{bytes_eq}
use Rattle.built_in_events.specs.declared.built_in.BuiltInEvent.{BuiltInEvent}
use Rattle.built_in_events.specs.BuiltIn.{is_built_in, all_events, name_of as name_of_event}
use Rattle.slee_value.specs.Name.{is_name, is_byte_of_name, is_letter}
use Rattle.slee_value.specs.Escape.{is_escaped, hex_digit_of, escaped}
use Rattle.signal_script.specs.Lines.{words_of}
use Rattle.signal_script.specs.Signals.{Reading, and_then, tested, name_of, is_event, event_name_of, event_of, moment_of, clock_limit, text_of, row_of, is_new_name, field_of, fields_of, spelled_event, spelled_field, is_name_or_none, are_fields}
use Rattle.signal_script.specs.declared.fault.SignalBad.{SignalBad}
use Rattle.signal_script.specs.declared.fault.SignalBad.TheVariants as bads
use Rattle.signal_script.proofs.WordLemmas.{lacks, words_alone, words_before, cut_none, cut_some}
use Rattle.signal_script.proofs.WordTextLemmas.{unescaped_back, escaped_small}
use Rattle.signal_script.proofs.NumberLemmas.{moment_spelled}

-- parts in order

pub then_ok : {A B : Type 0} (r : Reading A) (a : A) (more : A → Reading B) → r ≡ Ok a → and_then r more ≡ more a
then_ok r a more is = rw is refl

pub tested_ok : (test : List ℕ → Bool) (bad : SignalBad) (word : List ℕ) → test word ≡ true → tested test bad word ≡ Ok word
tested_ok test bad word is = rw is refl

-- bytes that names, escaped words and numbers lack: the space, the at sign and the equals sign

-- a byte that no name has
abbrev pub is_mark : ℕ → Bool
is_mark c = (c == 32) || ((c == 64) || (c == 61))

byte_lacks : (c b : ℕ) → is_mark c ≡ true → is_byte_of_name b ≡ true → not (b == c) ≡ true
byte_lacks c b mark is = grind (arith, nat_tests)

letter_lacks : (c b : ℕ) → is_mark c ≡ true → is_letter b ≡ true → not (b == c) ≡ true
letter_lacks c b mark is = grind (arith, nat_tests)

bytes_lack : (c : ℕ) (bs : List ℕ) → is_mark c ≡ true → list_all is_byte_of_name bs ≡ true → lacks c bs ≡ true
bytes_lack c [] mark is = refl
bytes_lack c (b ∷ bs) mark is =
    let parts = and_parts (is_byte_of_name b) (list_all is_byte_of_name bs) is in
    and_from (not (b == c)) (lacks c bs) (byte_lacks c b mark parts.0) (bytes_lack c bs mark parts.1)

pub name_lacks : (c : ℕ) (name : List ℕ) → is_mark c ≡ true → is_name name ≡ true → lacks c name ≡ true
name_lacks c [] mark is = refl
name_lacks c (b ∷ bs) mark is =
    let first = and_parts (is_letter b) _ is in
    let rest = and_parts (list_all is_byte_of_name bs) _ first.1 in
    and_from (not (b == c)) (lacks c bs) (letter_lacks c b mark first.0) (bytes_lack c bs mark rest.0)

-- the name of an event that is found among some lacks what the name of each of them lacks
one_of : (c : ℕ) (word : List ℕ) (all : List BuiltInEvent) → list_all (λ e. lacks c (name_of_event e)) all ≡ true → is_some (find (λ e. bytes_eq (name_of_event e) word) all) ≡ true → lacks c word ≡ true
one_of c word [] each is = absurd cc
one_of c word (x ∷ all) each is = elim (cases_Bool (bytes_eq (name_of_event x) word)) [
  | inl same ↦ let e : name_of_event x ≡ word = (bytes_eq-Decides (name_of_event x) word).0 same in rw (sym e) (and_parts (lacks c (name_of_event x)) _ each).0
  | inr other ↦ one_of c word all (and_parts (lacks c (name_of_event x)) _ each).1 (let h : is_some (find (λ e. bytes_eq (name_of_event e) word) (x ∷ all)) ≡ true = is in rw other at h)
]

either_way : (a b : Bool) → (a || b) ≡ true → (a ≡ true) ⊎ (b ≡ true)
either_way true b is = inl refl
either_way false b is = inr is

pub event_lacks : (c : ℕ) (event : List ℕ) → is_mark c ≡ true → list_all (λ e. lacks c (name_of_event e)) all_events ≡ true → is_event event ≡ true → lacks c event ≡ true
event_lacks c event mark each is = elim (either_way (is_name event) (is_built_in event) is) [
  | inl name ↦ name_lacks c event mark name
  | inr built_in ↦ one_of c event all_events each built_in
]

pub lacks_append : (c : ℕ) (xs ys : List ℕ) → lacks c xs ≡ true → lacks c ys ≡ true → lacks c (xs ++ ys) ≡ true
lacks_append c [] ys first second = second
lacks_append c (x ∷ xs) ys first second =
    let parts = and_parts (not (x == c)) (lacks c xs) first in
    and_from (not (x == c)) (lacks c (xs ++ ys)) parts.0 (lacks_append c xs ys parts.1 second)

digit_no_space : (n : ℕ) → n < 16 → not (hex_digit_of n == 32) ≡ true
digit_no_space n small = grind (arith, nat_tests)

plain_no_space : (b : ℕ) → is_escaped true b ≡ false → not (b == 32) ≡ true
plain_no_space b not_escaped = grind (arith, nat_tests)

-- an escaped word has no space
pub escaped_no_space : (bytes : List ℕ) → lacks 32 (escaped true bytes) ≡ true
escaped_no_space [] = refl
escaped_no_space (b ∷ bytes) = either (cases_Bool (is_escaped true b)) (escaped_no_space bytes)
  where
    either : (is_escaped true b ≡ true) ⊎ (is_escaped true b ≡ false) → lacks 32 (escaped true bytes) ≡ true → lacks 32 (escaped true (b ∷ bytes)) ≡ true
    either (inl is) rest =
        let small = escaped_small true b is in
        rw is (rw (digit_no_space (b / 16) (omega arith), digit_no_space (b % 16) (omega arith)) rest)
    either (inr is) rest = rw is (and_from (not (b == 32)) (lacks 32 (escaped true bytes)) (plain_no_space b is) rest)

-- the words of words that are joined
pub words_joined : (word : List ℕ) (words : List (List ℕ)) → lacks 32 word ≡ true → list_all (lacks 32) words ≡ true
    → words_of (join_with_byte 32 (word ∷ words)) ≡ word ∷ words
words_joined word [] first rest = words_alone word first
words_joined word (next ∷ words) first rest =
    let parts = and_parts (lacks 32 next) (list_all (lacks 32) words) rest in
    words_before word (join_with_byte 32 (next ∷ words)) first ∙ ap (λ (ws : List (List ℕ)). word ∷ ws) (words_joined next words parts.0 parts.1)

-- parts, each read as what was spelled

pub event_back : (event : List ℕ) (service : Option (List ℕ)) → is_event event ≡ true → is_name_or_none service ≡ true
    → event_of (spelled_event event service) ≡ Ok (event, service)
event_back event None is none =
    rw (cut_none 64 event (event_lacks 64 event refl refl is)) (then_ok (event_name_of event) event _ (tested_ok is_event bads.Name event is))
event_back event (Some service) is name =
    rw (cut_some 64 event service (event_lacks 64 event refl refl is))
    (then_ok (event_name_of event) event _ (tested_ok is_event bads.Name event is)
    ∙ then_ok (name_of service) service _ (tested_ok is_name bads.Name service name))

pub event_no_space : (event : List ℕ) (service : Option (List ℕ)) → is_event event ≡ true → is_name_or_none service ≡ true
    → lacks 32 (spelled_event event service) ≡ true
event_no_space event None is none = event_lacks 32 event refl refl is
event_no_space event (Some service) is name =
    lacks_append 32 event (64 ∷ service) (event_lacks 32 event refl refl is) (name_lacks 32 service refl name)

pub moment_back : (to : ℕ) → nat_le to clock_limit ≡ true → moment_of (decimal to) ≡ Ok to
moment_back to is =
    let small : to ≤ 4000000000000000 = grind (arith, nat_tests) in
    moment_spelled (decimal to) to (omega arith) refl ∙ rw is refl

pub text_back : (text : List ℕ) → text_of (escaped true text) ≡ Ok text
text_back text = rw (unescaped_back true text)

pub row_back : (row : List ℕ) → nat_lt 0 (length row) ≡ true → row_of (escaped true row) ≡ Ok row
row_back [] some = cc
row_back (b ∷ bs) some = either (cases_Bool (is_escaped true b)) (text_back (b ∷ bs))
  where
    either : (is_escaped true b ≡ true) ⊎ (is_escaped true b ≡ false) → text_of (escaped true (b ∷ bs)) ≡ Ok (b ∷ bs) → row_of (escaped true (b ∷ bs)) ≡ Ok (b ∷ bs)
    either (inl is) back = rw is (rw is at back)
    either (inr is) back = rw is (rw is at back)

pub field_back : (before : List (List ℕ × List ℕ)) (field : List ℕ × List ℕ) → is_new_name before field.0 ≡ true
    → field_of before (spelled_field field) ≡ Ok field
field_back before field is =
    rw (cut_some 61 field.0 (escaped true field.1) (name_lacks 61 field.0 refl (and_parts (is_name field.0) _ is).0))
    (then_ok (tested (is_new_name before) bads.Field field.0) field.0 _ (tested_ok (is_new_name before) bads.Field field.0 is)
    ∙ then_ok (text_of (escaped true field.1)) field.1 _ (text_back field.1))

pub field_no_space : (before : List (List ℕ × List ℕ)) (field : List ℕ × List ℕ) → is_new_name before field.0 ≡ true → lacks 32 (spelled_field field) ≡ true
field_no_space before field is =
    lacks_append 32 field.0 (61 ∷ escaped true field.1) (name_lacks 32 field.0 refl (and_parts (is_name field.0) _ is).0) (escaped_no_space field.1)

pub fields_back : (before fields : List (List ℕ × List ℕ)) → are_fields before fields ≡ true → fields_of before (map spelled_field fields) ≡ Ok (before ++ fields)
fields_back before [] is = ap Ok (sym (append-nil before))
fields_back before (field ∷ fields) is =
    let parts = and_parts (is_new_name before field.0) (are_fields (before ++ field ∷ []) fields) is in
    then_ok (field_of before (spelled_field field)) field _ (field_back before field parts.0)
    ∙ fields_back (before ++ field ∷ []) fields parts.1
    ∙ ap Ok (append_assoc before (field ∷ []) fields)

pub fields_no_space : (before fields : List (List ℕ × List ℕ)) → are_fields before fields ≡ true → list_all (lacks 32) (map spelled_field fields) ≡ true
fields_no_space before [] is = refl
fields_no_space before (field ∷ fields) is =
    let parts = and_parts (is_new_name before field.0) (are_fields (before ++ field ∷ []) fields) is in
    and_from (lacks 32 (spelled_field field)) (list_all (lacks 32) (map spelled_field fields)) (field_no_space before field parts.0)
    (fields_no_space (before ++ field ∷ []) fields parts.1)
