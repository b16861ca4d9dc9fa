-- What is read is spelled as what was read, part by part.
use Rattle.std.proofs.Common.{◌≡◌, ℕ, Bool, true, false, ◌==◌, if◌then◌else◌, nat_lt, nat_le, List, [], ◌∷◌, ◌++◌, decimal, length, map, refl, sym, ◌∙◌, ap, subst, arith, append_assoc, append-nil, Option, Some, None, Ok, Err, option_map, inl, inr}
use Rattle.std.proofs.lemmas.Bool.{cases_Bool, and_parts, and_from}
use Rattle.std.proofs.lemmas.Bool.Decides.{nat_tests}
use Rattle.std.proofs.lemmas.Slice.Eq.{bytes_eq-Decides}
use Rattle.std.specs.Option.{option_map_or}
use Rattle.std.specs.Str.{bytes_eq}
use Rattle.std.specs.Str.Parse.{digits_value}
use Rattle.slee_value.specs.Name.{is_name}
use Rattle.slee_value.specs.Escape.{escaped}
use Rattle.signal_script.specs.Lines.{cut_at}
use Rattle.signal_script.specs.WordText.{unescaped}
use Rattle.signal_script.specs.Signals.{Reading, and_then, tested, name_of, is_event, event_name_of, event_alone, event_for, event_of, is_moment, moment_of, clock_limit, text_of, row_of, is_new_name, field_of_parts, field_of, fields_of, only_word, only_two, two_or_more, spelled_event, spelled_field, is_name_or_none, are_fields}
use Rattle.signal_script.specs.declared.fault.SignalBad.{SignalBad}
use Rattle.signal_script.specs.declared.fault.SignalBad.TheVariants as bads
use Rattle.signal_script.proofs.WordTextLemmas.{escaped_back}

-- parts in order: the first was read, and then the other
pub record BothRead {A B : Type 0} (r : Reading A) (more : A → Reading B) (b : B) : Type 0 where
  pub first : A
  pub is : r ≡ Ok first
  pub last : more first ≡ Ok b

pub then_given : {A B : Type 0} (r : Reading A) (more : A → Reading B) (b : B) → and_then r more ≡ Ok b → BothRead r more b
then_given (Ok a) more b is = record { first = a; is = refl; last = is }
then_given (Err bad) more b is = cc

-- a word that passed a test
pub record IsTested (test : List ℕ → Bool) (word given : List ℕ) : Type 0 where
  pub same : given ≡ word
  pub passes : test given ≡ true

pub tested_given : (test : List ℕ → Bool) (bad : SignalBad) (word given : List ℕ) → tested test bad word ≡ Ok given → IsTested test word given
tested_given test bad word given is = by (test word) refl is
  where
    by : (t : Bool) → test word ≡ t → (if t then Ok word else Err bad) ≡ Ok given → IsTested test word given
    by true passes e = let same : word ≡ given = cc in record { same = sym same; passes = subst (λ (w : List ℕ). test w ≡ true) same passes }
    by false fails e = cc

-- what was cut is whole again
pub cut_given : (c : ℕ) (bs : List ℕ) (parts : List ℕ × List ℕ) → cut_at c bs ≡ Some parts → parts.0 ++ c ∷ parts.1 ≡ bs
cut_given c [] parts is = cc
cut_given c (b ∷ bs) parts is = elim (cases_Bool (b == c)) [
  | inl at ↦
      let e : Some ([], bs) ≡ Some parts = rw at at is in
      let same : ([], bs) ≡ parts = cc in
      let b_is : b ≡ c = grind (arith, nat_tests) in
      rw (← same, b_is) refl
  | inr other ↦ behind (cut_at c bs) (λ p cut. cut_given c bs p cut) (rw other at is)
]
  where
    behind : (o : Option (List ℕ × List ℕ)) → ((p : List ℕ × List ℕ) → o ≡ Some p → p.0 ++ c ∷ p.1 ≡ bs) → option_map (λ p. (b ∷ p.0, p.1)) o ≡ Some parts
        → parts.0 ++ c ∷ parts.1 ≡ b ∷ bs
    behind None cut e = cc
    behind (Some p) cut e =
        let same : (b ∷ p.0, p.1) ≡ parts = cc in
        rw (← same) (ap (λ (l : List ℕ). b ∷ l) (cut p refl))

-- an event, with its service
pub record IsEventOf (word e : List ℕ) (s : Option (List ℕ)) : Type 0 where
  pub spelled : spelled_event e s ≡ word
  pub event : is_event e ≡ true
  pub service : is_name_or_none s ≡ true

alone_given : (word : List ℕ) (given : List ℕ × Option (List ℕ)) → event_alone word ≡ Ok given → IsEventOf word given.0 given.1
alone_given word given is =
    let both = then_given (event_name_of word) (λ event. Ok (event, None)) given is in
    let event = tested_given is_event bads.Name word both.first both.is in
    let same : (both.first, None) ≡ given = cc in
    subst (λ (g : List ℕ × Option (List ℕ)). IsEventOf word g.0 g.1) same (record { spelled = event.same; event = event.passes; service = refl })

for_given : (word : List ℕ) (parts : List ℕ × List ℕ) (given : List ℕ × Option (List ℕ)) → parts.0 ++ 64 ∷ parts.1 ≡ word
    → event_for parts ≡ Ok given → IsEventOf word given.0 given.1
for_given word parts given whole is =
    let both = then_given (event_name_of parts.0) (λ event. and_then (name_of parts.1) (λ service. Ok (event, Some service))) given is in
    let event = tested_given is_event bads.Name parts.0 both.first both.is in
    let rest = then_given (name_of parts.1) (λ service. Ok (both.first, Some service)) given both.last in
    let service = tested_given is_name bads.Name parts.1 rest.first rest.is in
    let pair : Ok (both.first, Some rest.first) ≡ Ok given = rest.last in
    let same : (both.first, Some rest.first) ≡ given = cc in
    subst (λ (g : List ℕ × Option (List ℕ)). IsEventOf word g.0 g.1) same
    (record {
      spelled = ap (λ (e : List ℕ). e ++ 64 ∷ rest.first) event.same ∙ ap (λ (s : List ℕ). parts.0 ++ 64 ∷ s) service.same ∙ whole;
      event = event.passes;
      service = service.passes;
    })

pub event_given : (word : List ℕ) (given : List ℕ × Option (List ℕ)) → event_of word ≡ Ok given → IsEventOf word given.0 given.1
event_given word given is = by (cut_at 64 word) refl is
  where
    by : (o : Option (List ℕ × List ℕ)) → cut_at 64 word ≡ o → option_map_or event_for o (event_alone word) ≡ Ok given → IsEventOf word given.0 given.1
    by None cut e = alone_given word given e
    by (Some parts) cut e = for_given word parts given (cut_given 64 word parts cut) e

-- a moment
pub record IsMomentOf (word : List ℕ) (to : ℕ) : Type 0 where
  pub spelled : decimal to ≡ word
  pub below : nat_le to clock_limit ≡ true

pub moment_given : (word : List ℕ) (to : ℕ) → moment_of word ≡ Ok to → IsMomentOf word to
moment_given word to is = by (is_moment word) refl is
  where
    by : (t : Bool) → is_moment word ≡ t → (if t then Ok (digits_value 10 word) else Err bads.Number) ≡ Ok to → IsMomentOf word to
    by false fails e = cc
    by true passes e =
        let parts = and_parts (nat_le (digits_value 10 word) clock_limit) (bytes_eq word (decimal (digits_value 10 word))) passes in
        let same : digits_value 10 word ≡ to = cc in
        subst (λ (n : ℕ). IsMomentOf word n) same
        (record { spelled = sym ((bytes_eq-Decides word (decimal (digits_value 10 word))).0 parts.1); below = parts.0 })

-- a text
pub text_given : (word text : List ℕ) → text_of word ≡ Ok text → escaped true text ≡ word
text_given word text is = by (unescaped true word) refl is
  where
    by : (o : Option (List ℕ)) → unescaped true word ≡ o → option_map_or Ok o (Err bads.Escape) ≡ Ok text → escaped true text ≡ word
    by None read e = cc
    by (Some bytes) read e = let same : bytes ≡ text = cc in subst (λ (t : List ℕ). escaped true t ≡ word) same (escaped_back true word bytes read)

-- a row's name
pub record IsRowOf (word row : List ℕ) : Type 0 where
  pub spelled : escaped true row ≡ word
  pub some : nat_lt 0 (length row) ≡ true

pub row_is_given : (word row : List ℕ) → row_of word ≡ Ok row → IsRowOf word row
row_is_given [] row is = cc
row_is_given (b ∷ bs) row is = by row (text_given (b ∷ bs) row is)
  where
    by : (r : List ℕ) → escaped true r ≡ b ∷ bs → IsRowOf (b ∷ bs) r
    by [] e = cc
    by (x ∷ xs) e = record { spelled = e; some = grind (arith, nat_tests) }

-- a field
pub record IsFieldOf (before : List (List ℕ × List ℕ)) (word : List ℕ) (field : List ℕ × List ℕ) : Type 0 where
  pub spelled : spelled_field field ≡ word
  pub new : is_new_name before field.0 ≡ true

parts_given : (before : List (List ℕ × List ℕ)) (word : List ℕ) (parts field : List ℕ × List ℕ) → parts.0 ++ 61 ∷ parts.1 ≡ word
    → field_of_parts before parts ≡ Ok field → IsFieldOf before word field
parts_given before word parts field whole is =
    let both = then_given (tested (is_new_name before) bads.Field parts.0) (λ name. and_then (text_of parts.1) (λ value. Ok (name, value))) field is in
    let name = tested_given (is_new_name before) bads.Field parts.0 both.first both.is in
    let rest = then_given (text_of parts.1) (λ value. Ok (both.first, value)) field both.last in
    let pair : Ok (both.first, rest.first) ≡ Ok field = rest.last in
    let same : (both.first, rest.first) ≡ field = cc in
    subst (λ (f : List ℕ × List ℕ). IsFieldOf before word f) same
    (record {
      spelled = ap (λ (n : List ℕ). n ++ 61 ∷ escaped true rest.first) name.same ∙ ap (λ (v : List ℕ). parts.0 ++ 61 ∷ v) (text_given parts.1 rest.first rest.is) ∙ whole;
      new = name.passes;
    })

pub field_given : (before : List (List ℕ × List ℕ)) (word : List ℕ) (field : List ℕ × List ℕ) → field_of before word ≡ Ok field → IsFieldOf before word field
field_given before word field is = by (cut_at 61 word) refl is
  where
    by : (o : Option (List ℕ × List ℕ)) → cut_at 61 word ≡ o → option_map_or (field_of_parts before) o (Err bads.Field) ≡ Ok field → IsFieldOf before word field
    by None cut e = cc
    by (Some parts) cut e = parts_given before word parts field (cut_given 61 word parts cut) e

-- fields behind others
pub record AreFieldsOf (before : List (List ℕ × List ℕ)) (words : List (List ℕ)) (all : List (List ℕ × List ℕ)) : Type 0 where
  pub fields : List (List ℕ × List ℕ)
  pub same : all ≡ before ++ fields
  pub spelled : map spelled_field fields ≡ words
  pub new : are_fields before fields ≡ true

pub fields_given : (before : List (List ℕ × List ℕ)) (words : List (List ℕ)) (all : List (List ℕ × List ℕ)) → fields_of before words ≡ Ok all → AreFieldsOf before words all
fields_given before [] all is =
    let same : before ≡ all = cc in
    record { fields = []; same = sym same ∙ sym (append-nil before); spelled = refl; new = refl }
fields_given before (word ∷ words) all is =
    let both = then_given (field_of before word) (λ field. fields_of (before ++ field ∷ []) words) all is in
    let field = field_given before word both.first both.is in
    let rest = fields_given (before ++ both.first ∷ []) words all both.last in
    record {
      fields = both.first ∷ rest.fields;
      same = rest.same ∙ append_assoc before (both.first ∷ []) rest.fields;
      spelled = rw (field.spelled, rest.spelled) refl;
      new = and_from (is_new_name before both.first.0) (are_fields (before ++ both.first ∷ []) rest.fields) field.new rest.new;
    }

-- how many words there are
pub one_given : (words : List (List ℕ)) (word : List ℕ) → only_word words ≡ Ok word → word ∷ [] ≡ words
one_given [] word is = cc
one_given (w ∷ []) word is = cc
one_given (w ∷ v ∷ ws) word is = cc

pub two_given : (words : List (List ℕ)) (parts : List ℕ × List ℕ) → only_two words ≡ Ok parts → parts.0 ∷ parts.1 ∷ [] ≡ words
two_given [] parts is = cc
two_given (w ∷ []) parts is = cc
two_given (w ∷ v ∷ []) parts is = let same : (w, v) ≡ parts = cc in rw (← same) refl
two_given (w ∷ v ∷ u ∷ ws) parts is = cc

pub more_given : (words : List (List ℕ)) (parts : List ℕ × List ℕ × List (List ℕ)) → two_or_more words ≡ Ok parts → parts.0 ∷ parts.1 ∷ parts.2 ≡ words
more_given [] parts is = cc
more_given (w ∷ []) parts is = cc
more_given (w ∷ v ∷ ws) parts is = let same : (w, v, ws) ≡ parts = cc in rw (← same) refl
