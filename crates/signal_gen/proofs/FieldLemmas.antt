-- The fields that get a value, one after another, and the event that is fired.
use Rattle.std.proofs.Common.{◌≡◌, ℕ, zero, suc, ◌%◌, ◌<◌, ◌≤◌, Bool, true, false, not, ◌&&◌, List, [], ◌∷◌, ◌++◌, length, map, refl, sym, ◌∙◌, ap, subst, arith, Option, Some, None, slice_get, append-nil, append_assoc}
use Rattle.std.specs.Prelude.{filter_map, option_and_then, nat_le}
use Rattle.std.proofs.lemmas.Bool.{and_from}
use Rattle.std.proofs.lemmas.Bool.Decides.{nat_tests}
use Rattle.std.proofs.lemmas.List.Folds.{list_all-append}
use Rattle.slee_value.specs.Name.{is_name}
use Rattle.slee_value.specs.declared.kind.Kind.{Kind}
use Rattle.script_types.specs.declared.codes.EventCode.{EventCode}
use Rattle.deploy_model.specs.Resolving.{event_of, field_of}
use Rattle.deploy_model.specs.declared.parts.EventType.{EventType}
use Rattle.signal_script.specs.Lines.{line_limit}
use Rattle.signal_script.specs.Signals.{are_fields, has_field, is_signal, spelled}
use Rattle.signal_script.specs.declared.signal.Signal.{Signal}
use Rattle.signal_gen.specs.Firing.{field_by, fire_by, fired, if_given, value_by}
use Rattle.signal_gen.specs.Seen.{are_seen, are_told}
use Rattle.signal_gen.proofs.PlainLemmas.{value_seen}

-- the fields that get a value of these
abbrev pub given : ℕ → List (List ℕ × Kind) → List (List ℕ × List ℕ)
given rest declared = filter_map (field_by rest) (map field_of declared)

-- a field without a value is left out
pub passed_by : (rest : ℕ) (field : List ℕ × Kind) (declared : List (List ℕ × Kind)) → None ≡ value_by rest field.1 → given rest (field ∷ declared) ≡ given rest declared
passed_by rest field declared is = rw (← is) refl

-- another one has its value
pub told_first : (rest : ℕ) (field : List ℕ × Kind) (declared : List (List ℕ × Kind)) (value : List ℕ) → Some value ≡ value_by rest field.1 → given rest (field ∷ declared) ≡ (field.0, value) ∷ given rest declared
told_first rest field declared value is = rw (← is) refl

-- what was given so far, what is wanted of the others, and that no name stands twice so far
pub record IsSoFar (rest : ℕ) (declared : List (List ℕ × Kind)) (done : List (List ℕ × List ℕ)) (left : List (List ℕ × Kind)) : Type 0 where
  pub all : done ++ given rest left ≡ given rest declared
  pub new : are_fields [] (given rest declared) ≡ are_fields done (given rest left)
  pub told : are_told done ≡ true

pub none_yet : (rest : ℕ) (declared : List (List ℕ × Kind)) → IsSoFar rest declared [] declared
none_yet rest declared = record { all = refl; new = refl; told = refl }

passed : (rest : ℕ) (declared : List (List ℕ × Kind)) (done : List (List ℕ × List ℕ)) (field : List ℕ × Kind) (left : List (List ℕ × Kind)) → None ≡ value_by rest field.1
    → IsSoFar rest declared done (field ∷ left) → IsSoFar rest declared done left
passed rest declared done field left is far = record {
  all = ap (λ more. done ++ more) (sym (passed_by rest field left is)) ∙ far.all;
  new = far.new ∙ ap (are_fields done) (passed_by rest field left is);
  told = far.told;
}

pub one_passed : (rest : ℕ) (declared : List (List ℕ × Kind)) (done : List (List ℕ × List ℕ)) (field : List ℕ × Kind) (whole left : List (List ℕ × Kind)) → whole ≡ field ∷ left → None ≡ value_by rest field.1
    → IsSoFar rest declared done whole → IsSoFar rest declared done left
one_passed rest declared done field whole left split is before = passed rest declared done field left is (subst (IsSoFar rest declared done) split before)

new_by : (a b c : Bool) → a ≡ true → b ≡ false → ((a && not b) && c) ≡ c
new_by true false c one two = refl
new_by true true c one two = cc
new_by false b c one two = cc

twice_by : (a b c : Bool) → b ≡ true → ((a && not b) && c) ≡ false
twice_by true true c is = refl
twice_by false true c is = refl
twice_by a false c is = cc

told_more : (done : List (List ℕ × List ℕ)) (name value : List ℕ) → is_name name ≡ true → are_seen value ≡ true → are_told done ≡ true → are_told (done ++ (name, value) ∷ []) ≡ true
told_more done name value named seen told =
    list_all-append (λ (field : List ℕ × List ℕ). is_name field.0 && are_seen field.1) done ((name, value) ∷ [])
    ∙ and_from (are_told done) _ told (and_from (is_name name && are_seen value) true (and_from (is_name name) (are_seen value) named seen) refl)

given_one : (rest : ℕ) (declared : List (List ℕ × Kind)) (done more : List (List ℕ × List ℕ)) (field : List ℕ × Kind) (left : List (List ℕ × Kind)) (value : List ℕ)
    → Some value ≡ value_by rest field.1 → is_name field.0 ≡ true → has_field done field.0 ≡ false → more ≡ done ++ (field.0, value) ∷ [] → IsSoFar rest declared done (field ∷ left) → IsSoFar rest declared more left
given_one rest declared done more field left value is named fresh grown far =
    let first = told_first rest field left value is in
    subst (λ now. IsSoFar rest declared now left) (sym grown) (record {
      all = append_assoc done ((field.0, value) ∷ []) (given rest left) ∙ ap (λ others. done ++ others) (sym first) ∙ far.all;
      new = far.new ∙ ap (are_fields done) first ∙ new_by (is_name field.0) (has_field done field.0) (are_fields (done ++ (field.0, value) ∷ []) (given rest left)) named fresh;
      told = told_more done field.0 value named (value_seen rest field.1 value (sym is)) far.told;
    })

pub one_given : (rest : ℕ) (declared : List (List ℕ × Kind)) (done more : List (List ℕ × List ℕ)) (field : List ℕ × Kind) (whole left : List (List ℕ × Kind)) (value : List ℕ) → whole ≡ field ∷ left
    → Some value ≡ value_by rest field.1 → is_name field.0 ≡ true → has_field done field.0 ≡ false → more ≡ done ++ (field.0, value) ∷ [] → IsSoFar rest declared done whole → IsSoFar rest declared more left
one_given rest declared done more field whole left value split is named fresh grown before =
    given_one rest declared done more field left value is named fresh grown (subst (IsSoFar rest declared done) split before)

-- a name that stands twice
twice : (rest : ℕ) (declared : List (List ℕ × Kind)) (done : List (List ℕ × List ℕ)) (field : List ℕ × Kind) (left : List (List ℕ × Kind)) (value : List ℕ)
    → Some value ≡ value_by rest field.1 → has_field done field.0 ≡ true → IsSoFar rest declared done (field ∷ left) → are_fields [] (given rest declared) ≡ false
twice rest declared done field left value is found far =
    far.new ∙ ap (are_fields done) (told_first rest field left value is)
    ∙ twice_by (is_name field.0) (has_field done field.0) (are_fields (done ++ (field.0, value) ∷ []) (given rest left)) found

pub one_twice : (rest : ℕ) (declared : List (List ℕ × Kind)) (done : List (List ℕ × List ℕ)) (field : List ℕ × Kind) (whole left : List (List ℕ × Kind)) (value : List ℕ) → whole ≡ field ∷ left
    → Some value ≡ value_by rest field.1 → has_field done field.0 ≡ true → IsSoFar rest declared done whole → are_fields [] (given rest declared) ≡ false
one_twice rest declared done field whole left value split is found before = twice rest declared done field left value is found (subst (IsSoFar rest declared done) split before)

-- all fields
pub all_given : (rest : ℕ) (declared : List (List ℕ × Kind)) (done : List (List ℕ × List ℕ)) (left : List (List ℕ × Kind)) → length left ≡ 0 → IsSoFar rest declared done left → done ≡ given rest declared
all_given rest declared done [] none far = sym (append-nil done) ∙ far.all
all_given rest declared done (field ∷ left) none far = absurd (omega (arith, none))

pub all_new : (rest : ℕ) (declared : List (List ℕ × Kind)) (done : List (List ℕ × List ℕ)) (left : List (List ℕ × Kind)) → length left ≡ 0 → IsSoFar rest declared done left → are_fields [] done ≡ true
all_new rest declared done [] none far = ap (are_fields []) (all_given rest declared done [] none far) ∙ far.new
all_new rest declared done (field ∷ left) none far = absurd (omega (arith, none))

-- the event of a draw
at_place : (events : List EventType) (place : ℕ) → slice_get (map event_of events) place ≡ (option_and_then (λ (event : EventType). Some (event_of event)) (slice_get events place))
at_place [] place = refl
at_place (event ∷ events) zero = refl
at_place (event ∷ events) (suc place) = at_place events place

same_length : (events : List EventType) → length (map event_of events) ≡ length events
same_length [] = refl
same_length (event ∷ events) = ap suc (same_length events)

by_place : (events : List EventType) (name : List ℕ) (rest place : ℕ) (o : Option EventType) → place ≡ rest % length events → o ≡ slice_get events place
    → option_and_then (λ (event : EventType). if_given (fired name rest (event_of event))) o ≡ fire_by (map event_of events) name rest
by_place events name rest place o here is =
    moved o
    ∙ ap (option_and_then (λ (event : EventCode). if_given (fired name rest event)))
    (ap (option_and_then (λ (event : EventType). Some (event_of event))) is ∙ sym (at_place events place) ∙ ap (slice_get (map event_of events)) (here ∙ ap (λ n. rest % n) (sym (same_length events))))
  where
    moved : (o : Option EventType) → option_and_then (λ (event : EventType). if_given (fired name rest (event_of event))) o ≡ option_and_then (λ (event : EventCode). if_given (fired name rest event)) (option_and_then (λ (event : EventType). Some (event_of event)) o)
    moved None = refl
    moved (Some event) = refl

pub no_event : (events : List EventType) (name : List ℕ) (rest : ℕ) → length events ≡ 0 → None ≡ fire_by (map event_of events) name rest
no_event [] name rest is = refl
no_event (event ∷ events) name rest is = absurd (omega (arith, is))

pub event_missing : (events : List EventType) (name : List ℕ) (rest place : ℕ) → place ≡ rest % length events → None ≡ slice_get events place → None ≡ fire_by (map event_of events) name rest
event_missing events name rest place here is = by_place events name rest place None here is

pub event_there : (events : List EventType) (name : List ℕ) (rest place : ℕ) (event : EventType) (made : Option Signal) → place ≡ rest % length events → Some event ≡ slice_get events place
    → made ≡ if_given (fired name rest (event_of event)) → made ≡ fire_by (map event_of events) name rest
event_there events name rest place event made here is same = same ∙ by_place events name rest place (Some event) here is

-- no signal of a name that stands twice, nor of a line that is too long
pub none_given : (signal : Signal) → is_signal signal ≡ false → None ≡ if_given signal
none_given signal is = rw is refl

pub too_long : (signal : Signal) → is_signal signal ≡ nat_le (length (spelled signal)) line_limit → 4096 < length (spelled signal) → None ≡ if_given signal
too_long signal is long =
    let over : nat_le (length (spelled signal)) line_limit ≡ false = grind (arith, nat_tests, long) in
    none_given signal (is ∙ over)

pub short_valid : (signal : Signal) → is_signal signal ≡ nat_le (length (spelled signal)) line_limit → length (spelled signal) ≤ 4096 → is_signal signal ≡ true
short_valid signal is short = is ∙ grind (arith, nat_tests, short)

pub short_given : (signal : Signal) → is_signal signal ≡ nat_le (length (spelled signal)) line_limit → length (spelled signal) ≤ 4096 → Some signal ≡ if_given signal
short_given signal is short = rw (short_valid signal is short) refl
