-- Names that rise: those of values that are given one after another, and those of what a deployment declares.
use Rattle.std.proofs.Common.{◌≡◌, ℕ, zero, suc, ◌+◌, ◌<◌, Bool, true, List, [], ◌∷◌, ◌++◌, Option, Some, None, Ok, drop, length, refl, sym, ap, ◌∙◌, inl, inr}
use Rattle.std.specs.Prelude.{bytes_eq, find, map, slice_get, slice_index_or, option_and_then}
use Rattle.std.specs.List.{list_all}
use Rattle.std.specs.Option.{option_map_or}
use Rattle.std.proofs.Math.Numerals.{add-one}
use Rattle.std.proofs.Math.Seq.{drop-cons}
use Rattle.std.proofs.lemmas.Bool.{cases_Bool, and_parts}
use Rattle.std.proofs.lemmas.List.{append_assoc, map-append}
use Rattle.slee_value.specs.Fields.{are_fields}
use Rattle.slee_value.specs.Name.{is_name}
use Rattle.slee_value.specs.Order.{is_below, rises, names_of}
use Rattle.slee_value.specs.declared.kind.Kind.{Kind}
use Rattle.slee_value.specs.declared.value.Value.{Value}
use Rattle.script_types.specs.Codes.{named}
use Rattle.script_types.specs.declared.codes.EventCode.{EventCode}
use Rattle.script_types.specs.declared.codes.FieldCode.{FieldCode}
use Rattle.deploy_model.specs.Deployed.{Deployed, DeployedProfile, DeployedTable, table_at, table_attributes}
use Rattle.deploy_model.specs.Resolving.{event_of, field_of, profile_of}
use Rattle.deploy_model.specs.declared.parts.EventType.{EventType}
use Rattle.deploy_model.specs.declared.parts.ProfileSpec.{ProfileSpec}
use Rattle.router_steps.specs.Actions.{declared_event, there_or}
use Rattle.router_steps.specs.declared.refusal.Refusal.TheVariants as refusals
use Rattle.router_inputs.specs.InOrder.{are_in_order, are_rising}

rises_front : (xs : List (List ℕ)) (y : List ℕ) (zs : List (List ℕ)) → rises (xs ++ y ∷ zs) ≡ true → rises (xs ++ y ∷ []) ≡ true
rises_front [] y zs up = refl
rises_front (x ∷ []) y zs up = let low = (and_parts (is_below x y) (rises (y ∷ zs)) up).0 in rw low refl
rises_front (x ∷ w ∷ xs) y zs up =
    let parts = and_parts (is_below x w) (rises (w ∷ xs ++ y ∷ zs)) up in
    let rest = rises_front (w ∷ xs) y zs parts.1 in
    rw (parts.0, rest) refl

all_names : (xs : List (List ℕ)) (y : List ℕ) → list_all is_name xs ≡ true → is_name y ≡ true → list_all is_name (xs ++ y ∷ []) ≡ true
all_names [] y all own = rw own refl
all_names (x ∷ xs) y all own =
    let parts = and_parts (is_name x) (list_all is_name xs) all in
    let rest = all_names xs y parts.1 own in
    rw (parts.0, rest) refl

-- one value more, under the next declared name
pub one_more : (values : List (List ℕ × Value)) (name : List ℕ) (value : Value) (field : FieldCode) (fields : List FieldCode) → are_fields values ≡ true → is_name name ≡ true → name ≡ field.name
    → rises (names_of values ++ map (λ (f : FieldCode). f.name) (field ∷ fields)) ≡ true → are_fields (values ++ (name, value) ∷ []) ≡ true
one_more values name value field fields before own is up =
    let parts = and_parts (list_all is_name (names_of values)) (rises (names_of values)) before in
    let names : names_of (values ++ (name, value) ∷ []) ≡ names_of values ++ name ∷ [] = map-append (λ (f : List ℕ × Value). f.0) values ((name, value) ∷ []) in
    let all = all_names (names_of values) name parts.0 own in
    let front : rises (names_of values ++ name ∷ []) ≡ true = rw is (rises_front (names_of values) field.name (map (λ (f : FieldCode). f.name) fields) up) in
    rw (names, all, front) refl

pub still_rising : (values : List (List ℕ × Value)) (name : List ℕ) (value : Value) (field : FieldCode) (fields : List FieldCode) → name ≡ field.name
    → rises (names_of values ++ map (λ (f : FieldCode). f.name) (field ∷ fields)) ≡ true → rises (names_of (values ++ (name, value) ∷ []) ++ map (λ (f : FieldCode). f.name) fields) ≡ true
still_rising values name value field fields is up =
    let names : names_of (values ++ (name, value) ∷ []) ≡ names_of values ++ name ∷ [] = map-append (λ (f : List ℕ × Value). f.0) values ((name, value) ∷ []) in
    let own : rises (names_of values ++ name ∷ map (λ (f : FieldCode). f.name) fields) ≡ true = rw is up in
    ap (λ front. rises (front ++ map (λ (f : FieldCode). f.name) fields)) names ∙ ap rises (append_assoc (names_of values) (name ∷ []) (map (λ (f : FieldCode). f.name) fields)) ∙ own

-- the field at a place, with those behind it
next_field : (fields : List FieldCode) (i : ℕ) (field : FieldCode) → i < length fields → field ≡ slice_index_or fields i field → drop i fields ≡ field ∷ drop (i + 1) fields
next_field fields i field here is = rw (drop-cons fields i field here, ← is, add-one) refl

pub next_fits : (values : List (List ℕ × Value)) (name : List ℕ) (value : Value) (fields : List FieldCode) (i : ℕ) (field : FieldCode) → i < length fields → field ≡ slice_index_or fields i field
    → are_fields values ≡ true → is_name field.name ≡ true → name ≡ field.name
    → rises (names_of values ++ map (λ (f : FieldCode). f.name) (drop i fields)) ≡ true → are_fields (values ++ (name, value) ∷ []) ≡ true
next_fits values name value fields i field here at before own is up =
    one_more values name value field (drop (i + 1) fields) before (rw is own) is (ap (λ (rest : List FieldCode). rises (names_of values ++ map (λ (f : FieldCode). f.name) rest)) (sym (next_field fields i field here at)) ∙ up)

-- what passes among things of which each passes
passes : {X : Type 0} (p q : X → Bool) (xs : List X) (x : X) → list_all q xs ≡ true → find p xs ≡ Some x → q x ≡ true
passes p q [] x all none = absurd (cc)
passes p q (y ∷ xs) x all found =
    let parts = and_parts (q y) (list_all q xs) all in
    elim (cases_Bool (p y)) [
      | inl here ↦
          let first : Some y ≡ Some x = rw here at found in
          let own : y ≡ x = cc in
          rw (← own) parts.0
      | inr apart ↦
          let later : find p xs ≡ Some x = rw apart at found in
          passes p q xs x parts.1 later
    ]

event_rises : (d : Deployed) (event : List ℕ) (declared : EventCode) → are_in_order d ≡ true → named (λ (e : EventCode). e.name) event d.events ≡ Some declared → are_rising declared.fields ≡ true
event_rises d event declared order found =
    let parts = and_parts (list_all (λ (e : EventCode). are_rising e.fields) d.events) (list_all (λ (p : DeployedProfile). are_rising p.attributes) d.profiles) order in
    passes (λ (e : EventCode). bytes_eq e.name event) (λ (e : EventCode). are_rising e.fields) d.events declared parts.0 found

-- the fields of an event that is declared rise
pub declared_rises : (d : Deployed) (event : List ℕ) (declared : EventCode) (fields : List FieldCode) → are_in_order d ≡ true → declared_event d event ≡ Ok declared → fields ≡ declared.fields → are_rising fields ≡ true
declared_rises d event declared fields order is own = by (named (λ (e : EventCode). e.name) event d.events) refl is
  where
    by : (o : Option EventCode) → named (λ (e : EventCode). e.name) event d.events ≡ o → there_or refusals.UnknownEvent o ≡ Ok declared → are_rising fields ≡ true
    by None none wrong = absurd (cc)
    by (Some found) some right =
        let same : found ≡ declared = cc in
        rw (own, ← same) (event_rises d event found order some)

placed_passes : {X : Type 0} (q : X → Bool) (xs : List X) (n : ℕ) (x : X) → list_all q xs ≡ true → slice_get xs n ≡ Some x → q x ≡ true
placed_passes q [] n x all none = absurd (cc)
placed_passes q (y ∷ xs) zero x all first = let own : y ≡ x = cc in rw (← own) (and_parts (q y) (list_all q xs) all).0
placed_passes q (y ∷ xs) (suc n) x all later = placed_passes q xs n x (and_parts (q y) (list_all q xs) all).1 later

pub attributes_rise : (d : Deployed) (n : ℕ) → are_in_order d ≡ true → are_rising (table_attributes d n) ≡ true
attributes_rise d n order = by (table_at d n)
  where
    by_profile : (o : Option DeployedProfile) → ((p : DeployedProfile) → o ≡ Some p → are_rising p.attributes ≡ true) → are_rising (option_map_or (λ (p : DeployedProfile). p.attributes) o []) ≡ true
    by_profile None each = refl
    by_profile (Some p) each = each p refl

    by : (o : Option DeployedTable) → are_rising (option_map_or (λ (p : DeployedProfile). p.attributes) (option_and_then (λ (t : DeployedTable). slice_get d.profiles t.profile) o) []) ≡ true
    by None = refl
    by (Some t) = by_profile (slice_get d.profiles t.profile) (λ p found.
        placed_passes (λ (p : DeployedProfile). are_rising p.attributes) d.profiles t.profile p (and_parts (list_all (λ (e : EventCode). are_rising e.fields) d.events) (list_all (λ (p : DeployedProfile). are_rising p.attributes) d.profiles) order).1 found)

-- the fields of parts rise as they are declared
names_declared : (fields : List (List ℕ × Kind)) → map (λ (f : FieldCode). f.name) (map field_of fields) ≡ names_of fields
names_declared [] = refl
names_declared (f ∷ fields) = ap (λ names. f.0 ∷ names) (names_declared fields)

pub events_in_order : (events : List EventType) → list_all (λ (e : EventCode). are_rising e.fields) (map event_of events) ≡ list_all (λ (e : EventType). rises (names_of e.fields)) events
events_in_order [] = refl
events_in_order (e ∷ events) = rw (names_declared e.fields, events_in_order events) refl

pub profiles_in_order : (profiles : List ProfileSpec) → list_all (λ (p : DeployedProfile). are_rising p.attributes) (map profile_of profiles) ≡ list_all (λ (p : ProfileSpec). rises (names_of p.attributes)) profiles
profiles_in_order [] = refl
profiles_in_order (p ∷ profiles) = rw (names_declared p.attributes, profiles_in_order profiles) refl
