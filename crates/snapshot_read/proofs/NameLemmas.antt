-- Names of the parts of snapshots, and names of the state that they are.
use Rattle.std.proofs.Common.{◌≡◌, ℕ, Bool, true, false, ◌&&◌, List, [], ◌∷◌, ◌++◌, map, flat_map, refl, sym, ap, ◌∙◌}
use Rattle.std.specs.Prelude.{IsTrue}
use Rattle.std.specs.List.{list_all}
use Rattle.std.proofs.lemmas.List.{map-append}
use Rattle.std.proofs.lemmas.List.Folds.{list_all-append, list_all-map}
use Rattle.slee_value.specs.Fields.{are_fields}
use Rattle.slee_value.specs.Name.{is_name}
use Rattle.slee_value.specs.Order.{names_of, rises}
use Rattle.slee_value.specs.declared.value.Value.{Value}
use Rattle.script_types.specs.Program.{Program}
use Rattle.deploy_model.specs.Deployed.{Deployed}
use Rattle.router_state.specs.Parsing.{EntityPart, ActivityPart}
use Rattle.router_state.specs.Restoring.{entity_of, fields_of, activity_of, events_of}
use Rattle.router_state.specs.declared.rows.Entity.{Entity}
use Rattle.router_state.specs.declared.rows.Field.{Field}
use Rattle.router_state.specs.declared.rows.Activity.{Activity}
use Rattle.router_state.specs.declared.rows.Event.{Event}
use Rattle.router_state.specs.declared.rows.Queued.{Queued}
use Rattle.snapshot_read.specs.Holding.{holds_entity, holds_activity, holds_row}
use Rattle.snapshot_read.specs.Lists.{SpelledLists, state_in}
use Rattle.snapshot_read.specs.Names.{are_named, is_stem_named, is_kind_named}
use Rattle.snapshot_read.specs.declared.reading.Counts.{Counts}

-- two tests of the first and two of the rest, grouped otherwise
regroup : (a b c d : Bool) → ((a && b) && (c && d)) ≡ ((a && c) && (b && d))
regroup true true c d = refl
regroup true false true d = refl
regroup true false false d = refl
regroup false b c d = refl

abbrev stem_named : Entity → Bool
stem_named row = is_stem_named row.stem

abbrev field_named : Field → Bool
field_named row = is_name row.name

abbrev kind_named : Activity → Bool
kind_named row = is_kind_named row.kind

abbrev event_named : Queued → Bool
event_named row = are_fields row.event.fields

entity_fields : (x : EntityPart) → list_all field_named (fields_of x) ≡ list_all (λ (field : List ℕ × Value). is_name field.0) x.fields
entity_fields x = list_all-map field_named (λ (f : List ℕ × Value). record { entity = record { 0 = x.number }; name = f.0; value = f.1 }) x.fields

entities_held : (xs : List EntityPart) → list_all holds_entity xs ≡ (list_all stem_named (map entity_of xs) && list_all field_named (flat_map fields_of xs))
entities_held [] = refl
entities_held (x ∷ xs) =
    let all : list_all field_named (fields_of x ++ flat_map fields_of xs) ≡ (list_all (λ (field : List ℕ × Value). is_name field.0) x.fields && list_all field_named (flat_map fields_of xs)) = list_all-append field_named (fields_of x) (flat_map fields_of xs) ∙ ap (λ (b : Bool). b && list_all field_named (flat_map fields_of xs)) (entity_fields x) in
    rw (entities_held xs, all) (regroup (is_stem_named x.stem) (list_all (λ (field : List ℕ × Value). is_name field.0) x.fields) (list_all stem_named (map entity_of xs)) (list_all field_named (flat_map fields_of xs)))

activity_events : (x : ActivityPart) → list_all event_named (events_of x) ≡ list_all (λ (event : Event). are_fields event.fields) x.events
activity_events x = list_all-map event_named (λ (event : Event). record { activity = record { 0 = x.number }; event = event }) x.events

activities_held : (xs : List ActivityPart) → list_all holds_activity xs ≡ (list_all kind_named (map activity_of xs) && list_all event_named (flat_map events_of xs))
activities_held [] = refl
activities_held (x ∷ xs) =
    let all : list_all event_named (events_of x ++ flat_map events_of xs) ≡ (list_all (λ (event : Event). are_fields event.fields) x.events && list_all event_named (flat_map events_of xs)) = list_all-append event_named (events_of x) (flat_map events_of xs) ∙ ap (λ (b : Bool). b && list_all event_named (flat_map events_of xs)) (activity_events x) in
    rw (activities_held xs, all) (regroup (is_kind_named x.kind) (list_all (λ (event : Event). are_fields event.fields) x.events) (list_all kind_named (map activity_of xs)) (list_all event_named (flat_map events_of xs)))

-- one of five tests fails, or two of them together
first_fails : (a b c d e : Bool) → (a && b) ≡ false → (a && (b && (c && (d && e)))) ≡ false
first_fails true b c d e h = rw h refl
first_fails false b c d e h = refl

later_fails : (a b c d e : Bool) → (c && d) ≡ false → (a && (b && (c && (d && e)))) ≡ false
later_fails true true true d e h = rw h refl
later_fails true true false d e h = refl
later_fails true false c d e h = refl
later_fails false b c d e h = refl

last_fails : (a b c d e : Bool) → e ≡ false → (a && (b && (c && (d && e)))) ≡ false
last_fails true true true true e h = h
last_fails true true true false e h = refl
last_fails true true false d e h = refl
last_fails true false c d e h = refl
last_fails false b c d e h = refl

-- one name more
pub named_more : (before after : List (List ℕ × Value)) (x : List ℕ × Value) → after ≡ before ++ x ∷ [] → IsTrue (list_all is_name (names_of before)) → IsTrue (is_name x.0) → IsTrue (list_all is_name (names_of after))
named_more before after x is named one =
    let names : names_of after ≡ names_of before ++ x.0 ∷ [] = rw is (map-append (λ (f : List ℕ × Value). f.0) before (x ∷ [])) in
    rw (names, list_all-append is_name (names_of before) (x.0 ∷ []), named, one) refl

-- named values of which one has no name
pub unnamed : (fields : List (List ℕ × Value)) → list_all (λ (f : List ℕ × Value). is_name f.0) fields ≡ false → are_fields fields ≡ false
unnamed fields fails = rw (list_all-map is_name (λ (f : List ℕ × Value). f.0) fields, fails) refl

-- what fails of the parts fails of the state that they are
module _ (format : ℕ) (d : Deployed) (p : Program) (c : Counts) (l : SpelledLists) where
  pub entities_fail : list_all holds_entity l.entities ≡ false → are_named (state_in format d p c l) ≡ false
  entities_fail fails = first_fails (list_all stem_named (map entity_of l.entities)) (list_all field_named (flat_map fields_of l.entities)) (list_all kind_named (map activity_of l.activities)) (list_all event_named (flat_map events_of l.activities)) (list_all holds_row l.rows) (sym (entities_held l.entities) ∙ fails)

  pub activities_fail : list_all holds_activity l.activities ≡ false → are_named (state_in format d p c l) ≡ false
  activities_fail fails = later_fails (list_all stem_named (map entity_of l.entities)) (list_all field_named (flat_map fields_of l.entities)) (list_all kind_named (map activity_of l.activities)) (list_all event_named (flat_map events_of l.activities)) (list_all holds_row l.rows) (sym (activities_held l.activities) ∙ fails)

  pub rows_fail : list_all holds_row l.rows ≡ false → are_named (state_in format d p c l) ≡ false
  rows_fail fails = last_fails (list_all stem_named (map entity_of l.entities)) (list_all field_named (flat_map fields_of l.entities)) (list_all kind_named (map activity_of l.activities)) (list_all event_named (flat_map events_of l.activities)) (list_all holds_row l.rows) fails

-- names that rise are those of fields
pub rising_fields : (fields : List (List ℕ × Value)) → IsTrue (list_all is_name (names_of fields)) → rises (names_of fields) ≡ true → IsTrue (are_fields fields)
rising_fields fields named rising = rw (named, rising) refl
