-- Names of scripts are names, and what they stand for.
use Rattle.std.proofs.Common.{◌≡◌, ℕ, ◌+◌, Bool, true, false, ◌&&◌, ◌||◌, cond, List, [], ◌∷◌, Option, Some, refl, bytes_eq, position, find}
use Rattle.std.specs.Prelude.{not, is_some, option_map, option_and_then}
use Rattle.std.specs.List.{list_any, position_from}
use Rattle.built_in_events.specs.BuiltIn.{name_of, all_events, event_named}
use Rattle.script_types.specs.Codes.{built_in}
use Rattle.std.proofs.lemmas.Iterator.Adapters.{position_from-zero}
use Rattle.script_types.specs.declared.codes.FieldCode.{FieldCode}
use Rattle.script_types.specs.declared.term.Atom.TheVariants as a
use Rattle.script_types.specs.Elaboration.{Typed, typed, event_field}
use Rattle.slee_value.specs.Name.{is_name}
use Rattle.script_tree.specs.Tree.{Bytes}
use Rattle.script_tree.specs.Words.{is_identifier, reserved}

left_of : (a b : Bool) → (a && b) ≡ true → a ≡ true
left_of true b h = refl
left_of false b h = absurd cc

pub identifier_is_name : (bs : Bytes) → is_identifier bs ≡ true → is_name bs ≡ true
identifier_is_name bs h = left_of (is_name bs) (not (is_some (reserved bs))) h

-- a field of an event: its type, and the place where it stands
abbrev field_at : Option FieldCode → Option ℕ → Option Typed
field_at found place = option_and_then (λ f. option_map (λ n. typed f.kind (a.EventField n f.kind)) place) found

field_or_later : (n : ℕ) (name : Bytes) (field : FieldCode) (fields : List FieldCode) (b : Bool) → event_field (n + 1) name fields ≡ field_at (find (λ x. bytes_eq x.name name) fields) (position_from (λ x. bytes_eq x.name name) (n + 1) fields)
    → cond b (Some (typed field.kind (a.EventField n field.kind))) (event_field (n + 1) name fields) ≡ field_at (cond b (Some field) (find (λ x. bytes_eq x.name name) fields)) (cond b (Some n) (position_from (λ x. bytes_eq x.name name) (n + 1) fields))
field_or_later n name field fields true h = refl
field_or_later n name field fields false h = h

event_field_from : (n : ℕ) (name : Bytes) (fields : List FieldCode) → event_field n name fields ≡ field_at (find (λ x. bytes_eq x.name name) fields) (position_from (λ x. bytes_eq x.name name) n fields)
event_field_from n name [] = refl
event_field_from n name (field ∷ fields) = field_or_later n name field fields (bytes_eq field.name name) (event_field_from (n + 1) name fields)

pub event_field_is : (name : Bytes) (fields : List FieldCode) → event_field 0 name fields ≡ field_at (find (λ x. bytes_eq x.name name) fields) (position (λ x. bytes_eq x.name name) fields)
event_field_is name fields = rw (position_from-zero (λ x. bytes_eq x.name name) fields) (event_field_from 0 name fields)

some_or_later : {A : Type 0} → (p : A → Bool) (x : A) (xs : List A) (b : Bool) → is_some (find p xs) ≡ list_any p xs → is_some (cond b (Some x) (find p xs)) ≡ (b || list_any p xs)
some_or_later p x xs true h = refl
some_or_later p x xs false h = h

is_any : {A : Type 0} → (p : A → Bool) (xs : List A) → is_some (find p xs) ≡ list_any p xs
is_any p [] = refl
is_any p (x ∷ xs) = some_or_later p x xs (p x) (is_any p xs)

-- an event that is built in
pub built_in_is : (name : Bytes) → is_some (event_named name) ≡ list_any (λ e. bytes_eq e.name name) built_in
built_in_is name = is_any (λ e. bytes_eq (name_of e) name) all_events
