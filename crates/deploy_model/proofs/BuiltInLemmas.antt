-- Built-in events by their names, and their fields by theirs.
use Rattle.std.proofs.Common.{◌≡◌, Bool, true, false, cond, List, [], ◌∷◌, Option, Some, None, refl, ap, ◌∙◌, bytes_eq, find, map, is_some}
use Rattle.std.specs.Prelude.{option_map, option_and_then}
use Rattle.slee_value.specs.declared.kind.Kind.{Kind}
use Rattle.built_in_events.specs.declared.built_in.BuiltInEvent.{BuiltInEvent}
use Rattle.built_in_events.specs.BuiltIn.{name_of, fields_of, all_events, event_named, kind_of_field}
use Rattle.script_tree.specs.Tree.{Bytes}
use Rattle.script_types.specs.declared.codes.FieldCode.{FieldCode}
use Rattle.script_types.specs.Codes.{built_in_code, kind_in}
use Rattle.deploy_model.specs.Tables.{is_built_in, built_in_field}

this_or_later : {A B : Type 0} → (f : A → B) (p : B → Bool) (x : A) (xs : List A) (b : Bool) → find p (map f xs) ≡ option_map f (find (λ y. p (f y)) xs) → cond b (Some (f x)) (find p (map f xs)) ≡ option_map f (cond b (Some x) (find (λ y. p (f y)) xs))
this_or_later f p x xs true h = refl
this_or_later f p x xs false h = h

-- what is found among things made of others is made of what is found there
found_made : {A B : Type 0} → (f : A → B) (p : B → Bool) (xs : List A) → find p (map f xs) ≡ option_map f (find (λ y. p (f y)) xs)
found_made f p [] = refl
found_made f p (x ∷ xs) = this_or_later f p x xs (p (f x)) (found_made f p xs)

some_made : {A B : Type 0} → (f : A → B) (o : Option A) → is_some (option_map f o) ≡ is_some o
some_made f None = refl
some_made f (Some x) = refl

pub built_in_named : (event : Bytes) → is_built_in event ≡ is_some (event_named event)
built_in_named event = ap is_some (found_made built_in_code (λ e. bytes_eq e.name event) all_events) ∙ some_made built_in_code (event_named event)

kind_made : (o : Option (Bytes × Kind)) → option_map (λ (f : FieldCode). f.kind) (option_map (λ (f : Bytes × Kind). record { name = f.0; kind = f.1 }) o) ≡ option_map (λ (f : Bytes × Kind). f.1) o
kind_made None = refl
kind_made (Some f) = refl

field_named : (field : Bytes) (event : BuiltInEvent) → kind_in field (built_in_code event).fields ≡ kind_of_field field event
field_named field event =
    ap (option_map (λ (f : FieldCode). f.kind)) (found_made (λ (f : Bytes × Kind). record { name = f.0; kind = f.1 }) (λ (f : FieldCode). bytes_eq f.name field) (fields_of event))
    ∙ kind_made (find (λ f. bytes_eq f.0 field) (fields_of event))

field_at : (field : Bytes) (o : Option BuiltInEvent) → option_and_then (λ e. kind_in field e.fields) (option_map built_in_code o) ≡ option_and_then (kind_of_field field) o
field_at field None = refl
field_at field (Some event) = field_named field event

pub built_in_field_named : (event field : Bytes) → built_in_field event field ≡ option_and_then (kind_of_field field) (event_named event)
built_in_field_named event field = ap (option_and_then (λ e. kind_in field e.fields)) (found_made built_in_code (λ e. bytes_eq e.name event) all_events) ∙ field_at field (event_named event)
