-- Built-in events by their names.
use Rattle.std.proofs.Common.{◌≡◌, Bool, true, false, cond, List, [], ◌∷◌, Option, Some, refl, ◌∙◌, bytes_eq, find, map}
use Rattle.std.specs.Prelude.{option_map}
use Rattle.built_in_events.specs.BuiltIn.{name_of, all_events, event_named}
use Rattle.script_tree.specs.Tree.{Bytes}
use Rattle.script_types.specs.Codes.{built_in, built_in_code, named}

this_or_later : {A B C : Type 0} → (f : A → B) (g : B → C) (p : B → Bool) (x : A) (xs : List A) (b : Bool) → option_map g (find p (map f xs)) ≡ option_map (λ y. g (f y)) (find (λ y. p (f y)) xs)
    → option_map g (cond b (Some (f x)) (find p (map f xs))) ≡ option_map (λ y. g (f y)) (cond b (Some x) (find (λ y. p (f y)) xs))
this_or_later f g p x xs true h = refl
this_or_later f g p x xs false h = h

found_made : {A B C : Type 0} → (f : A → B) (g : B → C) (p : B → Bool) (xs : List A) → option_map g (find p (map f xs)) ≡ option_map (λ y. g (f y)) (find (λ y. p (f y)) xs)
found_made f g p [] = refl
found_made f g p (x ∷ xs) = this_or_later f g p x xs (p (f x)) (found_made f g p xs)

-- the fields of the built-in event of a name
pub built_in_named : (name : Bytes) → option_map (λ e. e.fields) (named (λ e. e.name) name built_in) ≡ option_map (λ e. (built_in_code e).fields) (event_named name)
built_in_named name = found_made built_in_code (λ e. e.fields) (λ e. bytes_eq e.name name) all_events
