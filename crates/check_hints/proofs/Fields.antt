-- The fields of an event that is built in or declared.
use Rattle.std.proofs.Common.{◌≡◌, List, [], ◌∷◌, Bool, true, false, cond, Option, Some, None, refl, sym, ap, ◌∙◌, bytes_eq, find, map}
use Rattle.std.specs.Prelude.{option_map, unwrap_or}
use Rattle.std.specs.Option.{option_or}
use Rattle.std.proofs.lemmas.List.Folds.{find-append}
use Rattle.built_in_events.specs.declared.built_in.BuiltInEvent.{BuiltInEvent}
use Rattle.built_in_events.specs.BuiltIn.{all_events, event_named}
use Rattle.script_tree.specs.Tree.{Bytes}
use Rattle.script_types.specs.declared.codes.EventCode.{EventCode}
use Rattle.script_types.specs.declared.codes.FieldCode.{FieldCode}
use Rattle.script_types.specs.Codes.{Codes, any_event, built_in, built_in_code, declared_event}
use Rattle.script_types.specs.Typing.{fields_of_event}

found_mapped : {A B : Type 0} → (f : A → B) (p : B → Bool) (xs : List A) → find p (map f xs) ≡ option_map f (find (λ x. p (f x)) xs)
found_mapped f p [] = refl
found_mapped f p (x ∷ xs) = this_or_later (p (f x)) (found_mapped f p xs)
  where
    this_or_later : (b : Bool) → find p (map f xs) ≡ option_map f (find (λ x. p (f x)) xs) → cond b (Some (f x)) (find p (map f xs)) ≡ option_map f (cond b (Some x) (find (λ x. p (f x)) xs))
    this_or_later true h = refl
    this_or_later false h = h

-- the events that are built in come first
any_is : (name : Bytes) (all : Codes) → any_event name all ≡ option_or (option_map built_in_code (event_named name)) (declared_event name all)
any_is name all =
    find-append (λ e. bytes_eq e.name name) built_in all.events
    ∙ ap (λ first. option_or first (declared_event name all)) (found_mapped built_in_code (λ e. bytes_eq e.name name) all_events)

fields_by : (name : Bytes) (all : Codes) (built : Option BuiltInEvent) (found : Option EventCode) → event_named name ≡ built → declared_event name all ≡ found → fields_of_event name all ≡ unwrap_or (option_map (λ e. e.fields) (option_or (option_map built_in_code built) found)) []
fields_by name all built found e f =
    ap (λ x. unwrap_or (option_map (λ e. e.fields) x) [])
    (any_is name all ∙ ap (λ x. option_or (option_map built_in_code x) (declared_event name all)) e ∙ ap (option_or (option_map built_in_code built)) f)

built_in_event : (name : Bytes) (all : Codes) (event : BuiltInEvent) → event_named name ≡ Some event → fields_of_event name all ≡ (built_in_code event).fields
built_in_event name all event e = fields_by name all (Some event) (declared_event name all) e refl

pub declared : (name : Bytes) (all : Codes) (event : EventCode) → event_named name ≡ None → declared_event name all ≡ Some event → fields_of_event name all ≡ event.fields
declared name all event e f = fields_by name all None (Some event) e f

unknown : (name : Bytes) (all : Codes) → event_named name ≡ None → declared_event name all ≡ None → fields_of_event name all ≡ []
unknown name all e f = fields_by name all None None e f

pub of_built_in : (name own : Bytes) (all : Codes) (found : Option BuiltInEvent) (event : BuiltInEvent) (fields : List FieldCode) → name ≡ own → found ≡ event_named name → found ≡ Some event → fields ≡ (built_in_code event).fields → fields ≡ fields_of_event own all
of_built_in name own all found event fields same e is h = h ∙ sym (built_in_event name all event (sym e ∙ is)) ∙ ap (λ n. fields_of_event n all) same

none_found : (found : Option BuiltInEvent) → ((event : BuiltInEvent) → found ≡ Some event → ⊥) → found ≡ None
none_found None h = refl
none_found (Some event) h = absurd (h event refl)

pub of_none : (name own : Bytes) (all : Codes) (found : Option BuiltInEvent) (other : Option EventCode) (fields : List FieldCode) → name ≡ own → found ≡ event_named name → ((event : BuiltInEvent) → found ≡ Some event → ⊥) → other ≡ declared_event name all → other ≡ None → fields ≡ [] → fields ≡ fields_of_event own all
of_none name own all found other fields same e not f is h = h ∙ sym (unknown name all (sym e ∙ none_found found not) (sym f ∙ is)) ∙ ap (λ n. fields_of_event n all) same
