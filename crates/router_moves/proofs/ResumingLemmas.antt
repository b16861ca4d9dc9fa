-- The lines of suspensions, by the number of the head event.
use Rattle.std.proofs.Common.{◌≡◌, ℕ, List, [], ◌∷◌, true, false, refl, ap, Some, None, Option}
use Rattle.std.specs.Prelude.{option_map}
use Rattle.std.specs.Option.{option_map_or}
use Rattle.slee_value.specs.declared.ids.EventId.{EventId}
use Rattle.router_state.specs.State.{State}
use Rattle.router_state.specs.Queues.{head_event, is_suspended}
use Rattle.router_state.specs.declared.rows.Event.{Event}
use Rattle.router_steps.specs.Effects.{lines_of_suspended}
use Rattle.router_steps.specs.Lines.{resumed_line, suspended_line}
use Rattle.router_steps.specs.Moves.{lines_of_resumed}

by_number : (line : ℕ → List (List ℕ)) (o : Option Event) (number : Option EventId) → option_map (λ (v : Event). v.id) o ≡ number
    → option_map_or (λ (v : Event). line v.id.0) o [] ≡ option_map_or (λ (id : EventId). line id.0) number []
by_number line None number is = ap (λ (n : Option EventId). option_map_or (λ (id : EventId). line id.0) n []) is
by_number line (Some v) number is = ap (λ (n : Option EventId). option_map_or (λ (id : EventId). line id.0) n []) is

pub suspended_some : (s : State) (a until : ℕ) (id : EventId) → option_map (λ (v : Event). v.id) (head_event s.events a) ≡ Some id → lines_of_suspended s a until ≡ suspended_line id.0 a until ∷ []
suspended_some s a until id is = by_number (λ n. suspended_line n a until ∷ []) (head_event s.events a) (Some id) is

pub suspended_none : (s : State) (a until : ℕ) → option_map (λ (v : Event). v.id) (head_event s.events a) ≡ None → lines_of_suspended s a until ≡ []
suspended_none s a until is = by_number (λ n. suspended_line n a until ∷ []) (head_event s.events a) None is

pub resumed_off : (s : State) (a : ℕ) → is_suspended s.suspensions a ≡ false → lines_of_resumed s a ≡ []
resumed_off s a off = rw off refl

pub resumed_some : (s : State) (a : ℕ) (id : EventId) → is_suspended s.suspensions a ≡ true → option_map (λ (v : Event). v.id) (head_event s.events a) ≡ Some id → lines_of_resumed s a ≡ resumed_line id.0 a ∷ []
resumed_some s a id on is = rw on (by_number (λ n. resumed_line n a ∷ []) (head_event s.events a) (Some id) is)

pub resumed_none : (s : State) (a : ℕ) → is_suspended s.suspensions a ≡ true → option_map (λ (v : Event). v.id) (head_event s.events a) ≡ None → lines_of_resumed s a ≡ []
resumed_none s a on is = rw on (by_number (λ n. resumed_line n a ∷ []) (head_event s.events a) None is)
