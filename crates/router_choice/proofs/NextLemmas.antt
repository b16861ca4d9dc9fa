-- What is next, by the head event that isn't suspended.
use Rattle.std.proofs.Common.{◌≡◌, ℕ, Option, Some, None, refl, inl, inr}
use Rattle.std.specs.Prelude.{is_some, option_map, option_and_then, if◌then◌else◌}
use Rattle.std.proofs.lemmas.Bool.{cases_Bool}
use Rattle.router_state.specs.State.{State}
use Rattle.router_state.specs.Look.{delivery_if, next_delivery}
use Rattle.router_state.specs.Next.{due_service, first, next, next_for}
use Rattle.router_state.specs.Queues.{head_event, is_suspended}
use Rattle.router_state.specs.declared.kindred.Kindred.TheVariants as kindreds
use Rattle.router_state.specs.declared.rows.Entity.{Entity}
use Rattle.router_state.specs.declared.rows.Event.{Event}
use Rattle.router_choice.specs.Delivering.{delivery_for, unheld}

pub next_is : (s : State) (a : ℕ) → next s a ≡ option_map (next_for s a) (unheld s a)
next_is s a = elim (cases_Bool (is_suspended s.suspensions a)) [
  | inl held ↦ rw held refl
  | inr free ↦ rw free refl
]

module _ (s : State) (a : ℕ) where
  received : (v : Event) (found : Option Entity) → head_event s.events a ≡ Some v → first s a v ≡ found → delivery_if s a (if is_some found then kindreds.Deliver else kindreds.Finish) ≡ option_map (λ row. (v.id, row.number)) found
  received v None head is = refl
  received v (Some row) head is = rw (head, is) refl

  brought : (v : Event) → head_event s.events a ≡ Some v → delivery_if s a (next_for s a v) ≡ delivery_for s a v
  brought v head = elim (cases_Bool (is_some (due_service s a v))) [
    | inl due ↦ rw due refl
    | inr none ↦ rw none (received v (first s a v) head refl)
  ]

  by_head : (head : Option Event) → head_event s.events a ≡ head → option_and_then (delivery_if s a) (option_map (next_for s a) head) ≡ option_and_then (delivery_for s a) head
  by_head None is = refl
  by_head (Some v) is = brought v is

  pub delivery_is : next_delivery s a ≡ option_and_then (delivery_for s a) (unheld s a)
  delivery_is = elim (cases_Bool (is_suspended s.suspensions a)) [
    | inl held ↦ rw held refl
    | inr free ↦ rw free (by_head (head_event s.events a) refl)
  ]
