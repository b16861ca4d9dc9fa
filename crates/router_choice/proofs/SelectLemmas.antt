-- The service that selects next is the first of those that the event may begin.
use Rattle.std.proofs.Common.{◌≡◌, ℕ, Bool, true, false, List, [], ◌∷◌, None, map, refl, ap, inl, inr}
use Rattle.std.specs.Prelude.{not, ◌&&◌, find, filter, option_map, if◌then◌else◌}
use Rattle.std.proofs.lemmas.Bool.{cases_Bool}
use Rattle.deploy_model.specs.Deployed.{is_initial}
use Rattle.deploy_model.specs.Selecting.{Numbered, service_order, starters_of}
use Rattle.router_state.specs.State.{State}
use Rattle.router_state.specs.declared.rows.Event.{Event}
use Rattle.router_state.specs.Queues.{is_done, is_undelivered}
use Rattle.router_state.specs.Services.{is_active_at}
use Rattle.router_state.specs.Next.{due_service, is_due, is_for}
use Rattle.router_choice.specs.Selecting.{selects}

without_middle : (a b i d : Bool) → i ≡ true → (a && (b && (i && d))) ≡ (a && (b && d))
without_middle a b i d is = rw is refl

with_none : (a b i d : Bool) → i ≡ false → (a && (b && (i && d))) ≡ false
with_none true true i d is = rw is refl
with_none true false i d is = refl
with_none false b i d is = refl

module _ (s : State) (a : ℕ) (v : Event) where
  starts : (xs : List Numbered) → option_map (λ x. x.0) (find (is_due s a v) xs) ≡ find (selects s.services s.services_done a v.target) (map (λ x. x.0) (filter (λ x. is_initial s.deployment x.1.root v.name) xs))
  starts [] = refl
  starts (x ∷ xs) = elim (cases_Bool (is_initial s.deployment x.1.root v.name)) [
    | inl is ↦
        let same = without_middle (is_active_at s.services x.0) (is_for v.target x.0) (is_initial s.deployment x.1.root v.name) (not (is_done s.services_done a x.0)) is in
        elim (cases_Bool (selects s.services s.services_done a v.target x.0)) [
          | inl due ↦ rw (same, is, due) refl
          | inr other ↦ rw (same, is, other) (starts xs)
        ]
    | inr isnt ↦
        let no = with_none (is_active_at s.services x.0) (is_for v.target x.0) (is_initial s.deployment x.1.root v.name) (not (is_done s.services_done a x.0)) isnt in
        rw (no, isnt) (starts xs)
  ]

  pub due_is : due_service s a v ≡ (if is_undelivered s.delivered a then find (selects s.services s.services_done a v.target) (starters_of s.deployment v.name) else None)
  due_is = ap (λ found. if is_undelivered s.delivered a then found else None) (starts (service_order s.deployment.services))
