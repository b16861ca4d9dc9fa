-- The head event of an activity is the first of its events, and nobody has received it where no mark is for the activity.
use Rattle.std.proofs.Common.{◌≡◌, ℕ, ◌==◌, List, [], ◌∷◌, refl, ap, inl, inr}
use Rattle.std.specs.Prelude.{if◌then◌else◌, not}
use Rattle.std.specs.List.{list_any}
use Rattle.std.proofs.lemmas.Bool.{cases_Bool}
use Rattle.router_state.specs.Queues.{is_undelivered, without_head}
use Rattle.router_state.specs.declared.rows.EntityMark.{EntityMark}
use Rattle.router_state.specs.declared.rows.Queued.{Queued}
use Rattle.rows_sorted.specs.Runs.{without_first}

pub head_cut : (a : ℕ) (events : List Queued) → without_first (λ q. q.activity.0 == a) events ≡ without_head events a
head_cut a [] = refl
head_cut a (q ∷ qs) = ap (λ rest. if q.activity.0 == a then qs else q ∷ rest) (head_cut a qs)

pub none_marked : (marks : List EntityMark) (a : ℕ) → not (list_any (λ m. m.activity.0 == a) marks) ≡ is_undelivered marks a
none_marked [] a = refl
none_marked (m ∷ ms) a = elim (cases_Bool (m.activity.0 == a)) [
  | inl is ↦ rw is refl
  | inr isnt ↦ rw isnt (none_marked ms a)
]
