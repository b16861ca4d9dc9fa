-- What a step touched is enough to look at.
use Rattle.std.proofs.Common.{◌≡◌, ℕ, true, List, filter, nat_lt}
use Rattle.rows_sorted.specs.Orders.{rises_by}
use Rattle.router_state.specs.State.{State}
use Rattle.router_state.specs.Changes.{after_changes}
use Rattle.router_state.specs.Ordered.{IsOrdered}
use Rattle.router_state.specs.Trees.{roots}
use Rattle.router_state.specs.Well.{IsClosed}
use Rattle.router_state.specs.declared.change.Change.{Change}
use Rattle.router_steps.specs.Closing.{activity_numbers, close_nulls, lines_of_nulls, lines_of_roots, without_loose, without_unused}
use Rattle.router_stores.specs.Making.{CanMakeAll}
use Rattle.router_draft.specs.Drafts.{AreTrees}
use Rattle.router_laws_closing.specs.Loose.{is_member}
use Rattle.router_laws_closing.specs.TouchedActivities.{touched_activities}
use Rattle.router_laws_closing.proofs.TouchedActivityLemmas.{touched_activities_close, touched_activities_tell}
use Rattle.router_laws_closing.specs.TouchedRoots.{close_standings, lines_of_standings, stands, touched_roots}
use Rattle.router_laws_closing.proofs.TouchedRootLemmas.{touched_roots_close, touched_roots_tell}
use Rattle.router_closing.proofs.MakingLemmas.{all_keep, numbered}

pub roots_close : (s : State) (cs : List Change) (ys : List ℕ) → IsClosed s → IsOrdered s → AreTrees s → CanMakeAll cs s
    → rises_by (λ (x y : ℕ). nat_lt x y) ys ≡ true → ((n : ℕ) → is_member ys n ≡ is_member (touched_roots s cs) n)
    → close_standings (filter (stands (after_changes cs s).entities) ys) (after_changes cs s) ≡ without_loose (after_changes cs s)
roots_close s cs ys closed order trees can rises have = touched_roots_close cs s ys closed order (numbered s trees) (all_keep cs s can) rises have

pub roots_tell : (s : State) (cs : List Change) (ys : List ℕ) → IsClosed s → IsOrdered s → AreTrees s → CanMakeAll cs s
    → rises_by (λ (x y : ℕ). nat_lt x y) ys ≡ true → ((n : ℕ) → is_member ys n ≡ is_member (touched_roots s cs) n)
    → lines_of_standings (filter (stands (after_changes cs s).entities) ys) (after_changes cs s) ≡ lines_of_roots (roots (after_changes cs s).entities) (after_changes cs s)
roots_tell s cs ys closed order trees can rises have = touched_roots_tell cs s ys closed order (numbered s trees) (all_keep cs s can) rises have

pub nulls_close : (s : State) (cs : List Change) (ys : List ℕ) → IsClosed s → IsOrdered s → rises_by (λ (x y : ℕ). nat_lt x y) ys ≡ true → ((n : ℕ) → is_member ys n ≡ is_member (touched_activities s cs) n)
    → close_nulls ys (after_changes cs s) ≡ without_unused (after_changes cs s)
nulls_close s cs ys closed order rises have = touched_activities_close cs s ys closed order rises have

pub nulls_tell : (s : State) (cs : List Change) (ys : List ℕ) → IsClosed s → IsOrdered s → rises_by (λ (x y : ℕ). nat_lt x y) ys ≡ true → ((n : ℕ) → is_member ys n ≡ is_member (touched_activities s cs) n)
    → lines_of_nulls ys (after_changes cs s) ≡ lines_of_nulls (activity_numbers (after_changes cs s)) (after_changes cs s)
nulls_tell s cs ys closed order rises have = touched_activities_tell cs s ys closed order rises have
