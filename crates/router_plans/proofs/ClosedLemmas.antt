-- What a step leaves is closed.
use Rattle.std.proofs.Common.{◌≡◌, ◌<◌, List, [], ◌∷◌, sym, subst, inl, inr}
use Rattle.std.specs.List.{AllByRecursion}
use Rattle.router_state.specs.State.{State}
use Rattle.router_state.specs.Changes.{after_change, after_changes}
use Rattle.router_state.specs.Ordered.{IsOrdered}
use Rattle.router_state.specs.Trees.{parent_of}
use Rattle.router_state.specs.Well.{IsClosed}
use Rattle.router_state.specs.declared.change.Change.{Change}
use Rattle.router_state.specs.declared.rows.Entity.{Entity}
use Rattle.router_stores.specs.Making.{CanMakeAll}
use Rattle.router_steps.specs.Closing.{closing}
use Rattle.router_laws.specs.Forest.{AreBelowChildren}
use Rattle.router_laws.proofs.OrderedLemmas.{ordered_after}
use Rattle.router_laws_closing.proofs.ClosedLemmas.{closing_closed}
use Rattle.router_draft.specs.Drafts.{AreTrees}
use Rattle.router_draft.proofs.MakingLemmas.{trees_after}

all_below : (rows : List Entity) → AllByRecursion (λ (row : Entity). parent_of row < row.number.0) rows → AreBelowChildren rows
all_below [] all row is = elim is [ ]
all_below (x ∷ xs) all row (inl same) = subst (λ (w : Entity). parent_of w < w.number.0) (sym same) all.0
all_below (x ∷ xs) all row (inr more) = all_below xs all.1 row more

ordered_behind : (cs : List Change) (s : State) → IsOrdered s → IsOrdered (after_changes cs s)
ordered_behind [] s ordered = ordered
ordered_behind (c ∷ cs) s ordered = ordered_behind cs (after_change c s) (ordered_after c s ordered)

pub leaves_closed : (cs : List Change) (s u : State) → after_changes cs s ≡ u → CanMakeAll cs s → AreTrees s → IsOrdered s → IsClosed (closing u)
leaves_closed cs s u is made trees ordered =
    let t = after_changes cs s in
    let kept = trees_after cs s made trees in
    let lists = ordered_behind cs s ordered in
    subst (λ (w : State). IsClosed (closing w)) is (closing_closed t (all_below t.entities kept.below) kept.rising lists.activities)
