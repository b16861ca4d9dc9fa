-- The store of entities keeps trees.
use Rattle.std.proofs.Common.{◌≡◌, ℕ, List, subst}
use Rattle.router_state.specs.State.{State}
use Rattle.router_state.specs.Ordered.{IsOrdered}
use Rattle.router_state.specs.declared.rows.Entity.{Entity}
use Rattle.entity_tree.specs.Kept.{AreEntities}
use Rattle.router_draft.specs.Drafts.{AreTrees}

pub are_trees : (s : State) (next : ℕ) (rows : List Entity) → next ≡ s.next_entity → rows ≡ s.entities → IsOrdered s → AreEntities next rows → AreTrees s
are_trees s next rows next_is rows_are ordered kept =
    let own : AreEntities s.next_entity s.entities = subst (λ (n : ℕ). AreEntities n s.entities) next_is (subst (AreEntities next) rows_are kept) in
    record {
      rising = ordered.entities;
      below = own.parents;
      drawn = own.below;
      first = own.from_one;
    }
