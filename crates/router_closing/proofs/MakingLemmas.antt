-- Changes that can be made keep trees.
use Rattle.std.proofs.Common.{List, [], ◌∷◌, refl, ◌<◌, inl, inr, subst, sym}
use Rattle.std.specs.List.{AllByRecursion}
use Rattle.std.proofs.lemmas.Bool.{and_parts}
use Rattle.router_state.specs.State.{State}
use Rattle.router_state.specs.Fits.{has_next}
use Rattle.router_state.specs.Fitting.{has_entity}
use Rattle.router_state.specs.Trees.{parent_of}
use Rattle.router_state.specs.Changes.{after_change}
use Rattle.router_state.specs.declared.change.Change.{Change}
use Rattle.router_state.specs.declared.change.Change.TheVariants as changes
use Rattle.router_state.specs.declared.rows.Entity.{Entity}
use Rattle.router_stores.specs.Making.{CanMake, CanMakeAll}
use Rattle.router_draft.specs.Drafts.{AreTrees}
use Rattle.router_laws.specs.Forest.{IsIn}
use Rattle.router_laws_closing.specs.Keeping.{KeepsTrees, AllKeepTrees}
use Rattle.router_laws_closing.specs.Loose.{IsNumbered}

keeps : (c : Change) (s : State) → CanMake c s → KeepsTrees c s
keeps (changes.CreateChild parent relation block priority) s can = (and_parts (has_entity s.entities parent.0) (has_next s.next_entity) can).0
keeps (changes.Remove e) s can = can
keeps _ s can = refl

pub all_keep : (cs : List Change) (s : State) → CanMakeAll cs s → AllKeepTrees cs s
all_keep [] s can = tt
all_keep (c ∷ cs) s can = (keeps c s can.0, all_keep cs (after_change c s) can.1)

each_row : (P : Entity → Type 0) (rows : List Entity) → AllByRecursion P rows → (row : Entity) → IsIn row rows → P row
each_row P [] all row is = elim is [ ]
each_row P (x ∷ xs) all row (inl same) = subst P (sym same) all.0
each_row P (x ∷ xs) all row (inr more) = each_row P xs all.1 row more

pub numbered : (s : State) → AreTrees s → IsNumbered s
numbered s trees = record {
  below = each_row (λ row. parent_of row < row.number.0) s.entities trees.below;
  drawn = each_row (λ row. row.number.0 < s.next_entity) s.entities trees.drawn;
  some = trees.first;
}
