-- What the store of entities is once a list that it lent is let go.
use Rattle.std.specs.Prelude.{◌≡◌, ◌≤◌, ⊤}
use Rattle.std.specs.Borrow.{follows_so, Fml, MutBor}
use mathlib.Core.Option.{none}
use Rattle.entity_tree.specs.Views.{TreeView}
use Rattle.entity_tree.specs.contracts.tree.Tree.{the_row}

-- its entities and the next number stay, and no room is lost
abbrev pub KeepsTree : MutBor TreeView → Fml
KeepsTree t = follows_so the_row the_row t.ghost_name none (λ _ _. ⊤) (λ last. (last.rows ≡ t.now.rows) × (last.next ≡ t.now.next) × (t.now.room ≤ last.room))
