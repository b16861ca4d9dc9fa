-- Changes that keep trees: a child is made below an entity that is there, and an entity that goes has no child and is attached nowhere.
use Rattle.std.specs.Prelude.{Bool, true, ◌&&◌, IsTrue, List, [], ◌∷◌}
use Rattle.router_state.specs.State.{State}
use Rattle.router_state.specs.Changes.{after_change}
use Rattle.router_state.specs.Fitting.{has_entity, is_childless, is_detached}
use Rattle.router_state.specs.declared.change.Change.{Change}
use Rattle.router_state.specs.declared.change.Change.TheVariants as changes

-- the change does so
abbrev pub keeps_trees : Change → State → Bool
keeps_trees (changes.CreateChild parent relation block priority) s = has_entity s.entities parent.0
keeps_trees (changes.Remove e) s = is_childless s.entities e.0 && is_detached s.links e.0
keeps_trees _ s = true

-- the same as a statement
abbrev pub KeepsTrees : Change → State → Type 0
KeepsTrees c s = IsTrue (keeps_trees c s)

-- each change does so at its turn
abbrev pub AllKeepTrees : List Change → State → Type 0
AllKeepTrees [] s = Unit {0}
AllKeepTrees (c ∷ cs) s = KeepsTrees c s × AllKeepTrees cs (after_change c s)
