-- For how many entries room is made before changes.
use Rattle.std.specs.Prelude.{ℕ, ◌+◌, List, [], ◌∷◌}
use Rattle.router_state.specs.declared.change.Change.{Change}
use Rattle.router_state.specs.declared.change.Change.TheVariants as changes

-- the most entries that a change adds to one list: a new root, or the name of one
abbrev pub added : Change → ℕ
added (changes.CreateRoot block service priority) = 1
added (changes.Root e name) = 1
added c = 0

-- the same for changes one after another
abbrev pub all_added : List Change → ℕ
all_added [] = 0
all_added (c ∷ cs) = added c + all_added cs
