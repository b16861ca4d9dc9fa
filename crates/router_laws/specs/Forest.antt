-- Trees as a whole.
use Rattle.std.specs.Prelude.{ℕ, ◌+◌, ◌<◌, ◌≡◌, ◌⊎◌, nat_lt, if◌then◌else◌, List, [], ◌∷◌, length}
use Rattle.router_state.specs.Trees.{parent_of, tree_of}
use Rattle.router_state.specs.declared.rows.Entity.{Entity}

-- the member stands in the list
abbrev pub IsIn : {X : Type 0} → X → List X → Type 0
IsIn x [] = ⊥
IsIn x (y ∷ ys) = (x ≡ y) ⊎ IsIn x ys

-- how many rows have greater numbers
abbrev pub above : List Entity → ℕ → ℕ
above [] e = 0
above (row ∷ rows) e = (if nat_lt e row.number.0 then 1 else 0) + above rows e

-- a parent's number is below its child's
abbrev pub AreBelowChildren : List Entity → Type 0
AreBelowChildren rows = (row : Entity) → IsIn row rows → parent_of row < row.number.0

-- the tree below an entity has each child of what is in it
abbrev pub AreWhole : List Entity → Type 0
AreWhole rows =
    (top row : Entity) → IsIn top rows → IsIn row rows → IsIn (parent_of row) (tree_of rows top.number.0) → IsIn row.number.0 (tree_of rows top.number.0)
