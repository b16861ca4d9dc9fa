-- What the comparison of two entities by their paths is about: paths, and what is left of them where they are followed up.
use Rattle.std.specs.Prelude.{◌≡◌, ℕ, ℤ, List, [], ◌∷◌, length}
use Rattle.router_state.specs.declared.rows.Entity.{Entity}
use Rattle.router_state.specs.Paths.{path}

-- the whole path of the entity of this number
abbrev pub path_at : List Entity → ℕ → List (ℤ × ℕ)
path_at rows e = path (length rows) rows e

-- the last step of an entity's path
abbrev pub step_of : Entity → ℤ × ℕ
step_of row = (row.priority, row.number.0)

-- the one path begins with the other
abbrev pub BeginsWith : List (ℤ × ℕ) → List (ℤ × ℕ) → Type 0
BeginsWith [] [] = Unit {0}
BeginsWith [] (y ∷ upper) = ⊥
BeginsWith (x ∷ whole) [] = Unit {0}
BeginsWith (x ∷ whole) (y ∷ upper) = (x ≡ y) × BeginsWith whole upper
