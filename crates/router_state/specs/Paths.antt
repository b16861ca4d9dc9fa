-- Paths of entities, and their order: a parent before its child, a higher priority first, then the lower number. JSR 240, 8.4, has priorities; this order over whole paths is the project's own.
use Rattle.std.specs.Prelude.{ℕ, zero, suc, ℤ, ◌==◌, nat_lt, int_lt, Bool, false, true, ◌||◌, ◌&&◌, not, if◌then◌else◌, List, [], ◌∷◌, ◌++◌, length, Some, None, Option}
use Rattle.std.specs.Option.{option_map_or}
use Rattle.router_state.specs.Trees.{parent_of, entity_at}
use Rattle.router_state.specs.declared.rows.Entity.{Entity}

-- the priorities and numbers from the root down to the entity, up to so many of them
abbrev pub path : ℕ → List Entity → ℕ → List (ℤ × ℕ)
path zero rows e = []
path (suc n) rows e = option_map_or (λ row. path n rows (parent_of row) ++ (row.priority, row.number.0) ∷ []) (entity_at rows e) []

-- the whole path: no path is longer than there are entities
abbrev pub path_of : List Entity → Entity → List (ℤ × ℕ)
path_of rows row = path (length rows) rows row.number.0

-- higher priority first, then the lower number
abbrev pub step_before : ℤ × ℕ → ℤ × ℕ → Bool
step_before x y = int_lt y.0 x.0 || (not (int_lt x.0 y.0) && nat_lt x.1 y.1)

-- the same priority and the same number
abbrev pub step_same : ℤ × ℕ → ℤ × ℕ → Bool
step_same x y = not (int_lt y.0 x.0) && (not (int_lt x.0 y.0) && (x.1 == y.1))

-- step by step; a path comes before those that go on from it
abbrev pub path_before : List (ℤ × ℕ) → List (ℤ × ℕ) → Bool
path_before p [] = false
path_before [] (y ∷ q) = true
path_before (x ∷ p) (y ∷ q) = step_before x y || (step_same x y && path_before p q)

-- the entity of earlier path
abbrev pub earlier : List Entity → Option Entity → Entity → Entity
earlier rows None y = y
earlier rows (Some x) y = if path_before (path_of rows y) (path_of rows x) then y else x

-- the entity of least path, of perhaps this one and those
abbrev pub least_path : List Entity → Option Entity → List Entity → Option Entity
least_path rows best [] = best
least_path rows best (y ∷ ys) = least_path rows (Some (earlier rows best y)) ys
