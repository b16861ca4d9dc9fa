-- The root of the tree in which an entity stands, and how it is found once those of lower numbers are known.
use Rattle.std.specs.Prelude.{ℕ, zero, suc, ◌==◌, Bool, ◌&&◌, ◌||◌, nat_lt, if◌then◌else◌, List, find}
use Rattle.std.specs.Option.{option_map_or}
use Rattle.rows_sorted.specs.Keys.{Key, number_key}
use Rattle.router_state.specs.Trees.{entity_at, parent_of}
use Rattle.router_state.specs.declared.rows.Entity.{Entity}
use Rattle.snapshot_check.specs.declared.tops.Top.{Top}

-- the number of the parent of the entity of this number, and 0 where it has none or isn't there
abbrev pub parent_at : List Entity → ℕ → ℕ
parent_at rows e = option_map_or parent_of (entity_at rows e) 0

-- the entity that stands so many steps above this one, or the root of its tree
abbrev pub above : ℕ → List Entity → ℕ → ℕ
above zero rows e = e
above (suc n) rows e = if parent_at rows e == 0 then e else above n rows (parent_at rows e)

-- the root of the tree in which the entity stands: a parent has a lower number
abbrev pub top_of : List Entity → ℕ → ℕ
top_of rows e = above e rows e

-- an entity is numbered from 1, and has no parent or one of a lower number
abbrev pub is_lower : Entity → Bool
is_lower row = nat_lt 0 row.number.0 && ((parent_of row == 0) || nat_lt (parent_of row) row.number.0)

-- an entity with the root of its tree
abbrev pub top_row : List Entity → Entity → Top
top_row rows row = record { number = row.number.0; top = top_of rows row.number.0 }

-- its key: the entity's number
abbrev pub top_key : Top → Key
top_key t = number_key t.number

-- what is noted for the entity of this number, and the number itself where nothing is
abbrev pub noted : List Top → ℕ → ℕ
noted tops e = option_map_or (λ t. t.top) (find (λ t. t.number == e) tops) e

-- an entity with the root of its tree, by those that are noted
abbrev pub next_row : List Top → Entity → Top
next_row tops row = record { number = row.number.0; top = if parent_of row == 0 then row.number.0 else noted tops (parent_of row) }
