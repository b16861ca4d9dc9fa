-- Entities and their trees: what is read of them, and how they change. JSR 240, chapter 6, has trees and attachment counts; the order in which a tree goes is the project's own.
use Rattle.std.specs.Prelude.{ℕ, zero, suc, ◌+◌, ℤ, ◌==◌, nat_lt, Bool, false, true, ◌&&◌, not, if◌then◌else◌, List, [], ◌∷◌, ◌++◌, map, length, filter, flat_map, sum, find, Option, Some, None, option_map, option_and_then}
use Rattle.std.specs.Str.{bytes_eq}
use Rattle.slee_value.specs.declared.convergence.ConvName.{ConvName}
use Rattle.rows_sorted.specs.Orders.{put}
use Rattle.router_state.specs.declared.rows.Stem.{Stem}
use Rattle.router_state.specs.declared.rows.Stem.TheVariants as stems
use Rattle.router_state.specs.declared.rows.Entity.{Entity}
use Rattle.router_state.specs.declared.rows.Link.{Link}
use Rattle.router_state.specs.declared.rows.RootName.{RootName}

-- the entity of this number
abbrev pub entity_at : List Entity → ℕ → Option Entity
entity_at rows e = find (λ row. row.number.0 == e) rows

-- the number of an entity
abbrev pub number_of : Entity → ℕ
number_of row = row.number.0

-- the number of the parent, and 0 for a root
abbrev pub parent_in : Stem → ℕ
parent_in (stems.Root service) = 0
parent_in (stems.Child parent relation) = parent.0

-- the number of an entity's parent, and 0 for a root
abbrev pub parent_of : Entity → ℕ
parent_of row = parent_in row.stem

-- the entity is a root
abbrev pub is_root : Stem → Bool
is_root (stems.Root service) = true
is_root (stems.Child parent relation) = false

-- the entity is a root of this service
abbrev pub is_root_of : ℕ → Stem → Bool
is_root_of service (stems.Root own) = own == service
is_root_of service (stems.Child parent relation) = false

-- the entity is a child of this one under this relation
abbrev pub is_child_of : ℕ → List ℕ → Stem → Bool
is_child_of e relation (stems.Root service) = false
is_child_of e relation (stems.Child parent own) = (parent.0 == e) && bytes_eq own relation

-- the entities of which this one is the parent; of 0, the roots
abbrev pub children : List Entity → ℕ → List Entity
children rows e = filter (λ row. parent_of row == e) rows

-- the numbers of the roots
abbrev pub roots : List Entity → List ℕ
roots rows = map number_of (children rows 0)

-- the numbers of the children under a relation
abbrev pub children_under : List Entity → ℕ → List ℕ → List ℕ
children_under rows e relation = map number_of (filter (λ row. is_child_of e relation row.stem) rows)

-- how many attachments an entity has
abbrev pub links_of : List Link → ℕ → ℕ
links_of links e = length (filter (λ l. l.entity.0 == e) links)

-- the attachment count of an entity: its attachments, and the counts of its children, down to so many generations
abbrev pub attachment_count : ℕ → List Entity → List Link → ℕ → ℕ
attachment_count zero rows links e = 0
attachment_count (suc n) rows links e =
    links_of links e + sum (map (λ row. attachment_count n rows links row.number.0) (children rows e))

-- the whole count: there are no more generations than entities
abbrev pub count_of : List Entity → List Link → ℕ → ℕ
count_of rows links e = attachment_count (length rows) rows links e

-- a tree in the order in which it goes, down to so many generations: the children by number, each behind its own tree, and then the entity
abbrev pub tree : ℕ → List Entity → ℕ → List ℕ
tree zero rows e = []
tree (suc n) rows e = flat_map (λ row. if parent_of row == e then tree n rows row.number.0 else []) rows ++ e ∷ []

-- the whole tree in the order in which it goes
abbrev pub tree_of : List Entity → ℕ → List ℕ
tree_of rows e = tree (length rows) rows e

-- the service of a tree, by the stem of an entity that stands so many generations below the root
abbrev pub service_above : ℕ → List Entity → Stem → Option ℕ
service_above n rows (stems.Root service) = Some service
service_above zero rows (stems.Child parent relation) = None
service_above (suc n) rows (stems.Child parent relation) =
    option_and_then (λ row. service_above n rows row.stem) (entity_at rows parent.0)

-- the service of an entity's tree
abbrev pub service_of : List Entity → Entity → Option ℕ
service_of rows row = service_above (length rows) rows row.stem

-- A new entity has the greatest number, and so stands last.
abbrev pub with_entity : List Entity → ℕ → ℕ → Stem → ℤ → List Entity
with_entity rows e block stem priority = rows ++ record { number = record { 0 = e }; block = block; stem = stem; priority = priority } ∷ []

-- no entity of this number
abbrev pub without_entity : List Entity → ℕ → List Entity
without_entity rows e = filter (λ row. not (row.number.0 == e)) rows

-- an entity's row: with this priority, where it has this number
abbrev pub has_priority : ℕ → ℤ → Entity → Entity
has_priority e priority row = if row.number.0 == e then record row { priority = priority } else row

-- the entity has this priority
abbrev pub with_priority : List Entity → ℕ → ℤ → List Entity
with_priority rows e priority = map (has_priority e priority) rows

-- convergence names stand by entity
abbrev pub root_name_before : RootName → RootName → Bool
root_name_before x y = nat_lt x.entity.0 y.entity.0

-- the convergence name of an entity
abbrev pub root_name_at : List RootName → ℕ → Option ConvName
root_name_at rows e = option_map (λ row. row.name) (find (λ row. row.entity.0 == e) rows)

-- the root has this convergence name
abbrev pub with_root_name : List RootName → ℕ → ConvName → List RootName
with_root_name rows e name = put root_name_before (record { entity = record { 0 = e }; name = name }) rows

-- no convergence name of the entity
abbrev pub without_root_name : List RootName → ℕ → List RootName
without_root_name rows e = filter (λ row. not (row.entity.0 == e)) rows
