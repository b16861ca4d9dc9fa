-- Which roots are listed, and under what.
use Rattle.std.specs.Prelude.{ℕ, List, filter}
use Rattle.router_state.specs.State.{State}
use Rattle.router_state.specs.Trees.{is_root}
use Rattle.router_state.specs.declared.rows.Stem.{Stem}
use Rattle.router_state.specs.declared.rows.Stem.TheVariants as stems
use Rattle.router_state.specs.declared.rows.Entity.{Entity}
use Rattle.router_state.specs.declared.rows.RootName.{RootName}
use Rattle.rows_index.specs.Index.{IsIndex}
use Rattle.rows_index.specs.declared.entry.Entry.{Entry}
use Rattle.router_roots.specs.Names.{name_number}
use Rattle.router_roots.specs.Views.{RootsView}

-- the service of a root, and 0 of a child, which is never listed
abbrev pub service_in : Stem → ℕ
service_in (stems.Root service) = service
service_in (stems.Child parent relation) = 0

-- the roots among the entities
abbrev pub roots_among : List Entity → List Entity
roots_among rows = filter (λ row. is_root row.stem) rows

-- a root under its service
abbrev pub service_entry : Entity → Entry
service_entry row = record { key = service_in row.stem; number = row.number.0 }

-- a named root under the number of its name
abbrev pub name_entry : RootName → Entry
name_entry row = record { key = name_number row.name; number = row.entity.0 }

-- the one list has the roots among the entities, the other one the named roots
pub record AreListed (entities : List Entity) (root_names : List RootName) (by_service by_name : List Entry) : Type 0 where
  pub services : IsIndex service_entry (roots_among entities) by_service
  pub names : IsIndex name_entry root_names by_name

-- the roots are those of the state
abbrev pub AreRootsOf : State → RootsView → Type 0
AreRootsOf s roots = AreListed s.entities s.root_names roots.by_service roots.by_name
