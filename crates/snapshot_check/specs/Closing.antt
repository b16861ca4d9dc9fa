-- What closing looks at, as numbers that are put in order.
use Rattle.std.specs.Prelude.{ℕ, List, [], ◌∷◌, flat_map}
use Rattle.router_state.specs.declared.rows.Entity.{Entity}
use Rattle.router_state.specs.declared.rows.Stem.{Stem}
use Rattle.router_state.specs.declared.rows.Stem.TheVariants as stems

-- the service of a root
abbrev pub service_in : Stem → List ℕ
service_in (stems.Root service) = service ∷ []
service_in (stems.Child parent relation) = []

-- the services that have a tree
abbrev pub services_with_trees : List Entity → List ℕ
services_with_trees rows = flat_map (λ row. service_in row.stem) rows
