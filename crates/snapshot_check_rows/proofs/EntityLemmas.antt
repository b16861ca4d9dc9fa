-- Roots have convergence names, and other entities have none.
use Rattle.std.proofs.Common.{◌≡◌, ℕ, List, Option, Some, None, refl, is_some}
use Rattle.std.specs.Prelude.{not, is_none}
use Rattle.slee_value.specs.declared.ids.EntityId.{EntityId}
use Rattle.router_state.specs.Trees.{root_name_at}
use Rattle.router_state.specs.WellEntities.{is_named}
use Rattle.router_state.specs.declared.rows.Entity.{Entity}
use Rattle.router_state.specs.declared.rows.RootName.{RootName}
use Rattle.router_state.specs.declared.rows.Stem.TheVariants as stems

pub root_named : (names : List RootName) (row : Entity) (service : ℕ) → row.stem ≡ stems.Root service → is_some (root_name_at names row.number.0) ≡ is_named names row
root_named names row service is = rw is refl

none_is : {A : Type 0} (o : Option A) → not (is_some o) ≡ is_none o
none_is None = refl
none_is (Some x) = refl

pub child_unnamed : (names : List RootName) (row : Entity) (parent : EntityId) (relation : List ℕ) → row.stem ≡ stems.Child parent relation → not (is_some (root_name_at names row.number.0)) ≡ is_named names row
child_unnamed names row parent relation is = rw is (none_is (root_name_at names row.number.0))
