-- the attributes so far and the others
use Rattle.std.proofs.Common.{◌≡◌, ◌++◌, drop}
use Rattle.std.specs.Prelude.{map}
use Rattle.deploy_model.specs.Resolving.{field_of}
use Rattle.router_stores.proofs.table_specs.fields_of.Given as goal

abbrev pub invariant-loop-attribute : goal.invariant-loop-attribute
invariant-loop-attribute l = l.fields.items ++ map field_of (drop l.attribute-index l.attributes) ≡ map field_of l.attributes
