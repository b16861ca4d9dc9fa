-- what is declared for the tables so far, and for the others
use Rattle.std.proofs.Common.{◌≡◌, ◌++◌, drop}
use Rattle.std.specs.Prelude.{map}
use Rattle.deploy_model.specs.Resolving.{deployed_of, table_of}
use Rattle.deploy_model.specs.Tables.{key_number}
use Rattle.deploy_model.specs.declared.parts.ProfileSpec.{ProfileSpec}
use Rattle.deploy_model.specs.declared.parts.Table.{Table}
use Rattle.router_stores.specs.TableSpecs.{spec_of}
use Rattle.router_stores.proofs.table_specs.specs_of.Given as goal

abbrev pub invariant-loop-table : goal.invariant-loop-table
invariant-loop-table l =
    l.specs.items ++ map (λ (t : Table). spec_of (deployed_of l.deployment.parts) (table_of (key_number (λ (p : ProfileSpec). p.key) l.deployment.parts.profiles) t)) (drop l.table-index l.tables)
    ≡ map (λ (t : Table). spec_of (deployed_of l.deployment.parts) (table_of (key_number (λ (p : ProfileSpec). p.key) l.deployment.parts.profiles) t)) l.tables
