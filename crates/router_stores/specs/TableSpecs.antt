-- What a deployment declares for the rows of its profile tables.
use Rattle.std.specs.Prelude.{List, [], map, slice_get}
use Rattle.std.specs.Option.{option_map_or}
use Rattle.deploy_model.specs.Deployed.{Deployed, DeployedTable}
use Rattle.profile_tables.specs.declared.table_spec.TableSpec.{TableSpec}

-- what is declared for the rows of a table
abbrev pub spec_of : Deployed → DeployedTable → TableSpec
spec_of d t = record {
  attributes = option_map_or (λ p. p.attributes) (slice_get d.profiles t.profile) [];
  unique = option_map_or (λ p. p.unique) (slice_get d.profiles t.profile) [];
}

-- the same for each table of a deployment
abbrev pub specs_of : Deployed → List TableSpec
specs_of d = map (spec_of d) d.tables
