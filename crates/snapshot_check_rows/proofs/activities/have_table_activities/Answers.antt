-- a table without its activity
use Rattle.std.proofs.Common.{rules, ◌≡◌, ◌<◌, false, length, List}
use Rattle.std.specs.Option.{option_map_or}
use Rattle.deploy_model.specs.Deployed.{DeployedTable}
use Rattle.deploy_model.specs.Resolving.{deployed_of}
use Rattle.router_state.specs.Contexts.{activity_at, is_of_table}
use Rattle.router_state.specs.Initial.{table_activity}
use Rattle.router_state.specs.declared.rows.Activity.{Activity}
use Rattle.snapshot_check_rows.proofs.ActivityLemmas.{table_absent}
use Rattle.snapshot_check_rows.proofs.activities.have_table_activities.Goals as goal

pub returns-then-not-has_table_activity : goal.returns-then-not-has_table_activity
returns-then-not-has_table_activity c =
    let tables : List DeployedTable = (deployed_of c.args.deployment.now.parts).tables in
    let within : c.tables.table < length tables = search rules in
    let absent : option_map_or (λ (row : Activity). is_of_table c.tables.table row.kind) (activity_at c.args.activities.now (table_activity c.tables.table)) false ≡ false = search rules in
    table_absent c.args.activities.now tables c.tables.table _ within absent c.tables.invariant
