-- the tables that are left turn out as all do
use Rattle.std.proofs.Common.{◌≡◌, drop}
use Rattle.deploy_model.specs.Resolving.{deployed_of}
use Rattle.router_state.specs.WellContexts.{tables_have_activities}
use Rattle.snapshot_check_rows.proofs.activities.have_table_activities.Given as goal

abbrev pub invariant-tables : goal.invariant-tables
invariant-tables l =
    tables_have_activities l.activities l.table (drop l.table (deployed_of l.deployment.parts).tables)
    ≡ tables_have_activities l.activities 0 (deployed_of l.deployment.parts).tables
