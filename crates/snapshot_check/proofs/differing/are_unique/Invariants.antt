-- the rows of each table so far differ
use Rattle.std.proofs.Common.{◌≡◌, ◌<◌, ℕ, true}
use Rattle.deploy_model.specs.Deployed.{table_unique}
use Rattle.deploy_model.specs.Resolving.{deployed_of}
use Rattle.snapshot_check.specs.Tables.{differ_in_names, rows_in}
use Rattle.snapshot_check.proofs.differing.are_unique.Given as goal

abbrev pub invariant-tables : goal.invariant-tables
invariant-tables l = (t : ℕ) → t < l.table → differ_in_names (rows_in t l.rows) (table_unique (deployed_of l.deployment.parts) t) ≡ true
