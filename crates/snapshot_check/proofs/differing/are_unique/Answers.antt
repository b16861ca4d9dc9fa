-- a table whose rows don't differ, one table more, and all tables
use Rattle.std.proofs.Common.{sym, ◌∙◌, arith, ◌≡◌, true}
use Rattle.deploy_model.specs.Deployed.{table_unique}
use Rattle.deploy_model.specs.Resolving.{deployed_of}
use Rattle.snapshot_check.specs.Tables.{differ_in_names, rows_in}
use Rattle.snapshot_check.proofs.UniqueLemmas.{table_broken, table_more, tables_unique}
use Rattle.snapshot_check.proofs.differing.are_unique.Goals as goal

pub returns-then-not-unique : goal.returns-then-not-unique
returns-then-not-unique c = sym (table_broken (deployed_of c.args.deployment.now.parts) c.args.rows.now c.tables.table (sym c.in_ok-unique.ensures ∙ c.if-not-unique.true))

pub tables-preserved : goal.tables-preserved
tables-preserved c =
    table_more (λ t. differ_in_names (rows_in t c.args.rows.now) (table_unique (deployed_of c.args.deployment.now.parts) t) ≡ true) c.tables.table c.tables.invariant
    (sym c.in_ok-unique.ensures ∙ c.if-not-unique.false)

pub returns : goal.returns
returns c = sym (tables_unique (deployed_of c.args.deployment.now.parts) c.args.rows.now c.tables.table (omega (arith, c.count_tables-count.ensures)) c.tables.invariant)
