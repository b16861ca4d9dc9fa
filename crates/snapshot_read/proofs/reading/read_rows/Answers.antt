use Rattle.std.proofs.lemmas.Result.{err_from_is_err_and}
use Rattle.deploy_model.specs.Resolving.{deployed_of}
use Rattle.snapshot_read.specs.Lists.{lists_of}
use Rattle.snapshot_read.proofs.HeldLemmas.{bad_fault, held_read, held_bad, none_left, some_left}
use Rattle.snapshot_read.proofs.WholeLemmas.{no_counts, no_lists}
use Rattle.snapshot_read.proofs.reading.read_rows.Goals as goal

pub returns-in_err-counts-clause-bad : goal.returns-in_err-counts-clause-bad
returns-in_err-counts-clause-bad c = λ is p.
    let q = err_from_is_err_and c.from_residual.result c.from_residual.ensures.1 in
    no_counts c.args.format (deployed_of c.args.deployment.now.parts) p c.args.bytes.now c.in_err-counts.field-0.0 (bad_fault c.in_err-counts.field-0.0 q.0 c.from_residual.result q.1 q.2 is) c.in_err-counts.ensures

pub returns-in_err-lists-clause-bad : goal.returns-in_err-lists-clause-bad
returns-in_err-lists-clause-bad c = λ is p.
    let q = err_from_is_err_and c.from_residual-in_err-lists.result c.from_residual-in_err-lists.ensures.1 in
    no_lists c.args.format (deployed_of c.args.deployment.now.parts) p c.args.bytes.now c.in_ok-counts.rest.now c.in_ok-counts.counts c.in_err-lists.field-0.0 (bad_fault c.in_err-lists.field-0.0 q.0 c.from_residual-in_err-lists.result q.1 q.2 is) c.in_ok-counts.ensures c.in_err-lists.ensures

pub returns-then-not-is_empty-clause-bad : goal.returns-then-not-is_empty-clause-bad
returns-then-not-is_empty-clause-bad c = λ is p.
    some_left c.args.format (deployed_of c.args.deployment.now.parts) p c.args.bytes.now c.in_ok-counts.rest.now c.in_ok-lists.rest.now c.in_ok-counts.counts (lists_of c.in_ok-lists.lists) c.in_ok-counts.ensures c.in_ok-lists.ensures c.is_empty.result c.is_empty.ensures c.if-not-is_empty.true

pub returns-clause-read : goal.returns-clause-read
returns-clause-read c =
    held_read c.args.format (deployed_of c.args.deployment.now.parts) c.args.bytes.now c.in_ok-counts.rest.now c.in_ok-counts.counts (lists_of c.in_ok-lists.lists) c.in_ok-counts.ensures
    (none_left c.args.format (deployed_of c.args.deployment.now.parts) c.in_ok-counts.rest.now c.in_ok-lists.rest.now (lists_of c.in_ok-lists.lists) c.in_ok-lists.ensures c.is_empty.result c.is_empty.ensures c.if-not-is_empty.false) c.rows_of.result c.rows_of.ensures

pub returns-clause-bad : goal.returns-clause-bad
returns-clause-bad c =
    held_bad c.args.format (deployed_of c.args.deployment.now.parts) c.args.bytes.now c.in_ok-counts.rest.now c.in_ok-counts.counts (lists_of c.in_ok-lists.lists) c.in_ok-counts.ensures
    (none_left c.args.format (deployed_of c.args.deployment.now.parts) c.in_ok-counts.rest.now c.in_ok-lists.rest.now (lists_of c.in_ok-lists.lists) c.in_ok-lists.ensures c.is_empty.result c.is_empty.ensures c.if-not-is_empty.false) c.rows_of.result c.rows_of.ensures
