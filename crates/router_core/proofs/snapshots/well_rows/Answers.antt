-- what was read and tested is restored; a fault, or a test that fails, comes where nothing is
use Rattle.std.proofs.Common.{Err, ap, arith}
use Rattle.std.proofs.lemmas.Result.{err_from_is_err_and}
use Rattle.deploy_model.specs.Resolving.{deployed_of}
use Rattle.router_laws_reading.proofs.Unread.{unread}
use Rattle.snapshot_read.specs.declared.fault.ReadFault.{ReadFault}
use Rattle.snapshot_rows.specs.Rows.{state_of}
use Rattle.router_core.proofs.RestoreLemmas.{bad_read, ill_read, well_read}
use Rattle.router_core.proofs.snapshots.well_rows.Goals as goal

pub returns-in_err-rows-clause-bad : goal.returns-in_err-rows-clause-bad
returns-in_err-rows-clause-bad c = λ is p.
    let q = err_from_is_err_and c.from_residual.result c.from_residual.ensures.1 in
    let bad = bad_read c.in_err-rows.field-0.0 q.0 c.from_residual.result q.1 q.2 is in
    unread c.args.format (deployed_of c.args.deployment.now.parts) p c.args.bytes.now (λ i. omega (arith, c.type_inv.bytes i)) c.requires (c.in_err-rows.ensures.bad (ap (λ (e : ReadFault). Err e) bad) p)

pub returns-in-Ok-true-clause-ok : goal.returns-in-Ok-true-clause-ok
returns-in-Ok-true-clause-ok c = λ p.
    let d = deployed_of c.args.deployment.now.parts in
    well_read c.args.format d p c.args.bytes.now (state_of d p c.in_ok-rows.rows) c.in-Ok-true.field-0 (λ i. omega (arith, c.type_inv.bytes i)) (c.in_ok-rows.ensures.read p) (c.in-Ok-true.ensures p) c.in-Ok-true.field-0-test

pub returns-in-Ok-false-clause-bad : goal.returns-in-Ok-false-clause-bad
returns-in-Ok-false-clause-bad c = λ is p.
    let d = deployed_of c.args.deployment.now.parts in
    ill_read c.args.format d p c.args.bytes.now (state_of d p c.in_ok-rows.rows) c.in-Ok-false.field-0 (c.in_ok-rows.ensures.read p) (c.in-Ok-false.ensures p) c.in-Ok-false.field-0-test
