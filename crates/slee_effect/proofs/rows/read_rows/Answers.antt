use Rattle.std.proofs.Common.{None}
use Rattle.std.proofs.lemmas.Result.{err_from_is_err_and}
use Rattle.slee_effect.specs.Reading.{rows_at, last_name}
use Rattle.slee_effect.proofs.Loops.{rows_go_on, rows_end, rows_done}
use Rattle.slee_effect.proofs.LastLemmas.{last_pushed}
use Rattle.slee_effect.proofs.rows.read_rows.Goals as goal

pub returns-in_err-field : goal.returns-in_err-field
returns-in_err-field c =
    let p = err_from_is_err_and c.from_residual.result c.from_residual.ensures.1 in
    let h = rw c.deref.ensures.value at c.in_err-field.ensures in
    rw (p.1, p.2) (rows_end c.in_err-field.field-0.0 c.rows.fields.items (last_name c.rows.fields.items) c.args.count c.rows.counter c.rows.rest.now (rows_at c.args.count None c.args.bytes.now) c.rows-test.true h c.rows.invariant)

pub rows-preserved : goal.rows-preserved
rows-preserved c =
    let n = c.in_ok-field.field in
    let h = rw c.deref.ensures.value at c.in_ok-field.ensures in
    rw (c.in_ok-push.ensures.items, last_pushed c.rows.fields.items n) (rows_go_on c.rows.fields.items (last_name c.rows.fields.items) c.args.count c.rows.counter c.rows.rest.now n c.in_ok-field.after.now (rows_at c.args.count None c.args.bytes.now) c.rows-test.true h c.rows.invariant)

pub returns : goal.returns
returns c = rows_done c.rows.fields.items (last_name c.rows.fields.items) c.args.count c.rows.counter c.rows.rest.now (rows_at c.args.count None c.args.bytes.now) c.rows-test.false c.rows.invariant
