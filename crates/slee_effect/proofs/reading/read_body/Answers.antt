use Rattle.std.proofs.lemmas.Result.{err_from_is_err_and}
use Rattle.slee_effect.proofs.ExitLemmas.{set_attr_read, set_attr_fails}
use Rattle.slee_effect.proofs.reading.read_body.Goals as goal

pub returns-in_err-activity-in-2-clause-part : goal.returns-in_err-activity-in-2-clause-part
returns-in_err-activity-in-2-clause-part c =
    let p = err_from_is_err_and c.from_residual-in_err-activity-in-2.result c.from_residual-in_err-activity-in-2.ensures.1 in
    rw (p.1, p.2) (set_attr_fails c.in_err-activity-in-2.field-0.0 c.args.tag c.args.rest.now c.in-2.is c.in_err-activity-in-2.ensures.part)

pub returns-in_ok-activity-in-2-clause-part : goal.returns-in_ok-activity-in-2-clause-part
returns-in_ok-activity-in-2-clause-part c = rw c.set_attr.ensures (set_attr_read c.args.tag c.args.rest.now ((c.in_ok-activity-in-2.activity, (c.in_ok-activity-in-2.key, c.in_ok-activity-in-2.value)), c.in_ok-activity-in-2.rest.now) c.in-2.is c.in_ok-activity-in-2.ensures.part)
