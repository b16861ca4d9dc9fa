use Rattle.std.proofs.Common.{get_or, ap}
use Rattle.slee_effect.specs.Resolving.{resolved_field}
use Rattle.slee_effect.specs.declared.value.Val.{Val}
use Rattle.slee_effect.proofs.StepLemmas.{one_more}
use Rattle.slee_effect.proofs.resolving.resolve_fields.Goals as goal

pub loop-field-preserved : goal.loop-field-preserved
loop-field-preserved c =
    let now = get_or c.loop-field.fields c.loop-field.field-index c.field-item.result in
    one_more (resolved_field c.args.next) c.args.fields.now c.loop-field.fields c.loop-field.field-index c.field-item.result (now.0, c.resolve_val.new.value) c.loop-field-test.true c.loop-field.invariant (ap (λ (v : Val). (now.0, v)) c.resolve_val.ensures)
