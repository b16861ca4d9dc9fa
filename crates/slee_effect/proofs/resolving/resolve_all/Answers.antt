use Rattle.slee_effect.specs.Resolving.{resolved_effect}
use Rattle.slee_effect.proofs.StepLemmas.{one_more}
use Rattle.slee_effect.proofs.resolving.resolve_all.Goals as goal

pub loop-effect-preserved : goal.loop-effect-preserved
loop-effect-preserved c =
    one_more (resolved_effect c.args.next) c.args.effects.now c.loop-effect.effects c.loop-effect.effect-index c.effect-item.result c.resolve_one.new.effect c.loop-effect-test.true c.loop-effect.invariant c.resolve_one.ensures
