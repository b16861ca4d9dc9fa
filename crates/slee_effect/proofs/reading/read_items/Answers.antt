use Rattle.std.proofs.lemmas.Result.{err_from_is_err_and}
use Rattle.slee_effect.specs.Reading.{items_at}
use Rattle.slee_effect.proofs.Loops.{items_go_on, items_end, items_done}
use Rattle.slee_effect.proofs.MemoryLemmas.{begun_on, effect_memory}
use Rattle.slee_effect.proofs.reading.read_items.Goals as goal

pub returns-in_err-effect-clause-items : goal.returns-in_err-effect-clause-items
returns-in_err-effect-clause-items c =
    let p = err_from_is_err_and c.from_residual.result c.from_residual.ensures.1 in
    rw (p.1, p.2) (items_end c.in_err-effect.field-0.0 c.items.effects.items c.args.count c.items.counter c.items.rest.now (items_at c.args.count c.args.bytes.now) c.items-test.true c.in_err-effect.ensures.part c.items.invariant.0)

pub items-preserved : goal.items-preserved
items-preserved c = (
  rw c.in_ok-push.ensures.items (items_go_on c.items.effects.items c.args.count c.items.counter c.items.rest.now c.in_ok-effect.effect c.in_ok-effect.after.now (items_at c.args.count c.args.bytes.now) c.items-test.true c.in_ok-effect.ensures.part c.items.invariant.0),
  begun_on c.items.counter c.items.rest.now c.args.bytes.now (c.in_ok-effect.effect, c.in_ok-effect.after.now) c.in_ok-effect.ensures.part c.items.invariant.1,
)

pub returns-clause-items : goal.returns-clause-items
returns-clause-items c = items_done c.items.effects.items c.args.count c.items.counter c.items.rest.now (items_at c.args.count c.args.bytes.now) c.items-test.false c.items.invariant.0

pub returns-in_err-push-clause-memory : goal.returns-in_err-push-clause-memory
returns-in_err-push-clause-memory c = λ e.
    effect_memory c.args.count c.items.counter c.items.rest.now c.args.bytes.now (c.in_ok-effect.effect, c.in_ok-effect.after.now) c.items-test.true c.items.invariant.1 c.in_ok-effect.ensures.part
