use Rattle.std.proofs.Common.{refl, sym, ◌∙◌}
use Rattle.router_durable.proofs.Steps.{not_added, added_makes, failed_makes, flushed_makes}
use Rattle.router_durable.proofs.stepping.Core.make.Goals as goal

pub returns-in-Err : goal.returns-in-Err
returns-in-Err g c = not_added g.D.Disk.disk c.args.self.now c.args.plan.choice c.requires.safe c.requires.whole _ _ c.in-Err.ensures

pub returns-then-not-has_long_batch : goal.returns-then-not-has_long_batch
returns-then-not-has_long_batch g c =
    added_makes g.D.Disk.disk c.args.self.now c.args.plan.choice c.requires.safe c.requires.whole c.requires.live _ c.add.new.self c.in-Ok.ensures c.len.result c.len.ensures (sym c.has_long_batch.ensures ∙ c.if-not-has_long_batch.true)

pub returns-in-Ok-flush : goal.returns-in-Ok-flush
returns-in-Ok-flush g c =
    flushed_makes g.D.Disk.disk c.args.self.now c.args.plan.choice c.requires.safe c.requires.whole c.requires.live _ c.add.new.self c.in-Ok.ensures c.flush.new.self c.flush.ensures.any_moment _ c.len-in-Ok-flush.ensures (sym c.has_long_batch.ensures ∙ c.if-not-has_long_batch.false) c.in-Ok-flush.ensures.flush

pub returns-in-Err-flush : goal.returns-in-Err-flush
returns-in-Err-flush g c =
    failed_makes g.D.Disk.disk c.args.self.now c.args.plan.choice c.requires.safe c.requires.whole c.requires.live _ c.add.new.self c.in-Ok.ensures c.flush.new.self c.flush.ensures.any_moment c.in-Err-flush.ensures.flush (c.in-Err-flush.ensures.failed refl)
