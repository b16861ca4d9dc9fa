use Rattle.std.proofs.Common.{refl}
use Rattle.trace_history.specs.declared.choice.Choice.TheVariants as choices
use Rattle.slee_container.proofs.Lines.{anywhere, steady_step}
use Rattle.slee_container.proofs.Made.{settled}
use Rattle.slee_container.proofs.Turned.{run_step}
use Rattle.slee_container.proofs.container.Container.deliver.Goals as goal

pub invariant_of-self : goal.invariant_of-self
invariant_of-self g c =
    let choice = choices.Deliver c.args.activity in (
      steady_step c.self.inside.lines.now c.self.inside.skipped c.self.inside.core c.deliver-made.new.self choice c.self.inside.taken c.self.inside.claims.items c.deliver-made.result refl
          (anywhere choice (λ a. tt) c.self.inside.claims.items) c.deliver-made.ensures.step c.deliver-made.ensures.origin c.self.invariant.0,
      c.self.invariant.1,
      run_step (g.D.Disk.disk c.self.inside.core.disk) (g.D.Disk.disk c.deliver-made.new.self.disk) c.self.inside.core c.deliver-made.new.self choice c.deliver-made.result c.self.inside.lines.now c.self.inside.skipped c.self.inside.taken c.self.inside.steps
          c.self.inside.claims.items c.args.self.now c.self.view_is c.requires.fresh refl c.deliver-made.ensures c.self.invariant.2,
    )

pub returns : goal.returns
returns g c =
    settled g.D.Disk.disk c.self.inside.core c.deliver-made.new.self (choices.Deliver c.args.activity) c.deliver-made.result c.self.inside.lines.now c.self.inside.skipped c.self.inside.taken c.self.inside.steps c.self.inside.claims.items
    c.args.activity.0 c.args.self.now c.settle.new.self c.self.view_is c.requires.fresh refl c.deliver-made.ensures c.settle.ensures
