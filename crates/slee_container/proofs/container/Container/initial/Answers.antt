use Rattle.std.proofs.Common.{◌≡◌, sym, ◌∙◌, subst, refl, true}
use Rattle.router_steps.specs.Steps.{is_enabled}
use Rattle.trace_history.specs.declared.choice.Choice.TheVariants as choices
use Rattle.slee_container.specs.Container.{state_of}
use Rattle.slee_container.proofs.Lines.{anywhere, enabled_of, steady_step}
use Rattle.slee_container.proofs.Made.{spent_makes}
use Rattle.slee_container.proofs.Turned.{run_step}
use Rattle.slee_container.proofs.container.Container.initial.Goals as goal

pub select-requires-clause-enabled : goal.select-requires-clause-enabled
select-requires-clause-enabled g c =
    let choice = choices.Initial c.args.activity in
    let old = c.args.self.now in
    subst (λ v. is_enabled (state_of v) choice ≡ true) (sym c.self.view_is)
    (enabled_of old.setup.steps old.history (state_of old) choice (sym c.is_spent.ensures.spent ∙ c.if-is_spent.false) c.requires.next)

pub invariant_of-self : goal.invariant_of-self
invariant_of-self g c = (
  steady_step c.self.inside.lines.now c.self.inside.skipped c.self.inside.core c.select.new.self (choices.Initial c.args.activity) c.self.inside.taken c.self.inside.claims.items c.select.result refl
      (anywhere (choices.Initial c.args.activity) (λ a. tt) c.self.inside.claims.items) c.select.ensures.step c.select.ensures.origin c.self.invariant.0,
  c.self.invariant.1,
  run_step (g.D.Disk.disk c.self.inside.core.disk) (g.D.Disk.disk c.select.new.self.disk) c.self.inside.core c.select.new.self (choices.Initial c.args.activity) c.select.result c.self.inside.lines.now c.self.inside.skipped c.self.inside.taken c.self.inside.steps
      c.self.inside.claims.items c.args.self.now c.self.view_is (sym c.is_spent.ensures.spent ∙ c.if-is_spent.false) refl c.select.ensures c.self.invariant.2,
)

pub returns-then-is_spent-clause-step : goal.returns-then-is_spent-clause-step
returns-then-is_spent-clause-step g c =
    spent_makes (g.D.Disk.disk c.args.self.now.disk) c.args.self.now (choices.Initial c.args.activity) c.requires.live (sym c.is_spent.ensures.spent ∙ c.if-is_spent.true) c.is_spent.ensures.safe c.is_spent.ensures.whole
