use Rattle.std.proofs.Common.{◌≡◌, true, ap, sym, subst, ◌∙◌}
use Rattle.router_state.specs.State.{State}
use Rattle.router_steps.specs.Steps.{is_enabled}
use Rattle.router_durable.specs.Core.{is_down, state_held}
use Rattle.router_durable.proofs.Steps.{makes_for, planned, refused_makes}
use Rattle.router_durable.proofs.stepping.Core.step.Goals as goal

pub plan-requires-clause-own : goal.plan-requires-clause-own
plan-requires-clause-own g c = c.self.invariant.own

pub plan-requires-clause-enabled : goal.plan-requires-clause-enabled
plan-requires-clause-enabled g c =
    subst (λ (s : State). is_enabled s c.args.choice ≡ true) (sym (c.self.invariant.state ∙ ap (λ v. state_held v) c.self.view_is)) c.requires.enabled

pub returns-in_default : goal.returns-in_default
returns-in_default g c = rw (← c.self.view_is) (refused_makes g.D.Disk.disk _ c.args.choice c.self.invariant.sound.safe (c.self.invariant.sound.whole (ap (λ v. is_down v.stop) c.self.view_is ∙ ap is_down c.requires.live)))

pub make-requires-clause-made : goal.make-requires-clause-made
make-requires-clause-made g c = planned _ _ c.args.choice c.in-Ok.plan (c.self.invariant.state ∙ ap (λ v. state_held v) c.self.view_is) c.in-Ok.ensures

pub make-requires-clause-safe : goal.make-requires-clause-safe
make-requires-clause-safe g c = rw (← c.self.view_is) c.self.invariant.sound.safe

pub make-requires-clause-whole : goal.make-requires-clause-whole
make-requires-clause-whole g c = rw (← c.self.view_is) (c.self.invariant.sound.whole (ap (λ v. is_down v.stop) c.self.view_is ∙ ap is_down c.requires.live))

pub returns : goal.returns
returns g c = makes_for g.D.Disk.disk c.args.self.now c.make.new.self c.in-Ok.plan.choice _ c.make.result c.in-Ok.ensures.choice c.make.ensures
