use Rattle.std.proofs.Common.{◌∙◌, ap, sym, subst, Err}
use Rattle.handler_run.specs.Views.{conflict}
use Rattle.router_core.specs.States.{IsOwn}
use Rattle.router_state.specs.Look.{look}
use Rattle.router_state.specs.State.{State}
use Rattle.slee_container.specs.Claims.{HoldsClaims}
use Rattle.slee_container.specs.Container.{state_of}
use Rattle.slee_container.specs.Steps.{ChecksOut}
use Rattle.slee_container.specs.declared.fault.CommitFault.{CommitFault}
use Rattle.slee_container.proofs.Committed.{checks_out, checks_refused}
use Rattle.slee_container.proofs.container.Container.checked.Goals as goal

pub returns-in-Err : goal.returns-in-Err
returns-in-Err g c =
    subst (λ (f : CommitFault). ChecksOut c.args.self.now c.args.ticket.now c.args.attempt.now (Err f)) (sym c.check_fault_of.ensures)
    (checks_refused c.args.self.now c.args.ticket.now c.args.attempt.now c.new-sight.result c.in-Err.stop (c.new-sight.ensures ∙ c.state.ensures ∙ ap state_of c.self.view_is) c.in-Err.ensures)

pub returns-in-Ok-delivered : goal.returns-in-Ok-delivered
returns-in-Ok-delivered g c =
    let served = c.deployment.result.now in
    let same = c.new-sight.ensures ∙ c.state.ensures ∙ ap state_of c.self.view_is in
    checks_out c.args.self.now c.args.ticket.now c.args.attempt.now served c.in-Ok-delivered.delivered (subst (λ v. HoldsClaims (state_of v) v.claims) c.self.view_is c.self.invariant.0.holds) c.requires.claim c.requires.attempt
    (c.deployment.ensures.start ∙ ap (λ v. v.setup.origin.initial) c.self.view_is) (subst (λ v. IsOwn served (state_of v)) c.self.view_is c.deployment.ensures.own) c.requires.done c.in-Ok-delivered.ensures
    (ap (λ (s : State). conflict (look s) c.args.attempt.now.known) (sym same) ∙ c.in-Ok.ensures)
