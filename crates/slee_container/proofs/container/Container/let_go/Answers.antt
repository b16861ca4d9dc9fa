use Rattle.std.proofs.Common.{◌∙◌, ap, sym, subst, List}
use Rattle.router_durable.specs.Core.{state_held}
use Rattle.tx_attempt.specs.declared.ticket.Ticket.{Ticket}
use Rattle.slee_container.specs.Claims.{activities_of}
use Rattle.slee_container.specs.Container.{IsSteady}
use Rattle.slee_container.proofs.Lines.{activities_without, steady_without}
use Rattle.slee_container.proofs.container.Container.let_go.Goals as goal

pub invariant_of-self : goal.invariant_of-self
invariant_of-self g c =
    let a = c.args.activity.0 in (
      subst (λ (ts : List Ticket). IsSteady c.self.inside.lines.now c.self.inside.skipped c.self.inside.core.history c.self.inside.taken (state_held c.self.inside.core) ts) (sym c.drop_claim.ensures)
          (steady_without _ _ _ _ _ _ a c.self.invariant.0),
      c.drop_activity.ensures ∙ activities_without c.self.inside.claimed.items c.self.inside.claims.items a c.self.invariant.1 ∙ sym (ap activities_of c.drop_claim.ensures),
      c.self.invariant.2,
    )
