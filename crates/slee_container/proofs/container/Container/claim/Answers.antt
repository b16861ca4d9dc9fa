use Rattle.std.proofs.Common.{◌≡◌, ◌∙◌, ap, sym, subst, List, [], ◌∷◌, ◌++◌, false}
use Rattle.slee_value.specs.declared.ids.ActivityId.{ActivityId}
use Rattle.router_core.specs.Delivering.{IsTicket}
use Rattle.router_state.specs.Ordered.{IsOrdered}
use Rattle.tx_attempt.specs.declared.ticket.Ticket.{Ticket}
use Rattle.slee_container.specs.Claims.{activities_of, is_claimed}
use Rattle.slee_container.specs.Container.{state_of}
use Rattle.slee_container.proofs.Lines.{activities_last}
use Rattle.slee_container.proofs.Tickets.{free_unclaimed, steady_claim}
use Rattle.slee_container.proofs.container.Container.claim.Goals as goal

pub invariant_of-self-2 : goal.invariant_of-self-2
invariant_of-self-2 g c =
    let claim = c.args.claim in
    let grown = c.push_reserved-2.ensures.items ∙ ap (λ (l : List Ticket). l ++ claim ∷ []) c.in_ok-reserve.ensures.items in
    let more = c.push_reserved.ensures.items ∙ ap (λ (l : List ActivityId). l ++ claim.activity ∷ []) c.in_ok-reserve-2.ensures.items in
    let ordered = subst IsOrdered c.state.ensures c.ordered.ensures in
    let ticket = subst (λ v. IsTicket (state_of v) claim) (sym c.self.view_is) c.requires.ticket in
    let free = subst (λ v. is_claimed v.claims claim.activity.0 ≡ false) (sym c.self.view_is) (free_unclaimed c.args.self.now claim.activity.0 c.requires.free) in (
      steady_claim c.self.inside.lines.now c.self.inside.skipped c.self.inside.core.history c.self.inside.taken _ c.self.inside.claims.items c.push_reserved-2.new.self.items claim grown ordered ticket free
          c.self.invariant.0,
      more ∙ activities_last c.self.inside.claimed.items c.self.inside.claims.items claim c.self.invariant.1 ∙ sym (ap activities_of grown),
      c.self.invariant.2,
    )
