use Rattle.std.proofs.Common.{◌∙◌, ap, sym, subst, List, length, rules}
use Rattle.signal_script.specs.declared.signal.Signal.{Signal}
use Rattle.router_durable.specs.Core.{state_held}
use Rattle.tx_attempt.specs.declared.ticket.Ticket.{Ticket}
use Rattle.slee_container.specs.Claims.{activities_of}
use Rattle.slee_container.specs.Container.{IsSteady}
use Rattle.slee_container.specs.Opening.{skipped_by}
use Rattle.slee_container.proofs.Opened.{steady_begun}
use Rattle.slee_container.proofs.Turned.{run_begun}
use Rattle.slee_container.proofs.container.begun.Goals as goal

pub invariant_of-result : goal.invariant_of-result
invariant_of-result g c =
    let skipped = c.skipped_by-skipped.result in
    let is = c.skipped_by-skipped.ensures ∙ ap (λ (l : List Signal). skipped_by c.args.mode (length l) c.inputs.result) c.as_slice.ensures.same in (
      subst (λ (ts : List Ticket). IsSteady c.args.lines.now skipped c.args.core.history skipped (state_held c.args.core) ts) (sym c.new.ensures.items)
          (steady_begun c.args.core c.args.lines.now c.args.mode c.inputs.result skipped c.requires.none is c.requires.well),
      c.new-2.ensures.items ∙ sym (ap activities_of c.new.ensures.items),
      run_begun c.args.core c.args.lines.now skipped skipped c.args.steps c.inputs.result c.requires.document c.requires.whole c.requires.none c.requires.live (search rules) (search rules),
    )
