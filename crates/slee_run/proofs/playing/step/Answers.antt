use Rattle.std.proofs.Common.{◌∙◌, ap, sym, subst, List, Some}
use Rattle.trace_history.specs.declared.choice.Choice.TheVariants as choices
use Rattle.router_state.specs.declared.kindred.Kindred.{Kindred}
use Rattle.router_steps.specs.Steps.{choice_on}
use Rattle.tx_attempt.specs.declared.ticket.Ticket.{Ticket}
use Rattle.slee_container.specs.Claims.{is_claimed}
use Rattle.slee_container.specs.Container.{state_of}
use Rattle.slee_run.specs.Playing.{Moves}
use Rattle.slee_run.proofs.AdvanceLemmas.{finish_next, initial_next, moved}
use Rattle.slee_run.proofs.playing.step.Goals as goal

pub initial-requires-clause-next : goal.initial-requires-clause-next
initial-requires-clause-next g c = initial_next (state_of c.args.container.now) c.args.activity (c.requires.next ∙ ap Some c.in-Initial.is)

pub initial-requires-clause-unclaimed : goal.initial-requires-clause-unclaimed
initial-requires-clause-unclaimed g c = ap (λ (ts : List Ticket). is_claimed ts c.args.activity.0) c.requires.claims

pub deliver-requires-clause-next : goal.deliver-requires-clause-next
deliver-requires-clause-next g c = c.requires.next ∙ ap Some c.in-Deliver.is

pub finish-requires-clause-next : goal.finish-requires-clause-next
finish-requires-clause-next g c = finish_next (state_of c.args.container.now) c.args.activity (c.requires.next ∙ ap Some c.in-Finish.is)

pub finish-requires-clause-unclaimed : goal.finish-requires-clause-unclaimed
finish-requires-clause-unclaimed g c = ap (λ (ts : List Ticket). is_claimed ts c.args.activity.0) c.requires.claims

pub returns-in-Initial-clause-setup : goal.returns-in-Initial-clause-setup
returns-in-Initial-clause-setup g c = c.initial.ensures.step.setup

pub returns-in-Initial-clause-moves : goal.returns-in-Initial-clause-moves
returns-in-Initial-clause-moves g c =
    subst (λ (k : Kindred). Moves c.args.container.now (choice_on (c.args.activity.0, k)) c.initial.result c.initial.new.self) (sym c.in-Initial.is)
    (moved c.args.container.now (choices.Initial c.args.activity) c.initial.result c.initial.new.self _ _ (c.initial.ensures.claims ∙ c.requires.claims) c.initial.ensures.step)

pub returns-in-Deliver-clause-moves : goal.returns-in-Deliver-clause-moves
returns-in-Deliver-clause-moves g c =
    subst (λ (k : Kindred). Moves c.args.container.now (choice_on (c.args.activity.0, k)) c.deliver.result c.deliver.new.container) (sym c.in-Deliver.is) c.deliver.ensures.moves

pub returns-in-Finish-clause-setup : goal.returns-in-Finish-clause-setup
returns-in-Finish-clause-setup g c = c.finish.ensures.step.setup

pub returns-in-Finish-clause-moves : goal.returns-in-Finish-clause-moves
returns-in-Finish-clause-moves g c =
    subst (λ (k : Kindred). Moves c.args.container.now (choice_on (c.args.activity.0, k)) c.finish.result c.finish.new.self) (sym c.in-Finish.is)
    (moved c.args.container.now (choices.Finish c.args.activity) c.finish.result c.finish.new.self _ _ (c.finish.ensures.claims ∙ c.requires.claims) c.finish.ensures.step)
