use Rattle.trace_history.specs.declared.choice.Choice.TheVariants as choices
use Rattle.slee_run.proofs.DeliverLemmas.{memory_moves}
use Rattle.slee_run.proofs.delivering.deliver_claimed.Goals as goal

pub commit-requires-clause-attempt : goal.commit-requires-clause-attempt
commit-requires-clause-attempt g c = c.in-Ok.ensures.of

pub commit-requires-clause-done : goal.commit-requires-clause-done
commit-requires-clause-done g c = c.in-Ok.ensures.done

pub commit-requires-clause-seen : goal.commit-requires-clause-seen
commit-requires-clause-seen g c = c.in-Ok.ensures.seen

pub returns-in-Ok-clause-setup : goal.returns-in-Ok-clause-setup
returns-in-Ok-clause-setup g c = c.commit.ensures.setup

pub returns-in-Ok-clause-moves : goal.returns-in-Ok-clause-moves
returns-in-Ok-clause-moves g c = c.commit.ensures.moves

pub returns-in-Err-clause-moves : goal.returns-in-Err-clause-moves
returns-in-Err-clause-moves g c = memory_moves c.args.container.now (choices.Deliver c.args.ticket.now.activity)
