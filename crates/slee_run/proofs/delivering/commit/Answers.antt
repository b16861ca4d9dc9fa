use Rattle.std.proofs.Common.{sym, subst, Ok, Err}
use Rattle.router_durable.specs.declared.fault.StepFault.{StepFault}
use Rattle.trace_history.specs.declared.choice.Choice.TheVariants as choices
use Rattle.slee_run.specs.Playing.{Moves}
use Rattle.slee_run.proofs.DeliverLemmas.{commit_setup, committed, of_step, only_claim, refused_moves}
use Rattle.slee_run.proofs.delivering.commit.Goals as goal

pub commit-requires-clause-claim : goal.commit-requires-clause-claim
commit-requires-clause-claim g c = only_claim c.args.ticket.now c.args.container.now.claims c.requires.claims

pub step_fault_of-requires : goal.step_fault_of-requires
step_fault_of-requires g c = of_step c.args.container.now c.commit.new.self c.args.ticket.now c.args.attempt.now _ _ c.in-Err.fault c.requires.seen c.in-Err.ensures

pub returns-in-Ok-clause-setup : goal.returns-in-Ok-clause-setup
returns-in-Ok-clause-setup g c = commit_setup c.args.container.now c.commit.new.self c.args.ticket.now c.args.attempt.now _ _ (Ok c.in-Ok.number) c.in-Ok.ensures

pub returns-in-Ok-clause-moves : goal.returns-in-Ok-clause-moves
returns-in-Ok-clause-moves g c = committed c.args.container.now c.commit.new.self c.args.ticket.now c.args.attempt.now _ _ c.in-Ok.number c.requires.claims c.in-Ok.ensures

pub returns-in-Err-clause-setup : goal.returns-in-Err-clause-setup
returns-in-Err-clause-setup g c = commit_setup c.args.container.now c.commit.new.self c.args.ticket.now c.args.attempt.now _ _ (Err c.in-Err.fault) c.in-Err.ensures

pub returns-in-Err-clause-moves : goal.returns-in-Err-clause-moves
returns-in-Err-clause-moves g c =
    subst (λ (f : StepFault). Moves c.args.container.now (choices.Deliver c.args.ticket.now.activity) (Err f) c.commit.new.self) (sym c.step_fault_of.ensures)
    (refused_moves c.args.container.now c.commit.new.self c.args.ticket.now c.args.attempt.now _ _ c.in-Err.fault
    (of_step c.args.container.now c.commit.new.self c.args.ticket.now c.args.attempt.now _ _ c.in-Err.fault c.requires.seen c.in-Err.ensures) c.in-Err.ensures)
