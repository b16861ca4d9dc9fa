use Rattle.std.proofs.Common.{[], ◌∷◌, ◌++◌, List, length, length-append, sym, ap, subst, ◌∙◌, arith}
use Rattle.script_meaning.specs.declared.key.Key.{Key}
use Rattle.script_meaning.specs.declared.seen.Seen.{Seen}
use Rattle.script_types.specs.Program.{Program}
use Rattle.script_types.specs.ProgramOf.{kept_program}
use Rattle.rollback_calls.specs.Deliveries.{Handles}
use Rattle.tx_attempt.specs.Attempts.{Progresses}
use Rattle.slee_container.specs.Container.{state_of}
use Rattle.slee_run.proofs.DeliverLemmas.{begins, deliverable, learns, program_is, same_asked, whole_tried}
use Rattle.slee_run.proofs.delivering.try_whole.Goals as goal

pub asking-init : goal.asking-init
asking-init g c = begins (kept_program c.deployment-deployment.result.now.codes) (state_of c.args.container.now) c.args.ticket.now c.args.attempt.now c.requires.ticket.ticket c.requires.next c.requires.new

pub run-requires-clause-checked : goal.run-requires-clause-checked
run-requires-clause-checked g c = c.deployment-deployment.ensures.own.deployed.checked

pub run-requires-clause-handled : goal.run-requires-clause-handled
run-requires-clause-handled g c =
    let d = c.deployment-deployment.result.now in
    let t = c.args.ticket.now in
    deliverable (kept_program d.codes) t c.asking.attempt c.asking.invariant.of
    (subst (λ (p : Program). Handles p t.block t.event.name) (sym (program_is _ d.parts d.codes c.deployment-deployment.ensures.start)) c.requires.ticket.handled)

pub run-requires-clause-asked : goal.run-requires-clause-asked
run-requires-clause-asked g c = c.asking.invariant.asked

pub asking-preserved : goal.asking-preserved
asking-preserved g c =
    let program = kept_program c.deployment-deployment.result.now.codes in
    let needed = subst (Progresses program c.run.new.self) c.in-Need.is c.in_ok-run.ensures.progress in
    learns program (state_of c.args.container.now) c.args.ticket.now c.asking.attempt c.learn.new.self (c.in-Need.key, c.in_ok-seen-in-Need.seen) c.asking.invariant
    (c.learn.ensures.delivery ∙ c.run.ensures.same.delivery)
    (c.in_ok-learn-in-Need.ensures.known ∙ ap (λ (l : List (Key × Seen)). l ++ (c.in-Need.key, c.in_ok-seen-in-Need.seen) ∷ []) c.run.ensures.same.known)
    (c.in_ok-learn-in-Need.ensures.asked program (same_asked program c.asking.attempt c.run.new.self c.run.ensures.same c.asking.invariant.asked) needed.wanted)
    (sym c.in_ok-seen-in-Need.ensures)

pub asking-smaller : goal.asking-smaller
asking-smaller g c =
    let program = kept_program c.deployment-deployment.result.now.codes in
    let needed = subst (Progresses program c.run.new.self) c.in-Need.is c.in_ok-run.ensures.progress in
    omega (
      arith,
      needed.few,
      ap length c.run.ensures.same.known,
      ap length c.in_ok-learn-in-Need.ensures.known,
      length-append c.run.new.self.known ((c.in-Need.key, c.in_ok-seen-in-Need.seen) ∷ []),
    )

pub returns-in-Done : goal.returns-in-Done
returns-in-Done g c =
    let d = c.deployment-deployment.result.now in
    let program = kept_program d.codes in
    whole_tried program _ (state_of c.args.container.now) c.args.ticket.now c.asking.attempt c.run.new.self (program_is _ d.parts d.codes c.deployment-deployment.ensures.start) c.asking.invariant c.run.ensures.same
    (subst (Progresses program c.run.new.self) c.in-Done.is c.in_ok-run.ensures.progress)
