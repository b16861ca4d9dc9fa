use Rattle.std.proofs.Common.{rules}
use Rattle.script_types.specs.ProgramOf.{kept_program}
use Rattle.tx_attempt.specs.Attempts.{IsNeeded}
use Rattle.worker_gate.specs.Hands.{IsTrying}
use Rattle.worker_gate.proofs.HandLemmas.{ran_needs, told}
use Rattle.worker_gate.proofs.trying.run_by.Goals as goal

pub returns-in_default : goal.returns-in_default
returns-in_default g c =
    (ran_needs (kept_program c.args.deployment.now.codes) c.args.ticket c.asking.attempt c.run.new.attempt c.asking.invariant c.run.ensures.same, search rules)

pub asking-preserved : goal.asking-preserved
asking-preserved g c =
    let program = kept_program c.args.deployment.now.codes in
    let ran : IsTrying program c.args.ticket c.run.new.attempt = ran_needs program c.args.ticket c.asking.attempt c.run.new.attempt c.asking.invariant c.run.ensures.same in
    let needed : IsNeeded program c.run.new.attempt c.in-Ok-Need.key = search rules in
    told program c.args.ticket c.run.new.attempt c.learn.new.self (c.in-Ok-Need.key, c.in-Some.seen) ran needed c.in-Ok.ensures.delivery c.in-Ok.ensures.known c.in-Ok.ensures.asked
