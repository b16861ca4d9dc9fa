use Rattle.std.proofs.lemmas.Result.{IfOk-weaker}
use Rattle.script_types.specs.ProgramOf.{kept_program}
use Rattle.deploy_model.specs.Resolving.{deployed_of}
use Rattle.router_core.proofs.AttemptLemmas.{can_deliver, delivers}
use Rattle.router_core.proofs.state.State.delivered.Goals as goal

pub run_over-requires-clause-handled : goal.run_over-requires-clause-handled
run_over-requires-clause-handled c =
    can_deliver (kept_program c.args.deployment.now.codes) (deployed_of c.args.deployment.now.parts) c.args.self.now.state c.args.ticket.now c.in_ok-attempt.attempt
    c.handlers_are_there.ensures c.requires.deployed.parts c.requires.ticket c.in_ok-attempt.ensures

pub returns : goal.returns
returns c =
    IfOk-weaker c.delivered.result _ _
    (λ d is.
    delivers (kept_program c.args.deployment.now.codes) c.args.self.now.state c.new-2.result c.args.ticket.now c.in_ok-attempt.attempt c.run_over.new.self d
    c.requires.deployed.program c.new-2.ensures c.requires.enabled c.requires.ticket c.in_ok-attempt.ensures c.in_ok-run_over.ensures.delivery c.in_ok-run_over.ensures.done c.in_ok-run_over.ensures.seen is)
    c.delivered.ensures
