use denote.Exit.{no}
use denote.Param.Send.{arg_send, param_send}
use mir.Syntax.{named}
use Rattle.std.proofs.Common.{◌≡◌, ◌∙◌, ap}
use Rattle.script_types.specs.ProgramOf.{kept_program}
use Rattle.slee_container.specs.Turns.{setup_told}
use Rattle.worker_gate.proofs.PassingLemmas.{container_send}
use Rattle.worker_gate.proofs.WorkLemmas.{later, program_served, turns_to}
use Rattle.worker_gate.proofs.working.take_turn.Goals as goal

pub take-container-requires-send-G : goal.take-container-requires-send-G
take-container-requires-send-G g c κs within = param_send 0 _ (arg_send _ no _ (container_send (record { mir = named 5; lft = κs.1.1.1.1.1.0 }) _ g.D.Disk c.type_bounds.send-D))

pub give-requires-send-G : goal.give-requires-send-G
give-requires-send-G g c κs within = param_send 0 _ (arg_send _ no _ (container_send (record { mir = named 5; lft = κs.1.1.1.0 }) _ g.D.Disk c.type_bounds.send-D))

pub returns-clause-pass : goal.returns-clause-pass
returns-clause-pass g c =
    let has = c.take-container.ensures in
    later c.args.turn.now c.args.worker.now.pass c.take-container.new.pass c.give.new.pass c.take-container.result c.play-moved.new.container _ c.requires.pass has c.play-moved.ensures.goes c.give.ensures

pub returns-clause-comes : goal.returns-clause-comes
returns-clause-comes g c =
    let has = c.take-container.ensures in
    let goes = c.play-moved.ensures.goes in
    let run = c.kept-2.ensures.run in
    let new = c.play-moved.new.container in
    let same : setup_told new.setup ≡ c.args.worker.now.pass.known.setup = ap setup_told goes.setup ∙ has.continues.setup in
    let served : kept_program c.args.deployment.now.codes ≡ new.setup.origin.initial.program = program_served new c.args.worker.now.pass.known.setup c.args.deployment.now same run.document c.requires.served in
    turns_to (kept_program c.args.deployment.now.codes) c.args.worker.now.pass c.take-container.new.pass c.give.new.pass c.take-container.result new c.play-moved.result served has goes c.give.ensures c.kept-2.ensures.kept.lines run c.play-moved.ensures.comes
