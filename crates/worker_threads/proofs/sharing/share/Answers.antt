use Rattle.std.proofs.Common.{subst}
use Rattle.trace_history.specs.Histories.{choices_of}
use Rattle.slee_container.specs.Container.{View}
use Rattle.slee_container.specs.Turns.{setup_told}
use Rattle.worker_threads.specs.Sharing.{GoesOnWith}
use Rattle.worker_threads.proofs.SeatLemmas.{first_out, of_first}
use denote.Exit.{no}
use denote.Param.Send.{arg_send, param_send}
use mir.Syntax.{named}
use Rattle.worker_gate.proofs.PassingLemmas.{container_send}
use Rattle.worker_threads.proofs.sharing.share.Goals as goal

pub new-requires-send-G : goal.new-requires-send-G
new-requires-send-G g c κs within = param_send 0 _ (arg_send _ no _ (container_send (record { mir = named 1; lft = κs.1.0 }) _ g.D.Disk c.type_bounds.send-D))

pub share_by-requires-clause-pass : goal.share_by-requires-clause-pass
share_by-requires-clause-pass g c κs within = first_out c.in-Ok.turn (setup_told c.args.container.setup) (choices_of c.args.container.history) c.in-Ok.pass c.in-Ok.ensures.ok

pub returns-in-Ok : goal.returns-in-Ok
returns-in-Ok g c = of_first c.in-Ok.turn c.args.container c.share_by.result c.in-Ok.pass c.in-Ok.ensures.ok c.share_by.ensures

pub returns-in-Err : goal.returns-in-Err
returns-in-Err g c = subst (λ (v : View g.row.D.Denot). GoesOnWith v c.halted.result) c.in-Err.ensures.err c.halted.ensures
