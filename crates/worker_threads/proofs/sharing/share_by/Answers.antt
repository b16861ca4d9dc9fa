use denote.Exit.{no}
use denote.Param.Send.{arg_send, param_send}
use mir.Syntax.{named}
use Rattle.std.proofs.Common.{sym, ◌∙◌, subst}
use Rattle.worker_gate.proofs.PassingLemmas.{container_send}
use Rattle.worker_threads.specs.Seats.{AreSeated}
use Rattle.worker_threads.proofs.SeatLemmas.{later_seated, own_out, unshared}
use Rattle.worker_threads.proofs.sharing.share_by.Goals as goal

pub join_workers-requires-clause-jobs : goal.join_workers-requires-clause-jobs
join_workers-requires-clause-jobs g c κs within =
    later_seated c.args.turn c.seat_workers.new.pass.known.seen c.seat_workers.new.jobs.items c.do_jobs.new.jobs.items
    (subst (λ h. AreSeated c.args.turn h c.seat_workers.new.jobs.items) (sym c.seat_workers.ensures.seen) c.seat_workers.ensures.seated) c.do_jobs.ensures.later c.do_jobs.ensures.len

pub join_workers-requires-clause-pass : goal.join_workers-requires-clause-pass
join_workers-requires-clause-pass g c κs within =
    own_out c.args.turn c.args.pass.known.setup c.args.pass.known.seen c.args.workers _ c.seat_workers.new.pass (c.do_jobs.ensures.len ∙ c.seat_workers.ensures.len) c.seat_workers.ensures.pass

pub close-requires-send-G : goal.close-requires-send-G
close-requires-send-G g c κs within = param_send 0 _ (arg_send _ no _ (container_send (record { mir = named 1; lft = κs.1.0 }) _ g.D.Disk c.type_bounds.send-D))

pub close-requires-2-send-G : goal.close-requires-2-send-G
close-requires-2-send-G g c κs within = param_send 0 _ (arg_send _ no _ (container_send (record { mir = named 1; lft = κs.1.0 }) _ g.D.Disk c.type_bounds.send-D))

pub returns-in_default : goal.returns-in_default
returns-in_default g c = unshared c.args.pass c.close.result c.halted.result c.close.ensures c.halted.ensures
