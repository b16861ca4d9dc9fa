use denote.Exit.{no}
use denote.Param.Send.{arg_send, param_send}
use mir.Syntax.{named}
use Rattle.std.proofs.Common.{length, ap, ◌∙◌, subst}
use Rattle.worker_gate.proofs.PassingLemmas.{container_send}
use Rattle.worker_threads.specs.Seats.{AreSeated, HasOut, IsSeated, numbers}
use Rattle.worker_threads.proofs.SeatLemmas.{each_pop, is_out, joins_out, length_push}
use Rattle.worker_threads.proofs.jobs.join_workers.Goals as goal

pub join-requires-clause-other : goal.join-requires-clause-other
join-requires-clause-other g c κs within =
    let i = c.loop-job.invariant in
    let items = c.in-Some.ensures.items in
    let seated = subst (AreSeated c.args.turn.now c.args.pass.now.known.seen) items i.1 in
    (each_pop (IsSeated c.args.turn.now c.args.pass.now.known.seen) c.pop.new.self.items c.in-Some.job seated).0.free

pub join-requires-clause-out : goal.join-requires-clause-out
join-requires-clause-out g c κs within =
    let i = c.loop-job.invariant in
    let items = c.in-Some.ensures.items in
    let seated = subst (AreSeated c.args.turn.now c.args.pass.now.known.seen) items i.1 in
    let here = (each_pop (IsSeated c.args.turn.now c.args.pass.now.known.seen) c.pop.new.self.items c.in-Some.job seated).0 in
    let count = ap length items ∙ length_push c.pop.new.self.items c.in-Some.job in
    is_out (length c.pop.new.self.items) c.in-Some.job.worker.pass.known.number c.loop-job.pass.known.out here.number (i.0.out ∙ ap numbers count)

pub loop-job-preserved : goal.loop-job-preserved
loop-job-preserved g c =
    let i = c.loop-job.invariant in
    let items = c.in-Some.ensures.items in
    let seated = subst (AreSeated c.args.turn.now c.args.pass.now.known.seen) items i.1 in
    let both = each_pop (IsSeated c.args.turn.now c.args.pass.now.known.seen) c.pop.new.self.items c.in-Some.job seated in
    let here = both.0 in
    let count = ap length items ∙ length_push c.pop.new.self.items c.in-Some.job in
    let out = subst (λ n. HasOut c.args.turn.now c.args.pass.now.known.setup c.args.pass.now.known.seen n c.loop-job.pass) count i.0 in
    (joins_out c.args.turn.now c.args.pass.now.known.setup c.args.pass.now.known.seen (length c.pop.new.self.items) c.loop-job.pass c.in-Some.job.worker.pass c.join.new.pass out here.number here.seen c.join.ensures.joined, both.1)

pub join-requires-send-G : goal.join-requires-send-G
join-requires-send-G g c κs within = param_send 0 _ (arg_send _ no _ (container_send (record { mir = named 3; lft = κs.1.1.1.0 }) _ g.D.Disk c.type_bounds.send-D))
