use Rattle.std.proofs.Common.{length, vec_len}
use Rattle.worker_threads.specs.Seats.{AreSeated, HasOut}
use Rattle.worker_threads.proofs.jobs.join_workers.Given as goal

abbrev pub invariant-loop-job : goal.invariant-loop-job
invariant-loop-job g l =
    HasOut l.turn l.initial.pass.known.setup l.initial.pass.known.seen (length l.jobs.items) l.pass
    × AreSeated l.turn l.initial.pass.known.seen l.jobs.items

abbrev pub decreases-loop-job : goal.decreases-loop-job
decreases-loop-job g l = vec_len l.jobs
