use Rattle.std.proofs.Common.{◌≡◌, ◌≤◌, length, vec_capacity}
use Rattle.worker_threads.specs.Seats.{AreReady, AreSeated, HasGiven, HasOut}
use Rattle.worker_threads.proofs.jobs.seat_workers.Given as goal

abbrev pub invariant-loop-number : goal.invariant-loop-number
invariant-loop-number g l =
    HasOut l.turn l.initial.pass.known.setup l.initial.pass.known.seen l.number l.pass
    × HasGiven l.number l.pass
    × (length l.jobs.items ≡ l.number)
    × (l.count ≤ vec_capacity l.jobs)
    × AreSeated l.turn l.initial.pass.known.seen l.jobs.items
    × AreReady l.jobs.items
    × (l.pass.known.seen ≡ l.initial.pass.known.seen)
