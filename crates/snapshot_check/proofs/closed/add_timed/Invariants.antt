-- the activities so far and those to come
use Rattle.std.proofs.Common.{◌≡◌, ◌++◌, drop, map}
use Rattle.snapshot_check.proofs.closed.add_timed.Given as goal

abbrev pub invariant-timers : goal.invariant-timers
invariant-timers l = l.used.items ++ map (λ row. row.activity.0) (drop l.row-index l.timers) ≡ l.initial.used.items ++ map (λ row. row.activity.0) l.timers
