-- the activities so far and those to come
use Rattle.std.proofs.Common.{◌≡◌, ◌++◌, drop, map}
use Rattle.snapshot_check.proofs.closed.add_named.Given as goal

abbrev pub invariant-names : goal.invariant-names
invariant-names l = l.used.items ++ map (λ row. row.activity.0) (drop l.row-index l.names) ≡ l.initial.used.items ++ map (λ row. row.activity.0) l.names
