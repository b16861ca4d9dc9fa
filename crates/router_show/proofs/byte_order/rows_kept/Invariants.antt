-- the rows so far and the others
use Rattle.std.proofs.Common.{◌≡◌, ◌++◌, drop, map}
use Rattle.router_show.proofs.byte_order.rows_kept.Given as goal

abbrev pub invariant-rows : goal.invariant-rows
invariant-rows l =
    map (λ row. row.now) l.rows.items ++ drop l.place l.profiles.kept ≡ l.profiles.kept
