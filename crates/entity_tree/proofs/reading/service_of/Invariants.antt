use Rattle.std.proofs.Common.{◌≡◌, ◌-◌, length}
use Rattle.router_state.specs.Trees.{service_above}
use Rattle.entity_tree.proofs.reading.service_of.Given as goal

abbrev pub invariant-rows : goal.invariant-rows
invariant-rows l = service_above (length l.rows.rows - l.counter) l.rows.rows l.top.stem ≡ service_above (length l.rows.rows) l.rows.rows l.row.stem
