use Rattle.std.proofs.Common.{◌≤◌}
use Rattle.entity_tree.proofs.SettleLemmas.{IsSettled}
use Rattle.entity_tree.proofs.depths.settle.Given as goal

abbrev pub invariant-rows : goal.invariant-rows
invariant-rows l = record {
  settled : IsSettled l.rows.rows l.row-iterator l.depths.rows;
  room : l.fn.depths.room ≤ l.depths.room;
}
