use Rattle.std.proofs.Common.{◌≡◌, ◌-◌, ◌≤◌, Some, length}
use Rattle.router_state.specs.Trees.{entity_at}
use Rattle.entity_tree.specs.Climbing.{BeginsWith, path_at}
use Rattle.entity_tree.proofs.paths.above.Given as goal

abbrev pub invariant-up : goal.invariant-up
invariant-up l = record {
  there : entity_at l.rows.rows l.top.number.0 ≡ Some l.top;
  path : BeginsWith (path_at l.rows.rows l.fn.entity.0) (path_at l.rows.rows l.top.number.0);
  length : length (path_at l.rows.rows l.top.number.0) ≡ length (path_at l.rows.rows l.fn.entity.0) - l.counter;
  within : l.counter ≤ l.steps;
  none : l.counter ≡ 0 → l.top.number.0 ≡ l.fn.entity.0;
}
