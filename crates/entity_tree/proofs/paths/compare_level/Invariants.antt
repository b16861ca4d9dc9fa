use Rattle.std.proofs.Common.{◌≡◌, ◌==◌, Some, length, false}
use Rattle.router_state.specs.Trees.{entity_at}
use Rattle.entity_tree.specs.Climbing.{BeginsWith, path_at}
use Rattle.entity_tree.proofs.paths.compare_level.Given as goal

abbrev pub invariant-up : goal.invariant-up
invariant-up l = record {
  left_there : entity_at l.rows.rows l.left.number.0 ≡ Some l.left;
  right_there : entity_at l.rows.rows l.right.number.0 ≡ Some l.right;
  one : BeginsWith (path_at l.rows.rows l.fn.one.number.0) (path_at l.rows.rows l.left.number.0);
  other : BeginsWith (path_at l.rows.rows l.fn.other.number.0) (path_at l.rows.rows l.right.number.0);
  depth_of_left : length (path_at l.rows.rows l.left.number.0) ≡ l.steps;
  depth_of_right : length (path_at l.rows.rows l.right.number.0) ≡ l.steps;
  apart : (l.left.number.0 == l.right.number.0) ≡ false;
}

abbrev pub decreases-up : goal.decreases-up
decreases-up l = l.steps
