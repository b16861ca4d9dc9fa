use Rattle.std.proofs.Common.{◌≡◌, ◌++◌, reverse, length, true}
use Rattle.std.specs.Prelude.{◌≤◌, is_some, vec_capacity}
use Rattle.std.specs.List.{AllByRecursion}
use Rattle.router_state.specs.Trees.{entity_at, tree_of}
use Rattle.entity_tree.specs.Kept.{numbers_of}
use Rattle.entity_tree.proofs.TreeLemmas.{trees}
use Rattle.entity_tree.proofs.removal.list.Given as goal

abbrev pub invariant-tree : goal.invariant-tree
invariant-tree l = record {
  order : trees l.rows.rows l.waiting.items ++ reverse (numbers_of l.all.items) ≡ tree_of l.rows.rows l.fn.top.0;
  there : AllByRecursion (λ id. is_some (entity_at l.rows.rows id.0) ≡ true) l.waiting.items;
  waiting_capacity : vec_capacity l.fn.waiting ≤ vec_capacity l.waiting;
  capacity : vec_capacity l.fn.all ≤ vec_capacity l.all;
}

abbrev pub decreases-tree : goal.decreases-tree
decreases-tree l = length (trees l.rows.rows l.waiting.items)
