use Rattle.std.proofs.Common.{◌≡◌, ◌==◌, ◌+◌, ◌++◌, length, map}
use Rattle.std.specs.Prelude.{◌≤◌, vec_capacity, vec_len}
use Rattle.std.specs.List.{filter}
use Rattle.entity_tree.specs.declared.branch.Branch.{Branch}
use Rattle.entity_tree.proofs.removal.push_children.Given as goal

abbrev pub invariant-children : goal.invariant-children
invariant-children l = record {
  items : l.into.items ++ map (λ (b : Branch). b.number) l.branch-iterator ≡ l.fn.into.items ++ map (λ (b : Branch). b.number) (filter (λ branch. branch.parent.0 == l.fn.entity.0) l.branches.rows);
  count : vec_len l.into + length l.branch-iterator ≡ vec_len l.fn.into + length (filter (λ branch. branch.parent.0 == l.fn.entity.0) l.branches.rows);
  capacity : vec_capacity l.fn.into ≤ vec_capacity l.into;
}
