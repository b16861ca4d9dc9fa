-- the numbers so far and those of the other children
use Rattle.std.proofs.Common.{◌≡◌, ◌==◌, ◌++◌, map}
use Rattle.std.specs.List.{filter}
use Rattle.entity_tree.specs.declared.branch.Branch.{Branch}
use Rattle.entity_tree.proofs.reading.all_children.Given as goal

abbrev pub invariant-children : goal.invariant-children
invariant-children l = l.all.items ++ map (λ (b : Branch). b.number.0) l.branch-iterator ≡ map (λ (b : Branch). b.number.0) (filter (λ branch. branch.parent.0 == l.fn.entity.0) l.branches.rows)
