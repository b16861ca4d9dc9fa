use Rattle.std.proofs.Common.{◌≡◌, ◌==◌, ◌++◌}
use Rattle.std.specs.List.{filter}
use Rattle.entity_tree.specs.Kept.{numbers_of}
use Rattle.entity_tree.proofs.RowLemmas.{named}
use Rattle.entity_tree.proofs.reading.children_under.Given as goal

abbrev pub invariant-children : goal.invariant-children
invariant-children l = numbers_of l.all.items ++ named l.rows.rows l.entity.0 l.relation l.branch-iterator ≡ named l.rows.rows l.entity.0 l.relation (filter (λ branch. branch.parent.0 == l.entity.0) l.branches.rows)
