-- the services with trees are the sorted numbers
use Rattle.std.proofs.Common.{◌==◌, ap, sym, ◌∙◌, subst}
use Rattle.std.specs.List.{list_any}
use Rattle.std.specs.List.Sorted.{IsNonDecreasing}
use Rattle.snapshot_check.proofs.closed.are_stopping_with_trees.Goals as goal

pub are_stopping_among-requires-clause-order : goal.are_stopping_among-requires-clause-order
are_stopping_among-requires-clause-order c = subst IsNonDecreasing (sym c.as_slice-found.ensures.value) c.in_ok-sorted.ensures.order

pub are_stopping_among-requires-clause-same : goal.are_stopping_among-requires-clause-same
are_stopping_among-requires-clause-same c = λ n. ap (list_any (λ x. x == n)) c.as_slice-found.ensures.value ∙ c.in_ok-sorted.ensures.same n ∙ ap (list_any (λ x. x == n)) c.in_ok-with_trees.ensures
