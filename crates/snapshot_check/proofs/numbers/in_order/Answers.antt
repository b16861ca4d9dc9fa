-- a sort puts the same numbers in order
use Rattle.std.proofs.Common.{◌==◌, sym}
use Rattle.std.proofs.lemmas.List.Sorted.{IsNonDecreasingBy-from_sort, list_any-IsPermutation}
use Rattle.snapshot_check.proofs.numbers.in_order.Goals as goal

pub returns-clause-order : goal.returns-clause-order
returns-clause-order c = IsNonDecreasingBy-from_sort (λ x. x) c.sort.new.self.items c.in_ok-sort.ensures.sorted

pub returns-clause-same : goal.returns-clause-same
returns-clause-same c = λ n. sym (list_any-IsPermutation (λ x. x == n) c.args.numbers.items c.sort.new.self.items c.in_ok-sort.ensures.permutation)
