-- the sort is a stable one by moment and timer
use Rattle.std.proofs.Common.{arith, rules}
use Rattle.std.specs.Cmp.{IsStrictWeakOrder}
use Rattle.std.proofs.lemmas.Bool.Decides.{nat_tests}
use Rattle.std.proofs.lemmas.List.Sorted.{answers_always}
use Rattle.timer_facility.specs.Occurrences.{due_before}
use Rattle.rows_sorted.proofs.StableSortLemmas.{sorted_is}
use Rattle.timer_facility.proofs.occurrences.put_in_order.Goals as goal

ranks : IsStrictWeakOrder due_before
ranks = record {
  one_way = λ x y before. grind (arith, nat_tests);
  chain = λ x y z one two. grind (arith, nat_tests);
}

pub returns : goal.returns
returns c =
    let up = c.in_ok-sort_by.ensures.sorted due_before ranks (answers_always _ _ _ (λ f a r f' k. search rules)) in
    let stable = rw c.reverse.ensures.items at (c.sort_by.ensures.stable due_before ranks (answers_always _ _ _ (λ f a r f' k. search rules))) in
    sorted_is due_before ranks c.args.list.now.items _ up stable
