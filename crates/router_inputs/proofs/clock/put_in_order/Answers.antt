-- the sort is a stable one by moment and activity
use Rattle.std.proofs.Common.{arith, rules}
use Rattle.std.specs.Cmp.{IsStrictWeakOrder}
use Rattle.std.proofs.lemmas.Bool.Decides.{nat_tests}
use Rattle.std.proofs.lemmas.List.Sorted.{answers_always}
use Rattle.router_state.specs.Timing.{ends_before}
use Rattle.rows_sorted.proofs.StableSortLemmas.{sorted_is}
use Rattle.router_inputs.proofs.clock.put_in_order.Goals as goal

ranks : IsStrictWeakOrder ends_before
ranks = record {
  one_way = λ x y before. grind (arith, nat_tests);
  chain = λ x y z one two. grind (arith, nat_tests);
}

pub returns : goal.returns
returns c =
    let up = c.in_ok-sort_by.ensures.sorted ends_before ranks (answers_always _ _ _ (λ f a r f' k. search rules)) in
    let stable = rw c.reverse.ensures.items at (c.sort_by.ensures.stable ends_before ranks (answers_always _ _ _ (λ f a r f' k. search rules))) in
    sorted_is ends_before ranks c.args.list.now.items _ up stable
