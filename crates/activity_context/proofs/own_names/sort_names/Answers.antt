-- the sort is a stable one by the bytes of the names
use Rattle.std.proofs.Common.{rules}
use Rattle.std.proofs.lemmas.List.Sorted.{answers_always}
use Rattle.slee_value.specs.Order.{is_below}
use Rattle.rows_sorted.proofs.StableSortLemmas.{sorted_is}
use Rattle.activity_context.proofs.OwnLemmas.{texts_rank}
use Rattle.activity_context.proofs.own_names.sort_names.Goals as goal

pub returns : goal.returns
returns c =
    let up = c.in_ok-sort_by.ensures.sorted is_below texts_rank (answers_always _ _ _ (λ f a r f' k. search rules)) in
    let stable = rw c.reverse.ensures.items at (c.sort_by.ensures.stable is_below texts_rank (answers_always _ _ _ (λ f a r f' k. search rules))) in
    sorted_is is_below texts_rank c.args.names.now.items _ up stable
