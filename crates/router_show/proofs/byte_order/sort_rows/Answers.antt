-- the sort is a stable one by table and by the bytes of the name
use Rattle.std.proofs.Common.{Bor, ◌∙◌, map, ap, rules}
use Rattle.std.proofs.lemmas.List.Sorted.{answers_always}
use Rattle.rows_sorted.proofs.StableSortLemmas.{sorted_is, sorted_mapped}
use Rattle.router_state.specs.Profiles.{row_before}
use Rattle.router_state.specs.declared.rows.ProfileRow.{ProfileRow}
use Rattle.router_show.proofs.ByteLemmas.{borrowed_before, borrowed_rank}
use Rattle.router_show.proofs.byte_order.sort_rows.Goals as goal

pub returns : goal.returns
returns c =
    let up = c.in_ok-sort_by.ensures.sorted borrowed_before borrowed_rank (answers_always _ _ _ (λ f a r f' k. search rules)) in
    let stable = rw c.reverse.ensures.items at (c.sort_by.ensures.stable borrowed_before borrowed_rank (answers_always _ _ _ (λ f a r f' k. search rules))) in
    ap (map (λ (x : Bor ProfileRow). x.now)) (sorted_is borrowed_before borrowed_rank c.args.rows.now.items _ up stable) ∙ sorted_mapped (λ (x : Bor ProfileRow). x.now) row_before c.args.rows.now.items
