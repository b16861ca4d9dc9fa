-- the sort is a stable one by number
use Rattle.std.proofs.Common.{Bor, ◌∙◌, map, ap, rules}
use Rattle.std.specs.Prelude.{nat_lt}
use Rattle.std.proofs.lemmas.List.Sorted.{answers_always}
use Rattle.rows_sorted.proofs.StableSortLemmas.{sorted_is, sorted_mapped}
use Rattle.router_state.specs.declared.rows.Queued.{Queued}
use Rattle.router_show.proofs.ByteLemmas.{event_before, event_rank}
use Rattle.router_show.proofs.events.put_in_order.Goals as goal

pub returns : goal.returns
returns c =
    let up = c.in_ok-sort_by.ensures.sorted event_before event_rank (answers_always _ _ _ (λ f a r f' k. search rules)) in
    let stable = rw c.reverse.ensures.items at (c.sort_by.ensures.stable event_before event_rank (answers_always _ _ _ (λ f a r f' k. search rules))) in
    ap (map (λ (q : Bor Queued). q.now)) (sorted_is event_before event_rank c.args.events.now.items _ up stable) ∙ sorted_mapped (λ (q : Bor Queued). q.now) (λ (x y : Queued). nat_lt x.event.id.0 y.event.id.0) c.args.events.now.items
