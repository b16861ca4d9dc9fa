-- the sort is a stable one by number
use Rattle.std.proofs.Common.{reverse, rules}
use Rattle.std.proofs.lemmas.List.{reverse-reverse}
use Rattle.std.proofs.lemmas.List.Sorted.{answers_always}
use Rattle.rows_sorted.proofs.StableSortLemmas.{sorted_is}
use Rattle.timer_facility.specs.Views.{timer_before}
use Rattle.timer_facility.proofs.ListingLemmas.{ranks}
use Rattle.timer_facility.proofs.listing.put_by_number.Goals as goal

pub returns : goal.returns
returns c =
    let up = c.in_ok-sort_by.ensures.sorted timer_before ranks (answers_always _ _ _ (λ f a r f' k. search rules)) in
    let stable = c.sort_by.ensures.stable timer_before ranks (answers_always _ _ _ (λ f a r f' k. search rules)) in
    sorted_is timer_before ranks (reverse c.args.list.now.items) _ up (rw (reverse-reverse c.args.list.now.items) stable)
