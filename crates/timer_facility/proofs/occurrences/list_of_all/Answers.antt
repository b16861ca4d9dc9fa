-- the order of what stands for occurrences is theirs
use Rattle.std.proofs.Common.{map, ap, ◌∙◌}
use Rattle.rows_sorted.specs.Orders.{sorted}
use Rattle.router_state.specs.Timing.{occurrence_before}
use Rattle.timer_facility.specs.Occurrences.{occurrence}
use Rattle.rows_sorted.proofs.StableSortLemmas.{sorted_mapped}
use Rattle.timer_facility.proofs.occurrences.list_of_all.Goals as goal

pub returns : goal.returns
returns c =
    ap (map occurrence) c.in_ok-put_in_order.ensures ∙ sorted_mapped occurrence occurrence_before c.in_ok-list.list.items ∙ ap (sorted occurrence_before) c.in_ok-list.ensures
