-- the activities that have a name or a timer are the sorted numbers
use Rattle.std.proofs.Common.{◌==◌, ap, sym, ◌∙◌, subst}
use Rattle.std.specs.List.{list_any}
use Rattle.std.specs.List.Sorted.{IsNonDecreasing}
use Rattle.snapshot_check.proofs.ClosedLemmas.{nulls_are}
use Rattle.snapshot_check.proofs.closed.are_nulls_in_use.Goals as goal

pub are_nulls_among-requires-clause-used : goal.are_nulls_among-requires-clause-used
are_nulls_among-requires-clause-used c = subst IsNonDecreasing (sym c.as_slice-found.ensures.value) c.in_ok-sorted.ensures.order

pub returns : goal.returns
returns c =
    c.are_nulls_among.ensures
    ∙ nulls_are c.args.activities.now c.args.links.now c.args.names.now c.args.timers.now c.args.events.now c.as_slice-found.result.now
    (λ n. ap (list_any (λ x. x == n)) c.as_slice-found.ensures.value ∙ c.in_ok-sorted.ensures.same n ∙ ap (list_any (λ x. x == n)) c.in_ok-used.ensures)
