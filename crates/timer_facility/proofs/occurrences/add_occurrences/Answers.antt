-- an occurrence more, up to the last one
use Rattle.std.proofs.Common.{map, ap, ◌∙◌, arith}
use Rattle.std.proofs.lemmas.List.{map-append}
use Rattle.timer_facility.specs.Occurrences.{occurrence}
use Rattle.timer_facility.proofs.ListLemmas.{one_more, all_there}
use Rattle.timer_facility.proofs.occurrences.add_occurrences.Goals as goal

pub loop-place-preserved : goal.loop-place-preserved
loop-place-preserved c =
    let ys = map occurrence c.args.list.now.items in
    ap (map occurrence) c.in_ok-push.ensures.items ∙ map-append occurrence c.loop-place.list.items _ ∙ (rw (c.loop-place.invariant, c.moment_of.ensures.moment) (one_more c.args.timer.now _ c.loop-place.place ys (omega arith)))

pub returns : goal.returns
returns c =
    let ys = map occurrence c.args.list.now.items in
    c.loop-place.invariant ∙ all_there c.args.timer.now c.args.to _ c.count_of_due-count.result c.loop-place.place ys c.count_of_due-count.ensures.count (omega arith) (omega arith) (omega arith)
