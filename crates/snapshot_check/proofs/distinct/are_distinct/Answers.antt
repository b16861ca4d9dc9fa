-- in order, neighbours differ just where all do
use Rattle.std.proofs.Common.{ap, ◌∙◌}
use Rattle.rows_sorted.specs.Orders.{rises_by}
use Rattle.snapshot_check.specs.Keys.{are_apart}
use Rattle.snapshot_check.proofs.DistinctLemmas.{distinct_is}
use Rattle.snapshot_check.proofs.distinct.are_distinct.Goals as goal

pub returns : goal.returns
returns g c =
    c.neighbours_differ.ensures
    ∙ ap (rises_by (are_apart g.K.Ord.cmp)) c.deref.ensures.value
    ∙ distinct_is g.K.Ord.cmp g.met.K.Ord.total c.args.keys.items c.sort.new.self.items c.in_ok-sort.ensures.stable c.in_ok-sort.ensures.sorted
