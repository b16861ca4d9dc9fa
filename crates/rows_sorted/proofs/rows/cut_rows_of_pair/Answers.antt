-- the rows between the two places go
use Rattle.std.proofs.Common.{◌∙◌}
use Rattle.rows_sorted.proofs.OrderLemmas.{filter_rises}
use Rattle.rows_sorted.proofs.RunLemmas.{pair_cut}
use Rattle.rows_sorted.proofs.rows.cut_rows_of_pair.Goals as goal

pub returns-clause-items : goal.returns-clause-items
returns-clause-items g c =
    let start = rw c.deref.ensures.value at c.run_of_pair-run.ensures.start in
    let end = rw c.deref.ensures.value at c.run_of_pair-run.ensures.end in
    c.cut_places.ensures.items ∙ (rw (start, end) (pair_cut g.R.Keyed.key c.args.first c.args.second c.args.rows.now.items c.requires))

pub returns-clause-rises : goal.returns-clause-rises
returns-clause-rises g c = rw (returns-clause-items g c) (filter_rises g.R.Keyed.key _ c.args.rows.now.items c.requires)
