-- the rows between the two places are those of the pair
use Rattle.std.proofs.Common.{◌∙◌}
use Rattle.rows_sorted.proofs.ShareLemmas.{pair_shared}
use Rattle.rows_sorted.proofs.runs.rows_of_pair.Goals as goal

pub returns : goal.returns
returns g c = c.part.ensures ∙ (rw (c.run_of_pair-run.ensures.start, c.run_of_pair-run.ensures.end) (pair_shared g.R.Keyed.key c.args.first c.args.second c.args.rows.now c.requires))
