-- the rows between the two places are those of the number
use Rattle.std.proofs.Common.{◌∙◌}
use Rattle.rows_sorted.proofs.ShareLemmas.{run_shared}
use Rattle.rows_sorted.proofs.runs.rows_of.Goals as goal

pub returns : goal.returns
returns g c = c.part.ensures ∙ (rw (c.run_of-run.ensures.start, c.run_of-run.ensures.end) (run_shared g.R.Keyed.key c.args.first c.args.rows.now c.requires))
