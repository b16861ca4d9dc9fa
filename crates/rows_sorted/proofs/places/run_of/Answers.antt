-- lower numbers are below this one
use Rattle.rows_sorted.proofs.RunLemmas.{run_within}
use Rattle.rows_sorted.proofs.places.run_of.Goals as goal

pub returns-clause-order : goal.returns-clause-order
returns-clause-order g c = rw (c.count_lower-start.ensures.count, c.count_up_to.ensures.count) (run_within g.R.Keyed.key c.args.first c.args.rows.now)
