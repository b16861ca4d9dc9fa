-- lower pairs are below this one
use Rattle.rows_sorted.proofs.RunLemmas.{pair_within}
use Rattle.rows_sorted.proofs.places.run_of_pair.Goals as goal

pub returns-clause-order : goal.returns-clause-order
returns-clause-order g c = rw (c.count_lower_pair-start.ensures.count, c.count_up_to_pair.ensures.count) (pair_within g.R.Keyed.key c.args.first c.args.second c.args.rows.now)
