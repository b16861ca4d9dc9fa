-- no row stands before those up to a number
use Rattle.rows_leaves.proofs.ShareLemmas.{none_ahead}
use Rattle.rows_leaves.proofs.share.places_of.Goals as goal

pub returns-in-UpTo-clause-start : goal.returns-in-UpTo-clause-start
returns-in-UpTo-clause-start g c = none_ahead g.R.Keyed.key c.args.share c.in-UpTo.first c.in-UpTo.is c.args.rows.now
