-- the rows between the two places are those of the share
use Rattle.rows_leaves.proofs.ShareLemmas.{share_taken}
use Rattle.rows_leaves.proofs.share.rows_in.Goals as goal

pub returns : goal.returns
returns g c = rw (c.places_of-start.ensures.start, c.places_of-start.ensures.end) (share_taken g.R.Keyed.key c.args.share c.args.rows.now c.requires)
