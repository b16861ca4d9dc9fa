-- the rows between the two places go
use Rattle.std.proofs.Common.{◌∙◌}
use Rattle.rows_sorted.proofs.CutLemmas.{cut_is}
use Rattle.rows_sorted.proofs.OrderLemmas.{in_order}
use Rattle.rows_leaves.proofs.ShareLemmas.{share_parts}
use Rattle.rows_leaves.proofs.share.cut_in.Goals as goal

pub returns-clause-items : goal.returns-clause-items
returns-clause-items g c =
    let start = rw c.deref.ensures.value at c.places_of-start.ensures.start in
    let end = rw c.deref.ensures.value at c.places_of-start.ensures.end in
    c.cut_places.ensures.items ∙ (rw (start, end) (cut_is _ _ _ _ (share_parts g.R.Keyed.key c.args.share) c.args.rows.now.items (in_order g.R.Keyed.key _ c.requires)))
