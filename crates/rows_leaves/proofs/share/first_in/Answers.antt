-- the first of the rows of the share
use Rattle.std.proofs.Common.{List, ap, ◌∙◌, slice_get}
use Rattle.rows_leaves.specs.Shares.{is_in}
use Rattle.rows_leaves.proofs.FirstLemmas.{find_kept}
use Rattle.rows_leaves.proofs.share.first_in.Goals as goal

pub returns-in-Pair : goal.returns-in-Pair
returns-in-Pair g c =
    c.first.ensures.value ∙ ap (λ (rows : List g.row.R.Denot). slice_get rows 0) c.rows_in.ensures ∙ find_kept (λ (row : g.row.R.Denot). is_in c.args.share (g.R.Keyed.key row)) c.args.rows.now
