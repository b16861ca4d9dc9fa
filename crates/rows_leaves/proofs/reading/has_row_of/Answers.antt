-- there is a row of the share just where a first one is found
use Rattle.std.proofs.Common.{sym, ap, ◌∙◌}
use Rattle.std.specs.Prelude.{is_some}
use Rattle.std.specs.List.{flat_map}
use Rattle.rows_leaves.specs.Invariant.{leaf_rows}
use Rattle.rows_leaves.specs.Shares.{is_in}
use Rattle.rows_leaves.proofs.FirstLemmas.{any_found, same_some}
use Rattle.rows_leaves.proofs.reading.has_row_of.Goals as goal

pub returns : goal.returns
returns g c =
    c.is_some.ensures ∙ same_some c.first_row_of.result ∙ ap is_some c.first_row_of.ensures
    ∙ sym (any_found (λ (row : g.row.R.Denot). is_in c.args.share (g.R.Keyed.key row)) (flat_map (leaf_rows {Row = g.row.R.Denot}) c.args.leaves.now))
