-- there is a row of the pair just where one has a place
use Rattle.std.proofs.Common.{sym, ap, ◌∙◌}
use Rattle.std.specs.Prelude.{is_some}
use Rattle.rows_sorted.specs.Keys.{is_pair}
use Rattle.rows_sorted.proofs.HalvingLemmas.{any_is}
use Rattle.rows_sorted.proofs.runs.has_row_of_pair.Goals as goal

pub returns : goal.returns
returns g c =
    let place = any_is (λ (row : g.row.R.Denot). is_pair c.args.first c.args.second (g.R.Keyed.key row)) 0 c.args.rows.now in
    c.is_some.ensures ∙ ap is_some c.place_of_pair.ensures.place ∙ sym place
