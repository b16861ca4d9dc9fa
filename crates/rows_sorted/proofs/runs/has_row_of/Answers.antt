-- there is a row of the number just where one has a place
use Rattle.std.proofs.Common.{sym, ap, ◌∙◌, ◌==◌}
use Rattle.std.specs.Prelude.{is_some}
use Rattle.rows_sorted.proofs.HalvingLemmas.{any_is}
use Rattle.rows_sorted.proofs.runs.has_row_of.Goals as goal

pub returns : goal.returns
returns g c =
    let place = any_is (λ (row : g.row.R.Denot). (g.R.Keyed.key row).first == c.args.first) 0 c.args.rows.now in
    c.is_some.ensures ∙ ap is_some c.place_of_first.ensures.place ∙ sym place
