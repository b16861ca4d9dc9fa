-- a row has the key just where one has a place
use Rattle.std.proofs.Common.{sym, ap, ◌∙◌}
use Rattle.std.specs.Prelude.{is_some}
use Rattle.rows_sorted.specs.Keys.{Key, is_key}
use Rattle.rows_sorted.proofs.HalvingLemmas.{any_is}
use Rattle.rows_sorted.proofs.rows.has_row.Goals as goal

pub returns : goal.returns
returns g c =
    let k : Key = record { first = c.args.first; second = c.args.second; text = c.args.text.now } in
    let place = any_is (λ (row : g.row.R.Denot). is_key (g.R.Keyed.key row) k) 0 c.args.rows.now in
    c.is_some.ensures ∙ ap is_some c.place_of.ensures.place ∙ sym place
