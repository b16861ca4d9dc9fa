-- the row where the key would stand is behind it, or has the key, and then the next one is
use Rattle.std.proofs.Common.{refl, sym, ap, ◌∙◌}
use Rattle.rows_sorted.specs.Keys.{Key}
use Rattle.rows_sorted.proofs.OrderLemmas.{in_order}
use Rattle.rows_leaves.proofs.BehindLemmas.{behind_is, mine, next_of}
use Rattle.rows_leaves.proofs.behind.behind_in.Goals as goal

pub returns-then-has_key : goal.returns-then-has_key
returns-then-has_key g c =
    let k : Key = record { first = c.args.first; second = c.args.second; text = c.args.text.now } in
    let rows = c.args.rows.now in
    let is = rw (← c.count_before-place.ensures.count) at (behind_is g.R.Keyed.key k rows (in_order g.R.Keyed.key rows c.requires)) in
    let own = sym c.has_key.ensures ∙ c.if-has_key.true in
    c.row_in-then-has_key.ensures ∙ sym (is ∙ ap (next_of (mine g.R.Keyed.key k) rows c.count_before-place.result) (sym c.in-Some.ensures) ∙ (rw own refl))

pub returns-else-has_key : goal.returns-else-has_key
returns-else-has_key g c =
    let k : Key = record { first = c.args.first; second = c.args.second; text = c.args.text.now } in
    let rows = c.args.rows.now in
    let is = rw (← c.count_before-place.ensures.count) at (behind_is g.R.Keyed.key k rows (in_order g.R.Keyed.key rows c.requires)) in
    let other = sym c.has_key.ensures ∙ c.if-has_key.false in
    sym (is ∙ ap (next_of (mine g.R.Keyed.key k) rows c.count_before-place.result) (sym c.in-Some.ensures) ∙ (rw other refl))

pub returns-in-None : goal.returns-in-None
returns-in-None g c =
    let k : Key = record { first = c.args.first; second = c.args.second; text = c.args.text.now } in
    let rows = c.args.rows.now in
    let is = rw (← c.count_before-place.ensures.count) at (behind_is g.R.Keyed.key k rows (in_order g.R.Keyed.key rows c.requires)) in
    sym (is ∙ ap (next_of (mine g.R.Keyed.key k) rows c.count_before-place.result) (sym c.in-None.ensures))
