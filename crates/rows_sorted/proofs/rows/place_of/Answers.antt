-- halving finds the place of the key
use Rattle.std.proofs.Common.{◌≡◌, sym, refl, ◌∙◌, true, false}
use Rattle.std.proofs.lemmas.Option.{slice_get_read, slice_get_past}
use Rattle.rows_sorted.specs.Keys.{Key, is_key}
use Rattle.rows_sorted.proofs.OrderLemmas.{in_order}
use Rattle.rows_sorted.proofs.RowLemmas.{place_at}
use Rattle.rows_sorted.proofs.PartLemmas.{parted_by_key}
use Rattle.rows_sorted.proofs.rows.place_of.Goals as goal

pub returns-then-has_key-clause-place : goal.returns-then-has_key-clause-place
returns-then-has_key-clause-place g c =
    let k : Key = record { first = c.args.first; second = c.args.second; text = c.args.text.now } in
    let at = place_at _ _ _ _ (parted_by_key g.R.Keyed.key k) _ c.args.rows.now (in_order g.R.Keyed.key _ c.requires) c.count_before-place.ensures.count in
    let row = c.in-Some.ensures.lookup in
    let read = slice_get_read c.args.rows.now _ c.count_before-place.result c.in-Some.row.now refl row.3.0 row.1 in
    let same : is_key (g.R.Keyed.key c.in-Some.row.now) k ≡ true = sym c.has_key.ensures ∙ c.if-has_key.true in
    sym (rw (read, same) at at)

pub returns-else-has_key-clause-place : goal.returns-else-has_key-clause-place
returns-else-has_key-clause-place g c =
    let k : Key = record { first = c.args.first; second = c.args.second; text = c.args.text.now } in
    let at = place_at _ _ _ _ (parted_by_key g.R.Keyed.key k) _ c.args.rows.now (in_order g.R.Keyed.key _ c.requires) c.count_before-place.ensures.count in
    let row = c.in-Some.ensures.lookup in
    let read = slice_get_read c.args.rows.now _ c.count_before-place.result c.in-Some.row.now refl row.3.0 row.1 in
    let other : is_key (g.R.Keyed.key c.in-Some.row.now) k ≡ false = sym c.has_key.ensures ∙ c.if-has_key.false in
    sym (rw (read, other) at at)

pub returns-in-None-clause-place : goal.returns-in-None-clause-place
returns-in-None-clause-place g c =
    let k : Key = record { first = c.args.first; second = c.args.second; text = c.args.text.now } in
    let at = place_at _ _ _ _ (parted_by_key g.R.Keyed.key k) _ c.args.rows.now (in_order g.R.Keyed.key _ c.requires) c.count_before-place.ensures.count in
    let past = slice_get_past c.args.rows.now c.count_before-place.result c.in-None.ensures.lookup.3 in
    sym (rw past at at)
