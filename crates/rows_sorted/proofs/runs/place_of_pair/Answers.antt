-- halving finds the first place of the pair
use Rattle.std.proofs.Common.{◌≡◌, sym, refl, ◌∙◌, true, false}
use Rattle.std.proofs.lemmas.Option.{slice_get_read, slice_get_past}
use Rattle.rows_sorted.specs.Keys.{is_pair}
use Rattle.rows_sorted.proofs.OrderLemmas.{in_order}
use Rattle.rows_sorted.proofs.HeadLemmas.{head_place, pair_head}
use Rattle.rows_sorted.proofs.runs.place_of_pair.Goals as goal

pub returns-then-has_pair-clause-place : goal.returns-then-has_pair-clause-place
returns-then-has_pair-clause-place g c =
    let at = head_place _ _ _ (pair_head g.R.Keyed.key c.args.first c.args.second) _ c.args.rows.now (in_order g.R.Keyed.key _ c.requires) c.count_lower_pair-place.ensures.count in
    let row = c.in-Some.ensures.lookup in
    let read = slice_get_read c.args.rows.now _ c.count_lower_pair-place.result c.in-Some.row.now refl row.3.0 row.1 in
    let is : is_pair c.args.first c.args.second (g.R.Keyed.key c.in-Some.row.now) ≡ true = sym c.has_pair.ensures ∙ c.if-has_pair.true in
    sym (rw (read, is) at at)

pub returns-else-has_pair-clause-place : goal.returns-else-has_pair-clause-place
returns-else-has_pair-clause-place g c =
    let at = head_place _ _ _ (pair_head g.R.Keyed.key c.args.first c.args.second) _ c.args.rows.now (in_order g.R.Keyed.key _ c.requires) c.count_lower_pair-place.ensures.count in
    let row = c.in-Some.ensures.lookup in
    let read = slice_get_read c.args.rows.now _ c.count_lower_pair-place.result c.in-Some.row.now refl row.3.0 row.1 in
    let is : is_pair c.args.first c.args.second (g.R.Keyed.key c.in-Some.row.now) ≡ false = sym c.has_pair.ensures ∙ c.if-has_pair.false in
    sym (rw (read, is) at at)

pub returns-in-None-clause-place : goal.returns-in-None-clause-place
returns-in-None-clause-place g c =
    let at = head_place _ _ _ (pair_head g.R.Keyed.key c.args.first c.args.second) _ c.args.rows.now (in_order g.R.Keyed.key _ c.requires) c.count_lower_pair-place.ensures.count in
    let past = slice_get_past c.args.rows.now c.count_lower_pair-place.result c.in-None.ensures.lookup.3 in
    sym (rw past at at)
