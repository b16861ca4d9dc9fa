-- the row at the place goes, or nothing does
use Rattle.std.proofs.Common.{sym, ◌∙◌}
use Rattle.rows_sorted.specs.Keys.{Key}
use Rattle.rows_sorted.proofs.OrderLemmas.{in_order, filter_rises}
use Rattle.rows_sorted.proofs.HalvingLemmas.{removed_is, absent_from, not_cut}
use Rattle.rows_sorted.proofs.RowLemmas.{places}
use Rattle.rows_sorted.proofs.PartLemmas.{parted_by_key}
use Rattle.rows_sorted.proofs.rows.cut_row.Goals as goal

pub returns-in-Some-clause-items : goal.returns-in-Some-clause-items
returns-in-Some-clause-items g c =
    let k : Key = record { first = c.args.first; second = c.args.second; text = c.args.text.now } in
    let is = rw c.deref.ensures.value at c.in-Some.ensures.place in
    c.remove.ensures.items ∙ removed_is _ _ _ (places _ _ _ _ (parted_by_key g.R.Keyed.key k)) c.in-Some.place c.args.rows.now.items (in_order g.R.Keyed.key _ c.requires) (sym is)

pub returns-in-None-clause-items : goal.returns-in-None-clause-items
returns-in-None-clause-items g c =
    let is = rw c.deref.ensures.value at c.in-None.ensures.place in
    sym (not_cut _ _ (absent_from _ 0 _ (sym is)))

pub returns-in-Some-clause-rises : goal.returns-in-Some-clause-rises
returns-in-Some-clause-rises g c = rw (returns-in-Some-clause-items g c) (filter_rises g.R.Keyed.key _ c.args.rows.now.items c.requires)
