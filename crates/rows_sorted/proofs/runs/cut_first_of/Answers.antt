-- the row at the first place of the number goes, or nothing does
use Rattle.std.proofs.Common.{sym, refl, ◌∙◌, ◌==◌}
use Rattle.std.proofs.lemmas.Option.{slice_get_read}
use Rattle.rows_sorted.proofs.HalvingLemmas.{find_at_place, place_within, absent_from, not_found}
use Rattle.rows_sorted.proofs.HeadLemmas.{first_removed, first_absent, without_first_rises}
use Rattle.rows_sorted.proofs.runs.cut_first_of.Goals as goal

pub returns-in-Some-clause-items : goal.returns-in-Some-clause-items
returns-in-Some-clause-items g c =
    let is = rw c.deref.ensures.value at c.in-Some.ensures.place in
    c.remove.ensures.items ∙ first_removed _ c.in-Some.place c.args.rows.now.items (sym is)

pub returns-in-None-clause-items : goal.returns-in-None-clause-items
returns-in-None-clause-items g c =
    let is = rw c.deref.ensures.value at c.in-None.ensures.place in
    sym (first_absent _ _ (absent_from _ 0 _ (sym is)))

pub returns-in-None-clause-row : goal.returns-in-None-clause-row
returns-in-None-clause-row g c =
    let is = rw c.deref.ensures.value at c.in-None.ensures.place in
    let test = λ (row : g.row.R.Denot). (g.R.Keyed.key row).first == c.args.first in
    sym (not_found test c.args.rows.now.items (absent_from test 0 c.args.rows.now.items (sym is)))

pub returns-in-Some-clause-rises : goal.returns-in-Some-clause-rises
returns-in-Some-clause-rises g c = rw (returns-in-Some-clause-items g c) (without_first_rises g.R.Keyed.key _ c.args.rows.now.items c.requires)

pub returns-in-Some-clause-row : goal.returns-in-Some-clause-row
returns-in-Some-clause-row g c =
    let test = λ (row : g.row.R.Denot). (g.R.Keyed.key row).first == c.args.first in
    let is = rw c.deref.ensures.value at c.in-Some.ensures.place in
    let within = place_within test c.in-Some.place c.args.rows.now.items (sym is) in
    let read = slice_get_read c.args.rows.now.items _ c.in-Some.place c.remove.result refl within c.remove.ensures.value in
    sym (find_at_place test c.in-Some.place c.args.rows.now.items (sym is) ∙ read)
