-- the row takes the place of the one with its key, or stands behind those before it
use Rattle.std.proofs.Common.{◌≡◌, sym, ap, ◌∙◌, true, false, arith}
use Rattle.std.specs.Prelude.{is_some, nat_lt, ◌-◌, vec_capacity, vec_len}
use Rattle.std.specs.List.{list_any}
use Rattle.std.proofs.lemmas.Bool.Decides.{nat_tests}
use Rattle.rows_sorted.specs.Keys.{is_key}
use Rattle.rows_sorted.proofs.OrderLemmas.{in_order, put_rises}
use Rattle.rows_sorted.proofs.HalvingLemmas.{absent_from, any_is}
use Rattle.rows_sorted.proofs.RowLemmas.{inserted_is, replaced_is}
use Rattle.rows_sorted.proofs.PartLemmas.{parted_by_key}
use Rattle.rows_sorted.proofs.rows.put_row.Goals as goal

pub returns-in-Some-clause-items : goal.returns-in-Some-clause-items
returns-in-Some-clause-items g c =
    let is = rw c.deref.ensures.value at c.in-Some.ensures.place in
    c.replace_row.ensures.items ∙ replaced_is _ _ _ _ (parted_by_key g.R.Keyed.key (g.R.Keyed.key c.args.row)) c.args.row c.in-Some.place c.args.rows.now.items (in_order g.R.Keyed.key _ c.requires.rises) (sym is)

pub returns-in-Some-clause-rises : goal.returns-in-Some-clause-rises
returns-in-Some-clause-rises g c = rw (returns-in-Some-clause-items g c) (put_rises g.R.Keyed.key c.args.row c.args.rows.now.items c.requires.rises)

pub insert_row-requires-clause-room : goal.insert_row-requires-clause-room
insert_row-requires-clause-room g c =
    let test = λ (other : g.row.R.Denot). is_key (g.R.Keyed.key other) (g.R.Keyed.key c.args.row) in
    let is = rw c.deref.ensures.value at c.in-None.ensures.place in
    let none : list_any test c.args.rows.now.items ≡ false = any_is test 0 c.args.rows.now.items ∙ ap is_some (sym is) in
    let room : nat_lt 0 (vec_capacity c.args.rows.now - vec_len c.args.rows.now) ≡ true = rw none at c.requires.room in
    grind (arith, nat_tests)

pub returns-in-None-clause-items : goal.returns-in-None-clause-items
returns-in-None-clause-items g c =
    let test = λ (other : g.row.R.Denot). is_key (g.R.Keyed.key other) (g.R.Keyed.key c.args.row) in
    let is = rw c.deref.ensures.value at c.in-None.ensures.place in
    let count = rw c.deref-in-None.ensures.value at c.count_before_row-place.ensures.count in
    let absent = absent_from test 0 c.args.rows.now.items (sym is) in
    c.insert_row.ensures.items ∙ (rw count (inserted_is _ _ _ _ (parted_by_key g.R.Keyed.key (g.R.Keyed.key c.args.row)) c.args.row c.args.rows.now.items (in_order g.R.Keyed.key _ c.requires.rises) absent))

pub returns-in-None-clause-rises : goal.returns-in-None-clause-rises
returns-in-None-clause-rises g c = rw (returns-in-None-clause-items g c) (put_rises g.R.Keyed.key c.args.row c.args.rows.now.items c.requires.rises)

pub returns-in-None-clause-replaced : goal.returns-in-None-clause-replaced
returns-in-None-clause-replaced g c = λ has.
    let test = λ (other : g.row.R.Denot). is_key (g.R.Keyed.key other) (g.R.Keyed.key c.args.row) in
    let is = rw c.deref.ensures.value at c.in-None.ensures.place in
    let none : list_any test c.args.rows.now.items ≡ false = any_is test 0 c.args.rows.now.items ∙ ap is_some (sym is) in
    cc
