use Rattle.std.proofs.Common.{◌≡◌, ◌∙◌, ◌<◌, List, length, ap, sym, subst, Some, None, ℤ, ◌+ℤ◌, ◌+◌, w64, set, slice_get, IfSome}
use Rattle.std.proofs.lemmas.Int.{to_z-of_z}
use Rattle.std.specs.List.{position_from}
use Rattle.rows_sorted.specs.Keys.{is_key, text_key}
use Rattle.rows_sorted.specs.Orders.{put}
use Rattle.usage_totals.specs.Bounds.{AreWithin}
use Rattle.usage_totals.specs.Totals.{total_before, total_key, with_amount}
use Rattle.usage_totals.specs.declared.total.Total.{Total}
use Rattle.usage_totals.proofs.TotalLemmas.{found_raised, found_within, new_put, new_within}
use Rattle.usage_totals.proofs.totals.Totals.add_amount.Goals as goal

pub returns-in-Some-clause-added : goal.returns-in-Some-clause-added
returns-in-Some-clause-added c =
    let rows = c.self.inside.rows.items in
    let is : Some c.in-Some.place ≡ position_from (λ (row : Total). is_key (total_key row) (text_key 0 c.args.name.now)) 0 rows =
    c.in-Some.ensures.place ∙ ap (position_from (λ (row : Total). is_key (total_key row) (text_key 0 c.args.name.now)) 0) c.deref.ensures.value in
    let there : c.in-Some.place < length rows = subst (λ (all : List Total). c.in-Some.place < length all) c.deref.ensures.value c.in-Some.ensures.within in
    let raised = subst (λ (z : ℤ). IfSome (slice_get rows c.in-Some.place) (λ row. c.raise_row.new.rows.items ≡ set rows c.in-Some.place (record row { count = row.count + 1; sum = row.sum +ℤ z })))
    (to_z-of_z w64 c.args.amount c.ranges.amount) c.raise_row.ensures.raised in
    found_raised rows c.raise_row.new.rows.items c.args.name.now c.args.amount c.in-Some.place c.self.invariant is there raised
    ∙ ap (with_amount c.args.name.now c.args.amount) c.self.view_is

pub returns-in-Some-clause-within : goal.returns-in-Some-clause-within
returns-in-Some-clause-within c n all =
    let rows = c.self.inside.rows.items in
    let is : Some c.in-Some.place ≡ position_from (λ (row : Total). is_key (total_key row) (text_key 0 c.args.name.now)) 0 rows =
    c.in-Some.ensures.place ∙ ap (position_from (λ (row : Total). is_key (total_key row) (text_key 0 c.args.name.now)) 0) c.deref.ensures.value in
    let there : c.in-Some.place < length rows = subst (λ (all : List Total). c.in-Some.place < length all) c.deref.ensures.value c.in-Some.ensures.within in
    let raised = subst (λ (z : ℤ). IfSome (slice_get rows c.in-Some.place) (λ row. c.raise_row.new.rows.items ≡ set rows c.in-Some.place (record row { count = row.count + 1; sum = row.sum +ℤ z })))
    (to_z-of_z w64 c.args.amount c.ranges.amount) c.raise_row.ensures.raised in
    found_within rows c.raise_row.new.rows.items c.args.name.now c.args.amount c.in-Some.place c.ranges.amount c.self.invariant is there raised n
    (subst (AreWithin n) (sym c.self.view_is) all)

pub returns-in_ok-add_row-in-None-clause-added : goal.returns-in_ok-add_row-in-None-clause-added
returns-in_ok-add_row-in-None-clause-added c =
    let rows = c.self.inside.rows.items in
    let is : None ≡ position_from (λ (row : Total). is_key (total_key row) (text_key 0 c.args.name.now)) 0 rows =
    c.in-None.ensures.place ∙ ap (position_from (λ (row : Total). is_key (total_key row) (text_key 0 c.args.name.now)) 0) c.deref.ensures.value in
    let added = subst (λ (z : ℤ). c.add_row.new.rows.items ≡ put total_before (record { name = c.args.name.now; count = 1; sum = z }) rows)
    (to_z-of_z w64 c.args.amount c.ranges.amount) c.in_ok-add_row-in-None.ensures.put in
    new_put rows c.add_row.new.rows.items c.args.name.now c.args.amount is added ∙ ap (with_amount c.args.name.now c.args.amount) c.self.view_is

pub returns-in_ok-add_row-in-None-clause-within : goal.returns-in_ok-add_row-in-None-clause-within
returns-in_ok-add_row-in-None-clause-within c n all =
    let rows = c.self.inside.rows.items in
    let is : None ≡ position_from (λ (row : Total). is_key (total_key row) (text_key 0 c.args.name.now)) 0 rows =
    c.in-None.ensures.place ∙ ap (position_from (λ (row : Total). is_key (total_key row) (text_key 0 c.args.name.now)) 0) c.deref.ensures.value in
    let added = subst (λ (z : ℤ). c.add_row.new.rows.items ≡ put total_before (record { name = c.args.name.now; count = 1; sum = z }) rows)
    (to_z-of_z w64 c.args.amount c.ranges.amount) c.in_ok-add_row-in-None.ensures.put in
    new_within rows c.add_row.new.rows.items c.args.name.now c.args.amount c.ranges.amount is added n (subst (AreWithin n) (sym c.self.view_is) all)
