-- the row at the place of the key is changed, and the others stay
use Rattle.std.proofs.Common.{map, sym, ap, ◌∙◌}
use Rattle.std.specs.Prelude.{is_some}
use Rattle.rows_sorted.specs.Keys.{Key, is_key}
use Rattle.rows_sorted.proofs.HalvingLemmas.{any_is, absent_from}
use Rattle.rows_leaves.proofs.ChangeLemmas.{changed_at_place, changed_in_none, keys_stay}
use Rattle.rows_leaves.proofs.changing.change_among.Goals as goal

pub returns-in-Some-clause-found : goal.returns-in-Some-clause-found
returns-in-Some-clause-found g c =
    let k : Key = record { first = c.args.first; second = c.args.second; text = c.args.text.now } in
    let mine = λ (row : g.row.R.Denot). is_key (g.R.Keyed.key row) k in
    let at = rw c.deref.ensures.value at c.in-Some.ensures.place in
    ap is_some at ∙ sym (any_is mine 0 c.args.rows.now.items)

pub returns-in-Some-clause-rows : goal.returns-in-Some-clause-rows
returns-in-Some-clause-rows g c = λ f follows.
    let k : Key = record { first = c.args.first; second = c.args.second; text = c.args.text.now } in
    let at = rw c.deref.ensures.value at c.in-Some.ensures.place in
    let made = c.change_item.ensures.items in
    made.4 ∙ changed_at_place g.R.Keyed.key k f made.0 made.1 c.in-Some.place c.args.rows.now.items c.requires.rises (sym at) made.2 (follows made.0 made.1 made.3)

pub returns-in-Some-clause-keys : goal.returns-in-Some-clause-keys
returns-in-Some-clause-keys g c =
    let made = c.change_item.ensures.items in
    ap (map g.R.Keyed.key) made.4 ∙ keys_stay g.R.Keyed.key made.0 made.1 c.in-Some.place c.args.rows.now.items made.2 (c.requires.key made.0 made.1 made.3)

pub returns-in-None-clause-found : goal.returns-in-None-clause-found
returns-in-None-clause-found g c =
    let k : Key = record { first = c.args.first; second = c.args.second; text = c.args.text.now } in
    let mine = λ (row : g.row.R.Denot). is_key (g.R.Keyed.key row) k in
    let at = rw c.deref.ensures.value at c.in-None.ensures.place in
    ap is_some at ∙ sym (any_is mine 0 c.args.rows.now.items)

pub returns-in-None-clause-rows : goal.returns-in-None-clause-rows
returns-in-None-clause-rows g c = λ f follows.
    let k : Key = record { first = c.args.first; second = c.args.second; text = c.args.text.now } in
    let mine = λ (row : g.row.R.Denot). is_key (g.R.Keyed.key row) k in
    let at = rw c.deref.ensures.value at c.in-None.ensures.place in
    sym (changed_in_none mine f c.args.rows.now.items (absent_from mine 0 c.args.rows.now.items (sym at)))
