-- a row is put among all just as into its leaf
use Rattle.std.proofs.Common.{◌≡◌, set, sym, ap, ◌∙◌, arith}
use Rattle.std.specs.Prelude.{not}
use Rattle.rows_leaves.specs.Invariant.{leaf_rows, row_count, IsNumbered}
use Rattle.rows_leaves.specs.declared.leaf.Leaf.{Leaf}
use Rattle.rows_leaves.proofs.JoinLemmas.{all_set, any_in_leaf, leaf_rises, put_set}
use Rattle.rows_leaves.proofs.LengthLemmas.{lengths_fit, lengths_set}
use Rattle.rows_leaves.proofs.putting.put_at.Goals as goal

pub put_among-is_new-requires-clause-rises : goal.put_among-is_new-requires-clause-rises
put_among-is_new-requires-clause-rises g c = leaf_rises g.R.Keyed.key (leaf_rows {Row = g.row.R.Denot}) c.args.leaves.now.items c.args.place c.index_mut-leaf.result.now c.requires.belongs.within c.index_mut-leaf.ensures.value c.requires.rises

pub set-requires-clause-fits : goal.set-requires-clause-fits
set-requires-clause-fits g c =
    let items = c.args.leaves.now.items in
    let new : Leaf g.row.R.Denot = record { rows = c.put_among-is_new.new.rows; last = c.last_numbers-leaf.result } in
    let rows = put_set g.R.Keyed.key (leaf_rows {Row = g.row.R.Denot}) c.args.row items c.args.place c.index_mut-leaf.result.now c.requires.belongs.within c.index_mut-leaf.ensures.value c.requires.belongs.low c.requires.belongs.high new c.put_among-is_new.ensures.items in
    let same : c.len.result ≡ row_count new = omega (arith, c.len.ensures, new.rows.ok.0) in
    lengths_fit _ (set items c.args.place new) (lengths_set c.args.counts.now.numbers items c.args.place c.len.result new c.requires.lengths same) (rw rows c.requires.fits)

pub returns-clause-rows : goal.returns-clause-rows
returns-clause-rows g c =
    let new : Leaf g.row.R.Denot = record { rows = c.put_among-is_new.new.rows; last = c.last_numbers-leaf.result } in
    put_set g.R.Keyed.key (leaf_rows {Row = g.row.R.Denot}) c.args.row c.args.leaves.now.items c.args.place c.index_mut-leaf.result.now c.requires.belongs.within c.index_mut-leaf.ensures.value c.requires.belongs.low c.requires.belongs.high new c.put_among-is_new.ensures.items

pub returns-clause-lengths : goal.returns-clause-lengths
returns-clause-lengths g c =
    let new : Leaf g.row.R.Denot = record { rows = c.put_among-is_new.new.rows; last = c.last_numbers-leaf.result } in
    let same : c.len.result ≡ row_count new = omega (arith, c.len.ensures, new.rows.ok.0) in
    c.set.ensures.numbers ∙ lengths_set c.args.counts.now.numbers c.args.leaves.now.items c.args.place c.len.result new c.requires.lengths same

pub returns-clause-added : goal.returns-clause-added
returns-clause-added g c =
    c.put_among-is_new.ensures.added
    ∙ ap not (sym (any_in_leaf g.R.Keyed.key (leaf_rows {Row = g.row.R.Denot}) (g.R.Keyed.key c.args.row) c.args.leaves.now.items c.args.place c.index_mut-leaf.result.now c.requires.belongs.within c.index_mut-leaf.ensures.value c.requires.belongs.low c.requires.belongs.high))

pub returns-clause-numbered : goal.returns-clause-numbered
returns-clause-numbered g c =
    let new : Leaf g.row.R.Denot = record { rows = c.put_among-is_new.new.rows; last = c.last_numbers-leaf.result } in
    all_set (IsNumbered g.R.Keyed.key) c.args.leaves.now.items c.args.place new c.requires.numbered (rw c.as_slice.ensures.value at c.last_numbers-leaf.ensures)
