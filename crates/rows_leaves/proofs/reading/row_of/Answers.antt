-- the leaf of the key has the row, if there is one
use Rattle.std.proofs.Common.{sym, ◌∙◌}
use Rattle.rows_sorted.specs.Keys.{Key}
use Rattle.rows_leaves.specs.Invariant.{leaf_rows}
use Rattle.rows_leaves.proofs.JoinLemmas.{leaf_rises, find_in_leaf}
use Rattle.rows_leaves.proofs.reading.row_of.Goals as goal

pub row_of-requires : goal.row_of-requires
row_of-requires g c = rw c.as_slice.ensures.value (leaf_rises g.R.Keyed.key (leaf_rows {Row = g.row.R.Denot}) c.args.leaves.now c.in-Some.place c.index-leaves-place.result c.in-Some.ensures.within c.index-leaves-place.is c.requires.rises)

pub returns-in-Some : goal.returns-in-Some
returns-in-Some g c =
    let k : Key = record { first = c.args.first; second = c.args.second; text = c.args.text.now } in
    let mine = rw c.as_slice.ensures.value at c.row_of.ensures in
    mine ∙ sym (find_in_leaf g.R.Keyed.key (leaf_rows {Row = g.row.R.Denot}) k c.args.leaves.now c.in-Some.place c.index-leaves-place.result c.in-Some.ensures.within c.index-leaves-place.is c.in-Some.ensures.low c.in-Some.ensures.high)
