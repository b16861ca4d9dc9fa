-- the first leaf whose last row doesn't have a lower number has the row, if there is one
use Rattle.std.proofs.Common.{◌≡◌, length, sym, ◌∙◌, arith}
use Rattle.rows_leaves.specs.Invariant.{leaf_rows}
use Rattle.rows_leaves.proofs.JoinLemmas.{leaf_rises}
use Rattle.rows_leaves.proofs.FirstLemmas.{first_in_leaf, first_in_none}
use Rattle.rows_leaves.proofs.reading.first_row_of.Goals as goal

pub first_in-requires : goal.first_in-requires
first_in-requires g c = rw c.as_slice.ensures.value (leaf_rises g.R.Keyed.key (leaf_rows {Row = g.row.R.Denot}) c.args.leaves.now c.start_in-place.result c.index-leaves-place.result c.if-place-leaves.true c.index-leaves-place.is c.requires.rises)

pub returns-then-place-leaves : goal.returns-then-place-leaves
returns-then-place-leaves g c =
    let mine = rw c.as_slice.ensures.value at c.first_in.ensures in
    mine ∙ sym (first_in_leaf g.R.Keyed.key c.args.share (leaf_rows {Row = g.row.R.Denot}) c.start_in-place.result c.args.leaves.now c.index-leaves-place.result c.requires.filled c.requires.rises c.if-place-leaves.true c.index-leaves-place.is c.start_in-place.ensures.start)

pub returns-else-place-leaves : goal.returns-else-place-leaves
returns-else-place-leaves g c =
    let all : c.start_in-place.result ≡ length c.args.leaves.now = omega (arith, c.if-place-leaves.false, c.start_in-place.ensures.within) in
    sym (first_in_none g.R.Keyed.key c.args.share (leaf_rows {Row = g.row.R.Denot}) c.start_in-place.result c.args.leaves.now c.requires.rises all c.start_in-place.ensures.start)
