-- the leaf of the key has the row, if there is one, and the leaves before it have so many rows
use Rattle.std.proofs.Common.{◌≡◌, ◌+◌, Some, length, take, sym, ap, ◌∙◌, arith}
use Rattle.std.specs.List.{flat_map}
use Rattle.rows_sorted.specs.Keys.{Key}
use Rattle.rows_leaves.specs.Invariant.{leaf_rows}
use Rattle.rows_leaves.proofs.JoinLemmas.{leaf_rises}
use Rattle.rows_leaves.proofs.LengthLemmas.{lengths_before}
use Rattle.rows_leaves.proofs.PlaceLemmas.{further, place_in_leaf, place_bounded}
use Rattle.rows_leaves.proofs.reading.place_of.Goals as goal

pub place_of-requires : goal.place_of-requires
place_of-requires g c = rw c.as_slice.ensures.value (leaf_rises g.R.Keyed.key (leaf_rows {Row = g.row.R.Denot}) c.args.leaves.now c.in-Some.place c.index-leaves-place.result c.in-Some.ensures.within c.index-leaves-place.is c.requires.rises)

pub overflow_add-result : goal.overflow_add-result
overflow_add-result g c =
    let inner = rw c.as_slice.ensures.value at c.in-Some-place_of.ensures.within in
    let bound = place_bounded (leaf_rows {Row = g.row.R.Denot}) c.args.leaves.now c.in-Some.place c.index-leaves-place.result c.in-Some.ensures.within c.index-leaves-place.is c.in-Some-place_of.inner inner in
    omega (arith, c.sum_before.ensures, lengths_before c.args.counts.now.numbers c.args.leaves.now c.in-Some.place c.requires.lengths, bound, c.requires.fits)

pub returns-in-Some-place_of : goal.returns-in-Some-place_of
returns-in-Some-place_of g c =
    let k : Key = record { first = c.args.first; second = c.args.second; text = c.args.text.now } in
    let mine = rw c.as_slice.ensures.value at c.in-Some-place_of.ensures.place in
    let all = place_in_leaf g.R.Keyed.key (leaf_rows {Row = g.row.R.Denot}) k c.args.leaves.now c.in-Some.place c.index-leaves-place.result c.in-Some.ensures.within c.index-leaves-place.is c.in-Some.ensures.low c.in-Some.ensures.high in
    let before = length (flat_map (leaf_rows {Row = g.row.R.Denot}) (take c.in-Some.place c.args.leaves.now)) in
    let exact : c.sum_before.result + c.in-Some-place_of.inner ≡ before + c.in-Some-place_of.inner = omega (arith, c.sum_before.ensures, lengths_before c.args.counts.now.numbers c.args.leaves.now c.in-Some.place c.requires.lengths) in
    ap (λ n. Some n) exact ∙ sym (all ∙ ap (further before) (sym mine))

pub returns-in-None-place_of : goal.returns-in-None-place_of
returns-in-None-place_of g c =
    let k : Key = record { first = c.args.first; second = c.args.second; text = c.args.text.now } in
    let mine = rw c.as_slice.ensures.value at c.in-None-place_of.ensures.place in
    let all = place_in_leaf g.R.Keyed.key (leaf_rows {Row = g.row.R.Denot}) k c.args.leaves.now c.in-Some.place c.index-leaves-place.result c.in-Some.ensures.within c.index-leaves-place.is c.in-Some.ensures.low c.in-Some.ensures.high in
    sym (all ∙ ap (further _) (sym mine))
