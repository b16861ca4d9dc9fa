-- the row stands in the leaf at which so many rows are reached
use Rattle.std.proofs.Common.{◌≡◌, ◌+◌, ◌<◌, length, take, get_or, slice_get, sym, ap, ◌∙◌, arith}
use Rattle.std.specs.List.{flat_map}
use Rattle.rows_leaves.specs.Invariant.{leaf_rows, row_count}
use Rattle.rows_leaves.proofs.LengthLemmas.{length_at, lengths_before, lengths_sum, lengths_within, row_at_place}
use Rattle.rows_leaves.proofs.reading.row_at.Goals as goal

pub place_in-at-requires : goal.place_in-at-requires
place_in-at-requires g c = rw c.requires.lengths (rw (lengths_sum c.args.leaves.now) c.requires.within)

pub returns : goal.returns
returns g c =
    let at = c.place_in-at.result.0 in
    let inner = c.place_in-at.result.1 in
    let leaves = c.args.leaves.now in
    let leaf = c.index-leaves-at.result in
    let within : at < length leaves = omega (arith, c.place_in-at.ensures.within, lengths_within c.args.counts.now.numbers leaves c.requires.lengths) in
    let inside : inner < get_or c.args.counts.now.numbers at 0 = c.place_in-at.ensures.inner in
    let there : inner < row_count leaf = omega (arith, inside, length_at c.args.counts.now.numbers leaves at leaf c.requires.lengths within c.index-leaves-at.is) in
    let place_is : length (flat_map leaf_rows (take at leaves)) + inner ≡ c.args.place = omega (arith, c.place_in-at.ensures.before, lengths_before c.args.counts.now.numbers leaves at c.requires.lengths) in
    ap (λ k. slice_get (flat_map leaf_rows leaves) k) (sym place_is) ∙ row_at_place leaves at inner leaf c.index.result.now within c.index-leaves-at.is there c.index.ensures
