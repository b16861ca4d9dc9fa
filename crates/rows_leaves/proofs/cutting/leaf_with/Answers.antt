-- the first leaf whose last row doesn't stand before the share has its first row, if there is one
use Rattle.std.proofs.Common.{◌≡◌, length, sym, ap, ◌∙◌, arith}
use Rattle.std.specs.Prelude.{is_some, option_copied}
use Rattle.std.specs.List.{list_any}
use Rattle.std.proofs.lemmas.List.{get_or_default}
use Rattle.rows_leaves.specs.Invariant.{leaf_rows}
use Rattle.rows_leaves.specs.Shares.{is_in}
use Rattle.rows_leaves.specs.declared.leaf.Leaf.{Leaf}
use Rattle.rows_leaves.proofs.JoinLemmas.{leaf_rises}
use Rattle.rows_leaves.proofs.FirstLemmas.{any_found, first_in_leaf, first_in_none, none_of, same_some}
use Rattle.rows_leaves.proofs.cutting.leaf_with.Goals as goal

pub first_in-requires : goal.first_in-requires
first_in-requires g c = rw c.as_slice.ensures.value (leaf_rises g.R.Keyed.key (leaf_rows {Row = g.row.R.Denot}) c.args.leaves.now c.start_in-place.result c.index-leaves-place.result c.if-place-leaves.true c.index-leaves-place.is c.requires.rises)

pub returns-then-is_some : goal.returns-then-is_some
returns-then-is_some g c =
    let mine = λ (row : g.row.R.Denot). is_in c.args.share (g.R.Keyed.key row) in
    let rows_of = leaf_rows {Row = g.row.R.Denot} in
    let there = c.index-leaves-place.result in
    let first = rw c.as_slice.ensures.value at c.first_in.ensures in
    let has = any_found mine (rows_of there) ∙ ap is_some (sym first) ∙ sym (same_some c.first_in.result) ∙ sym c.is_some.ensures ∙ c.if-is_some.true in (
      c.if-place-leaves.true,
      (λ (leaf : Leaf g.row.R.Denot) is.
          let same = is ∙ get_or_default c.args.leaves.now c.start_in-place.result leaf there c.if-place-leaves.true ∙ sym c.index-leaves-place.is in
          ap (λ (one : Leaf g.row.R.Denot). list_any mine (rows_of one)) same ∙ has),
    )

pub returns-else-is_some : goal.returns-else-is_some
returns-else-is_some g c =
    let first = rw c.as_slice.ensures.value at c.first_in.ensures in
    first_in_leaf g.R.Keyed.key c.args.share (leaf_rows {Row = g.row.R.Denot}) c.start_in-place.result c.args.leaves.now c.index-leaves-place.result c.requires.filled c.requires.rises c.if-place-leaves.true c.index-leaves-place.is c.start_in-place.ensures.start
    ∙ sym first ∙ none_of (option_copied c.first_in.result) (sym (same_some c.first_in.result) ∙ sym c.is_some.ensures ∙ c.if-is_some.false)

pub returns-else-place-leaves : goal.returns-else-place-leaves
returns-else-place-leaves g c =
    let all : c.start_in-place.result ≡ length c.args.leaves.now = omega (arith, c.if-place-leaves.false, c.start_in-place.ensures.within) in
    first_in_none g.R.Keyed.key c.args.share (leaf_rows {Row = g.row.R.Denot}) c.start_in-place.result c.args.leaves.now c.requires.rises all c.start_in-place.ensures.start
