-- rows of leaves before the key's own aren't behind it, and those of later ones are
use Rattle.std.proofs.Common.{sym, ◌∙◌}
use Rattle.rows_sorted.specs.Keys.{Key}
use Rattle.rows_leaves.specs.Invariant.{leaf_rows}
use Rattle.rows_leaves.proofs.JoinLemmas.{leaf_rises}
use Rattle.rows_leaves.proofs.BehindLemmas.{behind_in_leaf, behind_in_next}
use Rattle.rows_leaves.proofs.behind.row_behind.Goals as goal

pub behind_in-requires : goal.behind_in-requires
behind_in-requires g c = rw c.as_slice.ensures.value (leaf_rises g.R.Keyed.key (leaf_rows {Row = g.row.R.Denot}) c.args.leaves.now c.in-Some.place c.index-leaves-place.result c.in-Some.ensures.within c.index-leaves-place.is c.requires.rises)

pub returns-in-Some-behind_in : goal.returns-in-Some-behind_in
returns-in-Some-behind_in g c =
    let k : Key = record { first = c.args.first; second = c.args.second; text = c.args.text.now } in
    let found = rw c.as_slice.ensures.value at (sym c.in-Some-behind_in.ensures) in
    sym (behind_in_leaf g.R.Keyed.key (leaf_rows {Row = g.row.R.Denot}) k c.args.leaves.now c.in-Some.place c.index-leaves-place.result c.in-Some.ensures.within c.index-leaves-place.is c.in-Some.ensures.low c.in-Some.ensures.high _ found)

pub returns-in-None-behind_in : goal.returns-in-None-behind_in
returns-in-None-behind_in g c =
    let k : Key = record { first = c.args.first; second = c.args.second; text = c.args.text.now } in
    let none = rw c.as_slice.ensures.value at (sym c.in-None-behind_in.ensures) in
    c.first_at.ensures ∙ sym (behind_in_next g.R.Keyed.key (leaf_rows {Row = g.row.R.Denot}) k c.args.leaves.now c.in-Some.place c.index-leaves-place.result c.in-Some.ensures.within c.index-leaves-place.is c.in-Some.ensures.low c.in-Some.ensures.high none)
