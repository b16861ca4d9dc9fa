-- the first row of a number goes from all just as from its leaf
use Rattle.std.proofs.Common.{◌≡◌, ◌+◌, ◌<◌, ◌≤◌, ◌++◌, take, drop, length, set, sym, ap, subst, ◌∙◌, arith}
use Rattle.std.specs.Prelude.{◌==◌}
use Rattle.std.specs.List.{AllByRecursion, flat_map}
use Rattle.rows_sorted.specs.Keys.{Rises}
use Rattle.rows_sorted.specs.Runs.{without_first}
use Rattle.rows_sorted.proofs.HeadLemmas.{without_first_rises}
use Rattle.rows_leaves.specs.declared.share.Share.TheVariants as shares
use Rattle.rows_leaves.specs.Invariant.{leaf_rows, row_count, HasMemory, HasRows, IsNumbered}
use Rattle.rows_leaves.specs.declared.leaf.Leaf.{Leaf}
use Rattle.rows_leaves.proofs.FirstLemmas.{first_in_leaf, without_in_leaf, without_short}
use Rattle.rows_leaves.proofs.LengthLemmas.{fewer_fit, lengths_fit, lengths_set}
use Rattle.rows_leaves.proofs.JoinLemmas.{all_get, all_set, all_remove, joined_set, leaf_rises, removed_same}
use Rattle.rows_leaves.proofs.cutting.cut_first_at.Goals as goal

pub cut_first_of-row-requires : goal.cut_first_of-row-requires
cut_first_of-row-requires g c = leaf_rises g.R.Keyed.key (leaf_rows {Row = g.row.R.Denot}) c.args.leaves.now.items c.args.place c.index_mut-leaf.result.now (omega (arith, c.requires.within, c.args.leaves.now.ok.0)) c.index_mut-leaf.ensures.value c.requires.stands.rises

pub set-requires-clause-fits : goal.set-requires-clause-fits
set-requires-clause-fits g c =
    let items = c.args.leaves.now.items in
    let old = c.index_mut-leaf.result.now in
    let new : Leaf g.row.R.Denot = record { rows = c.cut_first_of-row.new.rows; last = c.last_numbers-leaf.result } in
    let within : c.args.place < length items = omega (arith, c.requires.within, c.args.leaves.now.ok.0) in
    let same : c.len.result ≡ row_count new = omega (arith, c.len.ensures, new.rows.ok.0) in
    let fewer : row_count new ≤ row_count old = omega (arith, ap length c.cut_first_of-row.ensures.items, without_short (λ row. (g.R.Keyed.key row).first == c.args.first) old.rows.items) in
    lengths_fit _ (set items c.args.place new) (lengths_set c.args.counts.now.numbers items c.args.place c.len.result new c.requires.stands.lengths same) (fewer_fit items c.args.place old new within c.index_mut-leaf.ensures.value fewer c.requires.stands.fits)

pub release-requires-clause-stands : goal.release-requires-clause-stands
release-requires-clause-stands g c =
    let rows_of = leaf_rows {Row = g.row.R.Denot} in
    let items = c.args.leaves.now.items in
    let new : Leaf g.row.R.Denot = record { rows = c.cut_first_of-row.new.rows; last = c.last_numbers-leaf.result } in
    let within : c.args.place < length items = omega (arith, c.requires.within, c.args.leaves.now.ok.0) in
    let left : flat_map rows_of (set items c.args.place new) ≡ without_first (λ row. (g.R.Keyed.key row).first == c.args.first) (flat_map rows_of items) =
    joined_set rows_of items c.args.place new within
    ∙ ap (λ rows. flat_map rows_of (take c.args.place items) ++ (rows ++ flat_map rows_of (drop (c.args.place + 1) items))) c.cut_first_of-row.ensures.items
    ∙ without_in_leaf g.R.Keyed.key (shares.First c.args.first) rows_of c.args.place items c.index_mut-leaf.result.now c.requires.stands.filled c.requires.stands.rises within c.index_mut-leaf.ensures.value c.requires.head in
    let had : HasMemory c.index_mut-leaf.result.now = subst HasMemory (sym c.index_mut-leaf.ensures.value) (all_get HasMemory items c.args.place c.index_mut-leaf.result.now c.requires.stands.memory within) in
    let same : c.len.result ≡ row_count new = omega (arith, c.len.ensures, new.rows.ok.0) in
    let fewer : row_count new ≤ row_count c.index_mut-leaf.result.now = omega (arith, ap length c.cut_first_of-row.ensures.items, without_short (λ row. (g.R.Keyed.key row).first == c.args.first) c.index_mut-leaf.result.now.rows.items) in
    record {
      rises = subst (Rises g.R.Keyed.key) (sym left) (without_first_rises g.R.Keyed.key _ _ c.requires.stands.rises);
      filled = subst (AllByRecursion HasRows) (sym (removed_same items c.args.place new)) (all_remove HasRows items c.args.place c.requires.stands.filled);
      numbered = all_set (IsNumbered g.R.Keyed.key) items c.args.place new c.requires.stands.numbered (rw c.as_slice.ensures.value at c.last_numbers-leaf.ensures);
      memory = all_set HasMemory items c.args.place new c.requires.stands.memory (omega (arith, had, c.cut_first_of-row.ensures.memory));
      spare = c.requires.stands.spare;
      spare_memory = c.requires.stands.spare_memory;
      outer = c.requires.stands.outer;
      inner = c.requires.stands.inner;
      lengths = c.set.ensures.numbers ∙ lengths_set c.args.counts.now.numbers items c.args.place c.len.result new c.requires.stands.lengths same;
      places = rw c.set.ensures.places c.requires.stands.places;
      fits = fewer_fit items c.args.place c.index_mut-leaf.result.now new within c.index_mut-leaf.ensures.value fewer c.requires.stands.fits;
    }

pub returns-clause-row : goal.returns-clause-row
returns-clause-row g c =
    let within : c.args.place < length c.args.leaves.now.items = omega (arith, c.requires.within, c.args.leaves.now.ok.0) in
    c.cut_first_of-row.ensures.row
    ∙ sym (first_in_leaf g.R.Keyed.key (shares.First c.args.first) (leaf_rows {Row = g.row.R.Denot}) c.args.place c.args.leaves.now.items c.index_mut-leaf.result.now c.requires.stands.filled c.requires.stands.rises within c.index_mut-leaf.ensures.value c.requires.head)

pub returns-clause-rows : goal.returns-clause-rows
returns-clause-rows g c =
    let rows_of = leaf_rows {Row = g.row.R.Denot} in
    let items = c.args.leaves.now.items in
    let new : Leaf g.row.R.Denot = record { rows = c.cut_first_of-row.new.rows; last = c.last_numbers-leaf.result } in
    let within : c.args.place < length items = omega (arith, c.requires.within, c.args.leaves.now.ok.0) in
    c.release.ensures.rows
    ∙ joined_set rows_of items c.args.place new within
    ∙ ap (λ rows. flat_map rows_of (take c.args.place items) ++ (rows ++ flat_map rows_of (drop (c.args.place + 1) items))) c.cut_first_of-row.ensures.items
    ∙ without_in_leaf g.R.Keyed.key (shares.First c.args.first) rows_of c.args.place items c.index_mut-leaf.result.now c.requires.stands.filled c.requires.stands.rises within c.index_mut-leaf.ensures.value c.requires.head
