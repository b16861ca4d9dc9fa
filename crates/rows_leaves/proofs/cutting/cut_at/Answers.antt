-- a row is cut from all just as from its leaf
use Rattle.std.proofs.Common.{◌≡◌, ◌+◌, ◌≤◌, ◌++◌, take, drop, length, set, sym, ap, subst, ◌∙◌, arith}
use Rattle.std.specs.Prelude.{not}
use Rattle.std.specs.List.{AllByRecursion, filter, flat_map}
use Rattle.rows_sorted.specs.Keys.{Key, Rises, is_key}
use Rattle.rows_sorted.proofs.OrderLemmas.{filter_rises}
use Rattle.rows_leaves.specs.Invariant.{leaf_rows, row_count, HasMemory, HasRows, IsNumbered}
use Rattle.rows_leaves.specs.declared.leaf.Leaf.{Leaf}
use Rattle.rows_leaves.proofs.LengthLemmas.{fewer_fit, lengths_fit, lengths_set}
use Rattle.rows_leaves.proofs.JoinLemmas.{all_get, all_set, all_remove, cut_in_leaf, joined_set, leaf_rises, removed_same}
use Rattle.rows_leaves.proofs.CountLemmas.{joined_length}
use Rattle.rows_leaves.proofs.cutting.cut_at.Goals as goal

pub cut_among-count-requires : goal.cut_among-count-requires
cut_among-count-requires g c = leaf_rises g.R.Keyed.key (leaf_rows {Row = g.row.R.Denot}) c.args.leaves.now.items c.args.place c.index_mut-leaf.result.now c.requires.belongs.within c.index_mut-leaf.ensures.value c.requires.stands.rises

pub set-requires-clause-fits : goal.set-requires-clause-fits
set-requires-clause-fits g c =
    let items = c.args.leaves.now.items in
    let old = c.index_mut-leaf.result.now in
    let new : Leaf g.row.R.Denot = record { rows = c.cut_among-count.new.rows; last = c.last_numbers-leaf.result } in
    let same : c.len.result ≡ row_count new = omega (arith, c.len.ensures, new.rows.ok.0) in
    let fewer : row_count new ≤ row_count old = omega (arith, c.cut_among-count.ensures.count, old.rows.ok.0, new.rows.ok.0) in
    lengths_fit _ (set items c.args.place new) (lengths_set c.args.counts.now.numbers items c.args.place c.len.result new c.requires.stands.lengths same) (fewer_fit items c.args.place old new c.requires.belongs.within c.index_mut-leaf.ensures.value fewer c.requires.stands.fits)

pub release-requires-clause-stands : goal.release-requires-clause-stands
release-requires-clause-stands g c =
    let k : Key = record { first = c.args.first; second = c.args.second; text = c.args.text.now } in
    let rows_of = leaf_rows {Row = g.row.R.Denot} in
    let items = c.args.leaves.now.items in
    let new : Leaf g.row.R.Denot = record { rows = c.cut_among-count.new.rows; last = c.last_numbers-leaf.result } in
    let left : flat_map rows_of (set items c.args.place new) ≡ filter (λ row. not (is_key (g.R.Keyed.key row) k)) (flat_map rows_of items) =
    joined_set rows_of items c.args.place new c.requires.belongs.within
    ∙ ap (λ rows. flat_map rows_of (take c.args.place items) ++ (rows ++ flat_map rows_of (drop (c.args.place + 1) items))) c.cut_among-count.ensures.items
    ∙ cut_in_leaf g.R.Keyed.key rows_of k items c.args.place c.index_mut-leaf.result.now c.requires.belongs.within c.index_mut-leaf.ensures.value c.requires.belongs.low c.requires.belongs.high in
    let had : HasMemory c.index_mut-leaf.result.now = subst HasMemory (sym c.index_mut-leaf.ensures.value) (all_get HasMemory items c.args.place c.index_mut-leaf.result.now c.requires.stands.memory c.requires.belongs.within) in
    let same : c.len.result ≡ row_count new = omega (arith, c.len.ensures, new.rows.ok.0) in
    let fewer : row_count new ≤ row_count c.index_mut-leaf.result.now = omega (arith, c.cut_among-count.ensures.count, c.index_mut-leaf.result.now.rows.ok.0, new.rows.ok.0) in
    record {
      rises = subst (Rises g.R.Keyed.key) (sym left) (filter_rises g.R.Keyed.key _ _ c.requires.stands.rises);
      filled = subst (AllByRecursion HasRows) (sym (removed_same items c.args.place new)) (all_remove HasRows items c.args.place c.requires.stands.filled);
      numbered = all_set (IsNumbered g.R.Keyed.key) items c.args.place new c.requires.stands.numbered (rw c.as_slice.ensures.value at c.last_numbers-leaf.ensures);
      memory = all_set HasMemory items c.args.place new c.requires.stands.memory (omega (arith, had, c.cut_among-count.ensures.memory));
      spare = c.requires.stands.spare;
      spare_memory = c.requires.stands.spare_memory;
      outer = c.requires.stands.outer;
      inner = c.requires.stands.inner;
      lengths = c.set.ensures.numbers ∙ lengths_set c.args.counts.now.numbers items c.args.place c.len.result new c.requires.stands.lengths same;
      places = rw c.set.ensures.places c.requires.stands.places;
      fits = fewer_fit items c.args.place c.index_mut-leaf.result.now new c.requires.belongs.within c.index_mut-leaf.ensures.value fewer c.requires.stands.fits;
    }

pub returns-clause-rows : goal.returns-clause-rows
returns-clause-rows g c =
    let k : Key = record { first = c.args.first; second = c.args.second; text = c.args.text.now } in
    let rows_of = leaf_rows {Row = g.row.R.Denot} in
    let items = c.args.leaves.now.items in
    let new : Leaf g.row.R.Denot = record { rows = c.cut_among-count.new.rows; last = c.last_numbers-leaf.result } in
    c.release.ensures.rows
    ∙ joined_set rows_of items c.args.place new c.requires.belongs.within
    ∙ ap (λ rows. flat_map rows_of (take c.args.place items) ++ (rows ++ flat_map rows_of (drop (c.args.place + 1) items))) c.cut_among-count.ensures.items
    ∙ cut_in_leaf g.R.Keyed.key rows_of k items c.args.place c.index_mut-leaf.result.now c.requires.belongs.within c.index_mut-leaf.ensures.value c.requires.belongs.low c.requires.belongs.high

pub returns-clause-count : goal.returns-clause-count
returns-clause-count g c =
    let rows_of = leaf_rows {Row = g.row.R.Denot} in
    let old = c.index_mut-leaf.result.now in
    let new : Leaf g.row.R.Denot = record { rows = c.cut_among-count.new.rows; last = c.last_numbers-leaf.result } in
    omega (arith, ap length c.release.ensures.rows, joined_length rows_of c.args.leaves.now.items c.args.place old new c.requires.belongs.within c.index_mut-leaf.ensures.value, c.cut_among-count.ensures.count, old.rows.ok.0, new.rows.ok.0)
