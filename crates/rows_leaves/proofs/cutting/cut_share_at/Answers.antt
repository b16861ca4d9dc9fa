-- the rows of the share go from one leaf, and the others stay
use Rattle.std.proofs.Common.{◌≡◌, ◌+◌, ◌<◌, ◌≤◌, ◌++◌, take, drop, length, set, sym, ap, subst, ◌∙◌, arith}
use Rattle.std.specs.Prelude.{not}
use Rattle.std.specs.List.{AllByRecursion, filter, flat_map}
use Rattle.rows_sorted.specs.Keys.{Rises}
use Rattle.rows_leaves.specs.Invariant.{leaf_rows, row_count, HasMemory, HasRows, IsNumbered}
use Rattle.rows_leaves.specs.Shares.{is_in}
use Rattle.rows_leaves.specs.declared.leaf.Leaf.{Leaf}
use Rattle.rows_leaves.proofs.CountLemmas.{cut_rises, joined_length, others_stay}
use Rattle.rows_leaves.proofs.FirstLemmas.{fewer_left}
use Rattle.rows_leaves.proofs.LengthLemmas.{fewer_fit, lengths_fit, lengths_set}
use Rattle.rows_leaves.proofs.JoinLemmas.{all_get, all_set, all_remove, joined_at, joined_set, leaf_rises, removed_same}
use Rattle.rows_leaves.proofs.cutting.cut_share_at.Goals as goal

pub cut_in-count-requires : goal.cut_in-count-requires
cut_in-count-requires g c = leaf_rises g.R.Keyed.key (leaf_rows {Row = g.row.R.Denot}) c.args.leaves.now.items c.args.place c.index_mut-leaf.result.now (omega (arith, c.requires.within, c.args.leaves.now.ok.0)) c.index_mut-leaf.ensures.value c.requires.stands.rises

pub set-requires-clause-fits : goal.set-requires-clause-fits
set-requires-clause-fits g c =
    let items = c.args.leaves.now.items in
    let old = c.index_mut-leaf.result.now in
    let new : Leaf g.row.R.Denot = record { rows = c.cut_in-count.new.rows; last = c.last_numbers-leaf.result } in
    let within : c.args.place < length items = omega (arith, c.requires.within, c.args.leaves.now.ok.0) in
    let same : c.len.result ≡ row_count new = omega (arith, c.len.ensures, new.rows.ok.0) in
    let fewer : row_count new ≤ row_count old = omega (arith, c.cut_in-count.ensures.count, old.rows.ok.0, new.rows.ok.0) in
    lengths_fit _ (set items c.args.place new) (lengths_set c.args.counts.now.numbers items c.args.place c.len.result new c.requires.stands.lengths same) (fewer_fit items c.args.place old new within c.index_mut-leaf.ensures.value fewer c.requires.stands.fits)

pub release-requires-clause-stands : goal.release-requires-clause-stands
release-requires-clause-stands g c =
    let rows_of = leaf_rows {Row = g.row.R.Denot} in
    let others = λ (row : g.row.R.Denot). not (is_in c.args.share (g.R.Keyed.key row)) in
    let items = c.args.leaves.now.items in
    let old = c.index_mut-leaf.result.now in
    let new : Leaf g.row.R.Denot = record { rows = c.cut_in-count.new.rows; last = c.last_numbers-leaf.result } in
    let front = flat_map rows_of (take c.args.place items) in
    let back = flat_map rows_of (drop (c.args.place + 1) items) in
    let within : c.args.place < length items = omega (arith, c.requires.within, c.args.leaves.now.ok.0) in
    let left = joined_set rows_of items c.args.place new within ∙ ap (λ rows. front ++ (rows ++ back)) c.cut_in-count.ensures.items in
    let rose = subst (Rises g.R.Keyed.key) (joined_at rows_of items c.args.place old within c.index_mut-leaf.ensures.value) c.requires.stands.rises in
    let had : HasMemory old = subst HasMemory (sym c.index_mut-leaf.ensures.value) (all_get HasMemory items c.args.place old c.requires.stands.memory within) in
    let same : c.len.result ≡ row_count new = omega (arith, c.len.ensures, new.rows.ok.0) in
    let fewer : row_count new ≤ row_count c.index_mut-leaf.result.now = omega (arith, c.cut_in-count.ensures.count, c.index_mut-leaf.result.now.rows.ok.0, new.rows.ok.0) in
    record {
      rises = subst (Rises g.R.Keyed.key) (sym left) (cut_rises g.R.Keyed.key others front (rows_of old) back rose);
      filled = subst (AllByRecursion HasRows) (sym (removed_same items c.args.place new)) (all_remove HasRows items c.args.place c.requires.stands.filled);
      numbered = all_set (IsNumbered g.R.Keyed.key) items c.args.place new c.requires.stands.numbered (rw c.as_slice.ensures.value at c.last_numbers-leaf.ensures);
      memory = all_set HasMemory items c.args.place new c.requires.stands.memory (omega (arith, had, c.cut_in-count.ensures.memory));
      spare = c.requires.stands.spare;
      spare_memory = c.requires.stands.spare_memory;
      outer = c.requires.stands.outer;
      inner = c.requires.stands.inner;
      lengths = c.set.ensures.numbers ∙ lengths_set c.args.counts.now.numbers items c.args.place c.len.result new c.requires.stands.lengths same;
      places = rw c.set.ensures.places c.requires.stands.places;
      fits = fewer_fit items c.args.place c.index_mut-leaf.result.now new within c.index_mut-leaf.ensures.value fewer c.requires.stands.fits;
    }

pub returns-clause-others : goal.returns-clause-others
returns-clause-others g c =
    let rows_of = leaf_rows {Row = g.row.R.Denot} in
    let others = λ (row : g.row.R.Denot). not (is_in c.args.share (g.R.Keyed.key row)) in
    let items = c.args.leaves.now.items in
    let old = c.index_mut-leaf.result.now in
    let new : Leaf g.row.R.Denot = record { rows = c.cut_in-count.new.rows; last = c.last_numbers-leaf.result } in
    let front = flat_map rows_of (take c.args.place items) in
    let back = flat_map rows_of (drop (c.args.place + 1) items) in
    let within : c.args.place < length items = omega (arith, c.requires.within, c.args.leaves.now.ok.0) in
    let left = joined_set rows_of items c.args.place new within ∙ ap (λ rows. front ++ (rows ++ back)) c.cut_in-count.ensures.items in
    ap (filter others) (c.release.ensures.rows ∙ left) ∙ others_stay others front (rows_of old) back
    ∙ ap (filter others) (sym (joined_at rows_of items c.args.place old within c.index_mut-leaf.ensures.value))

pub returns-clause-count : goal.returns-clause-count
returns-clause-count g c =
    let rows_of = leaf_rows {Row = g.row.R.Denot} in
    let old = c.index_mut-leaf.result.now in
    let new : Leaf g.row.R.Denot = record { rows = c.cut_in-count.new.rows; last = c.last_numbers-leaf.result } in
    let within : c.args.place < length c.args.leaves.now.items = omega (arith, c.requires.within, c.args.leaves.now.ok.0) in
    omega (arith, ap length c.release.ensures.rows, joined_length rows_of c.args.leaves.now.items c.args.place old new within c.index_mut-leaf.ensures.value, c.cut_in-count.ensures.count, old.rows.ok.0, new.rows.ok.0)

pub returns-clause-fewer : goal.returns-clause-fewer
returns-clause-fewer g c =
    let mine = λ (row : g.row.R.Denot). is_in c.args.share (g.R.Keyed.key row) in
    let old = c.index_mut-leaf.result.now in
    let fewer = fewer_left mine (leaf_rows {Row = g.row.R.Denot} old) (c.requires.some old c.index_mut-leaf.ensures.value) in
    omega (arith, fewer, ap length c.cut_in-count.ensures.items, c.cut_in-count.ensures.count, old.rows.ok.0, c.cut_in-count.new.rows.ok.0)
