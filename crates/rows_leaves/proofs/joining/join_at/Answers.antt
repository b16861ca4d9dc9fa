-- one leaf has the rows of both, and the other one none
use Rattle.std.proofs.Common.{◌≡◌, ◌+◌, ◌<◌, get_or, length, set, sym, ap, subst, ◌∙◌, arith}
use Rattle.std.specs.Prelude.{remove}
use Rattle.std.specs.List.{AllByRecursion}
use Rattle.std.proofs.lemmas.List.{length-append}
use Rattle.rows_sorted.specs.Keys.{Rises}
use Rattle.rows_leaves.specs.Invariant.{leaf_rows, row_count, HasMemory, HasRows, IsNumbered, IsSpare}
use Rattle.rows_leaves.specs.declared.leaf.Leaf.{Leaf}
use Rattle.rows_leaves.proofs.LengthLemmas.{lengths_fit, lengths_remove, lengths_set}
use Rattle.rows_leaves.proofs.JoinLemmas.{all_get, all_push, all_remove, all_set, before_removed, joined_pair}
use Rattle.rows_leaves.proofs.joining.join_at.Goals as goal

pub set-requires-clause-fits : goal.set-requires-clause-fits
set-requires-clause-fits g c =
    let rows_of = leaf_rows {Row = g.row.R.Denot} in
    let items = c.args.leaves.now.items in
    let n = c.args.place in
    let one = c.index_mut-leaf.result.now in
    let two = c.remove-next.result in
    let new : Leaf g.row.R.Denot = record { rows = c.move_behind.new.into; last = c.last_numbers-leaf.result } in
    let is_one : one ≡ get_or items n one = (rw c.remove-next.ensures.items at c.index_mut-leaf.ensures.value) ∙ before_removed rows_of items n one c.requires.within in
    let rows = joined_pair rows_of items n one two new c.requires.within is_one c.remove-next.ensures.value c.move_behind.ensures.items in
    let same : c.len.result ≡ row_count new = omega (arith, c.len.ensures, new.rows.ok.0) in
    let left = c.remove.ensures.numbers ∙ lengths_remove c.args.counts.now.numbers items (n + 1) c.requires.stands.lengths in
    lengths_fit _ (set (remove items (n + 1)) n new) (lengths_set _ (remove items (n + 1)) n c.len.result new left same) (rw rows c.requires.stands.fits)

pub returns-clause-rows : goal.returns-clause-rows
returns-clause-rows g c =
    let rows_of = leaf_rows {Row = g.row.R.Denot} in
    let items = c.args.leaves.now.items in
    let n = c.args.place in
    let one = c.index_mut-leaf.result.now in
    let two = c.remove-next.result in
    let new : Leaf g.row.R.Denot = record { rows = c.move_behind.new.into; last = c.last_numbers-leaf.result } in
    let is_one : one ≡ get_or items n one = (rw c.remove-next.ensures.items at c.index_mut-leaf.ensures.value) ∙ before_removed rows_of items n one c.requires.within in
    rw c.remove-next.ensures.items (joined_pair rows_of items n one two new c.requires.within is_one c.remove-next.ensures.value c.move_behind.ensures.items)

pub returns-clause-stands : goal.returns-clause-stands
returns-clause-stands g c =
    let rows_of = leaf_rows {Row = g.row.R.Denot} in
    let items = c.args.leaves.now.items in
    let n = c.args.place in
    let low : n < length items = omega (arith, c.requires.within) in
    let one = c.index_mut-leaf.result.now in
    let two = c.remove-next.result in
    let new : Leaf g.row.R.Denot = record { rows = c.move_behind.new.into; last = c.last_numbers-leaf.result } in
    let spare : Leaf g.row.R.Denot = record { rows = c.move_behind.new.rows; last = c.remove-next.result.last } in
    let is_one : one ≡ get_or items n one = (rw c.remove-next.ensures.items at c.index_mut-leaf.ensures.value) ∙ before_removed rows_of items n one c.requires.within in
    let has : HasRows one = subst HasRows (sym is_one) (all_get HasRows items n one c.requires.stands.filled low) in
    let memory_one : HasMemory one = subst HasMemory (sym is_one) (all_get HasMemory items n one c.requires.stands.memory low) in
    let memory_two : HasMemory two = subst HasMemory (sym c.remove-next.ensures.value) (all_get HasMemory items (n + 1) two c.requires.stands.memory c.requires.within) in
    let long = ap length c.move_behind.ensures.items ∙ length-append one.rows.items two.rows.items in
    let same : c.len.result ≡ row_count new = omega (arith, c.len.ensures, new.rows.ok.0) in
    let filled : HasRows new = omega (arith, long, has) in
    let memory : HasMemory new = omega (arith, memory_one, c.move_behind.ensures.memory) in
    let memory_left : HasMemory spare = omega (arith, memory_two, c.move_behind.ensures.memory_left) in
    record {
      rises = subst (Rises g.R.Keyed.key) (sym (returns-clause-rows g c)) c.requires.stands.rises;
      filled = rw c.remove-next.ensures.items (all_set HasRows _ n new (all_remove HasRows items (n + 1) c.requires.stands.filled) filled);
      numbered = rw c.remove-next.ensures.items (all_set (IsNumbered g.R.Keyed.key) _ n new (all_remove (IsNumbered g.R.Keyed.key) items (n + 1) c.requires.stands.numbered) (rw c.as_slice.ensures.value at c.last_numbers-leaf.ensures));
      memory = rw c.remove-next.ensures.items (all_set HasMemory _ n new (all_remove HasMemory items (n + 1) c.requires.stands.memory) memory);
      spare = subst (AllByRecursion IsSpare) (sym c.push_item.ensures.items) (all_push IsSpare c.args.spares.now.items spare c.requires.stands.spare c.move_behind.ensures.none);
      spare_memory = subst (AllByRecursion HasMemory) (sym c.push_item.ensures.items) (all_push HasMemory c.args.spares.now.items spare c.requires.stands.spare_memory memory_left);
      outer = omega (arith, c.requires.stands.outer, c.remove-next.ensures.len, c.remove-next.ensures.capacity, c.push_item.ensures.len);
      inner = omega (arith, c.requires.stands.inner, c.remove-next.ensures.len, c.push_item.ensures.memory, c.push_item.ensures.len);
      lengths = rw c.remove-next.ensures.items (c.set.ensures.numbers ∙ lengths_set _ (remove items (n + 1)) n c.len.result new (c.remove.ensures.numbers ∙ lengths_remove c.args.counts.now.numbers items (n + 1) c.requires.stands.lengths) same);
      places = omega (arith, c.requires.stands.places, c.remove-next.ensures.len, c.push_item.ensures.len, c.remove.ensures.places, c.set.ensures.places);
      fits = rw (returns-clause-rows g c) c.requires.stands.fits;
    }
