-- the rows of both parts are those of the leaf with the row among them
use Rattle.std.proofs.Common.{◌≡◌, ◌+◌, [], ◌∷◌, map, set, refl, sym, ap, subst, ◌∙◌, arith}
use Rattle.std.specs.List.{AllByRecursion, flat_map, insert}
use Rattle.std.proofs.lemmas.List.Sums.{sum_by-insert}
use Rattle.rows_sorted.specs.Keys.{Rises}
use Rattle.rows_sorted.proofs.OrderLemmas.{put_rises}
use Rattle.rows_leaves.specs.Invariant.{leaf_rows, row_count, HasMemory, HasRows, IsNumbered, IsSpare}
use Rattle.rows_leaves.specs.declared.leaf.Leaf.{Leaf}
use Rattle.rows_leaves.proofs.LastLemmas.{all_front, all_back}
use Rattle.rows_leaves.proofs.JoinLemmas.{all_get, all_insert, all_set, leaf_rises, put_split}
use Rattle.rows_leaves.proofs.LengthLemmas.{lengths_fit, lengths_insert, lengths_set}
use Rattle.rows_leaves.proofs.putting.split_at.Goals as goal

pub put_in_two-requires-clause-rises : goal.put_in_two-requires-clause-rises
put_in_two-requires-clause-rises g c = leaf_rises g.R.Keyed.key (leaf_rows {Row = g.row.R.Denot}) c.args.leaves.now.items c.args.place c.index_mut-leaf.result.now c.requires.belongs.within c.index_mut-leaf.ensures.value c.requires.stands.rises

pub put_in_two-requires-clause-none : goal.put_in_two-requires-clause-none
put_in_two-requires-clause-none g c = (all_back IsSpare c.pop.new.self.items (c.in-Some.spare ∷ []) (subst (AllByRecursion IsSpare) c.in-Some.ensures.items c.requires.stands.spare)).0

pub put_in_two-requires-clause-memory : goal.put_in_two-requires-clause-memory
put_in_two-requires-clause-memory g c =
    let has = (all_back HasMemory c.pop.new.self.items (c.in-Some.spare ∷ []) (subst (AllByRecursion HasMemory) c.in-Some.ensures.items c.requires.stands.spare_memory)).0 in
    omega (arith, has, c.count_to_move-count.ensures.within)

pub set-requires-clause-fits : goal.set-requires-clause-fits
set-requires-clause-fits g c =
    let items = c.args.leaves.now.items in
    let n = c.args.place in
    let one : Leaf g.row.R.Denot = record { rows = c.put_in_two.new.rows; last = c.last_numbers-leaf.result } in
    let two : Leaf g.row.R.Denot = record { rows = c.put_in_two.new.behind; last = c.last_numbers-behind.result } in
    let rows = put_split g.R.Keyed.key (leaf_rows {Row = g.row.R.Denot}) c.args.row items n c.index_mut-leaf.result.now one two c.requires.belongs.within c.index_mut-leaf.ensures.value c.requires.belongs.low c.requires.belongs.high c.put_in_two.ensures.items in
    let same : c.len-in-Some.result ≡ row_count one = omega (arith, c.len-in-Some.ensures, one.rows.ok.0) in
    let numbers = set c.args.counts.now.numbers n c.len-in-Some.result in
    let all = lengths_fit _ (insert (set items n one) (n + 1) two) (lengths_insert numbers (set items n one) (n + 1) (row_count two) two (lengths_set c.args.counts.now.numbers items n c.len-in-Some.result one c.requires.stands.lengths same) refl) (rw rows c.requires.fits) in
    omega (arith, all, sum_by-insert (λ k. k) numbers (n + 1) (row_count two))

pub insert-requires-clause-fits : goal.insert-requires-clause-fits
insert-requires-clause-fits g c =
    let items = c.args.leaves.now.items in
    let n = c.args.place in
    let one : Leaf g.row.R.Denot = record { rows = c.put_in_two.new.rows; last = c.last_numbers-leaf.result } in
    let two : Leaf g.row.R.Denot = record { rows = c.put_in_two.new.behind; last = c.last_numbers-behind.result } in
    let rows = put_split g.R.Keyed.key (leaf_rows {Row = g.row.R.Denot}) c.args.row items n c.index_mut-leaf.result.now one two c.requires.belongs.within c.index_mut-leaf.ensures.value c.requires.belongs.low c.requires.belongs.high c.put_in_two.ensures.items in
    let same : c.len-in-Some.result ≡ row_count one = omega (arith, c.len-in-Some.ensures, one.rows.ok.0) in
    let same_two : c.len-in-Some-2.result ≡ row_count two = omega (arith, c.len-in-Some-2.ensures, two.rows.ok.0) in
    let left = c.set.ensures.numbers ∙ lengths_set c.args.counts.now.numbers items n c.len-in-Some.result one c.requires.stands.lengths same in
    let all = lengths_fit _ (insert (set items n one) (n + 1) two) (lengths_insert c.set.new.self.numbers (set items n one) (n + 1) c.len-in-Some-2.result two left same_two) (rw rows c.requires.fits) in
    omega (arith, all, sum_by-insert (λ k. k) c.set.new.self.numbers (n + 1) c.len-in-Some-2.result)

pub returns-clause-rows : goal.returns-clause-rows
returns-clause-rows g c =
    let one : Leaf g.row.R.Denot = record { rows = c.put_in_two.new.rows; last = c.last_numbers-leaf.result } in
    let two : Leaf g.row.R.Denot = record { rows = c.put_in_two.new.behind; last = c.last_numbers-behind.result } in
    ap (flat_map (leaf_rows {Row = g.row.R.Denot})) c.insert_item.ensures.items
    ∙ put_split g.R.Keyed.key (leaf_rows {Row = g.row.R.Denot}) c.args.row c.args.leaves.now.items c.args.place c.index_mut-leaf.result.now one two c.requires.belongs.within c.index_mut-leaf.ensures.value c.requires.belongs.low c.requires.belongs.high c.put_in_two.ensures.items

pub returns-clause-stands : goal.returns-clause-stands
returns-clause-stands g c =
    let items = c.args.leaves.now.items in
    let one : Leaf g.row.R.Denot = record { rows = c.put_in_two.new.rows; last = c.last_numbers-leaf.result } in
    let two : Leaf g.row.R.Denot = record { rows = c.put_in_two.new.behind; last = c.last_numbers-behind.result } in
    let had : HasMemory c.index_mut-leaf.result.now = subst HasMemory (sym c.index_mut-leaf.ensures.value) (all_get HasMemory items c.args.place c.index_mut-leaf.result.now c.requires.stands.memory c.requires.belongs.within) in
    let has = (all_back HasMemory c.pop.new.self.items (c.in-Some.spare ∷ []) (subst (AllByRecursion HasMemory) c.in-Some.ensures.items c.requires.stands.spare_memory)).0 in
    let same : c.len-in-Some.result ≡ row_count one = omega (arith, c.len-in-Some.ensures, one.rows.ok.0) in
    let same_two : c.len-in-Some-2.result ≡ row_count two = omega (arith, c.len-in-Some-2.ensures, two.rows.ok.0) in
    let left = c.set.ensures.numbers ∙ lengths_set c.args.counts.now.numbers items c.args.place c.len-in-Some.result one c.requires.stands.lengths same in
    record {
      rises = subst (Rises g.R.Keyed.key) (sym (returns-clause-rows g c)) (put_rises g.R.Keyed.key c.args.row _ c.requires.stands.rises);
      filled = subst (AllByRecursion HasRows) (sym c.insert_item.ensures.items) (all_insert HasRows (set items c.args.place one) (c.args.place + 1) two (all_set HasRows items c.args.place one c.requires.stands.filled c.put_in_two.ensures.left) c.put_in_two.ensures.moved);
      numbered = subst (AllByRecursion (IsNumbered g.R.Keyed.key)) (sym c.insert_item.ensures.items) (all_insert (IsNumbered g.R.Keyed.key) (set items c.args.place one) (c.args.place + 1) two (all_set (IsNumbered g.R.Keyed.key) items c.args.place one c.requires.stands.numbered (rw c.as_slice.ensures.value at c.last_numbers-leaf.ensures)) (rw c.as_slice-in-Some.ensures.value at c.last_numbers-behind.ensures));
      memory = subst (AllByRecursion HasMemory) (sym c.insert_item.ensures.items) (all_insert HasMemory (set items c.args.place one) (c.args.place + 1) two (all_set HasMemory items c.args.place one c.requires.stands.memory (omega (arith, had, c.put_in_two.ensures.memory))) (omega (arith, has, c.put_in_two.ensures.memory_behind)));
      spare = all_front IsSpare c.pop.new.self.items (c.in-Some.spare ∷ []) (subst (AllByRecursion IsSpare) c.in-Some.ensures.items c.requires.stands.spare);
      spare_memory = all_front HasMemory c.pop.new.self.items (c.in-Some.spare ∷ []) (subst (AllByRecursion HasMemory) c.in-Some.ensures.items c.requires.stands.spare_memory);
      outer = omega (arith, c.requires.stands.outer, c.insert_item.ensures.len, c.insert_item.ensures.memory, c.in-Some.ensures.len);
      inner = omega (arith, c.requires.stands.inner, c.insert_item.ensures.len, c.in-Some.ensures.len, c.in-Some.ensures.capacity);
      lengths = c.insert.ensures.numbers ∙ lengths_insert c.set.new.self.numbers (set items c.args.place one) (c.args.place + 1) c.len-in-Some-2.result two left same_two ∙ ap (map row_count) (sym c.insert_item.ensures.items);
      places = omega (arith, c.requires.stands.places, c.insert_item.ensures.len, c.in-Some.ensures.len, c.insert.ensures.places, c.set.ensures.places);
      fits = rw (returns-clause-rows g c) c.requires.fits;
    }
