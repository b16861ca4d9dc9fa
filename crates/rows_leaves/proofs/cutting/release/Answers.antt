-- an empty leaf holds no rows, and the others stand as they did
use Rattle.std.proofs.Common.{◌≡◌, ◌+◌, ◌<◌, ◌++◌, [], take, drop, map, length, vec_len, sym, ap, subst, ◌∙◌, arith}
use Rattle.std.specs.List.{AllByRecursion, flat_map}
use Rattle.std.proofs.lemmas.Bool.Decides.{nat_tests}
use Rattle.std.proofs.lemmas.List.{get_or_default}
use Rattle.rows_sorted.specs.Keys.{Rises}
use Rattle.rows_leaves.specs.Invariant.{leaf_rows, row_count, HasMemory, HasRows, IsNumbered, IsSpare}
use Rattle.rows_leaves.proofs.LengthLemmas.{lengths_remove}
use Rattle.rows_leaves.proofs.JoinLemmas.{all_get, all_push, all_remove, all_restored, empty_is, joined_at, joined_removed}
use Rattle.rows_leaves.proofs.cutting.release.Goals as goal

pub returns-then-is_empty-clause-rows : goal.returns-then-is_empty-clause-rows
returns-then-is_empty-clause-rows g c =
    let rows_of = leaf_rows {Row = g.row.R.Denot} in
    let items = c.args.leaves.now.items in
    let leaf = c.index.result.now in
    let within : c.args.place < length items = omega (arith, c.requires.within, c.args.leaves.now.ok.0) in
    let none : vec_len leaf.rows ≡ 0 = grind (arith, nat_tests) in
    let empty : leaf.rows.items ≡ [] = empty_is leaf.rows.items (omega (arith, none, leaf.rows.ok.0)) in
    ap (flat_map rows_of) c.remove-spare.ensures.items
    ∙ joined_removed rows_of items c.args.place
    ∙ ap (λ rows. flat_map rows_of (take c.args.place items) ++ (rows ++ flat_map rows_of (drop (c.args.place + 1) items))) (sym empty)
    ∙ sym (joined_at rows_of items c.args.place leaf within c.index.ensures)

pub returns-then-is_empty-clause-stands : goal.returns-then-is_empty-clause-stands
returns-then-is_empty-clause-stands g c =
    let items = c.args.leaves.now.items in
    let leaf = c.index.result.now in
    let within : c.args.place < length items = omega (arith, c.requires.within, c.args.leaves.now.ok.0) in
    let none : vec_len leaf.rows ≡ 0 = grind (arith, nat_tests) in
    let empty : leaf.rows.items ≡ [] = empty_is leaf.rows.items (omega (arith, none, leaf.rows.ok.0)) in
    let spare : c.remove-spare.result ≡ leaf = c.remove-spare.ensures.value ∙ get_or_default items c.args.place c.remove-spare.result leaf within ∙ sym c.index.ensures in
    let has : HasMemory leaf = subst HasMemory (sym c.index.ensures) (all_get HasMemory items c.args.place leaf c.requires.stands.memory within) in
    record {
      rises = subst (Rises g.R.Keyed.key) (sym (returns-then-is_empty-clause-rows g c)) c.requires.stands.rises;
      filled = subst (AllByRecursion HasRows) (sym c.remove-spare.ensures.items) c.requires.stands.filled;
      numbered = subst (AllByRecursion (IsNumbered g.R.Keyed.key)) (sym c.remove-spare.ensures.items) (all_remove (IsNumbered g.R.Keyed.key) items c.args.place c.requires.stands.numbered);
      memory = subst (AllByRecursion HasMemory) (sym c.remove-spare.ensures.items) (all_remove HasMemory items c.args.place c.requires.stands.memory);
      spare = subst (AllByRecursion IsSpare) (sym c.push_item.ensures.items) (all_push IsSpare c.args.spares.now.items c.remove-spare.result c.requires.stands.spare (subst IsSpare (sym spare) empty));
      spare_memory = subst (AllByRecursion HasMemory) (sym c.push_item.ensures.items) (all_push HasMemory c.args.spares.now.items c.remove-spare.result c.requires.stands.spare_memory (subst HasMemory (sym spare) has));
      outer = omega (arith, c.requires.stands.outer, c.remove-spare.ensures.len, c.remove-spare.ensures.capacity, c.push_item.ensures.len);
      inner = omega (arith, c.requires.stands.inner, c.remove-spare.ensures.len, c.push_item.ensures.memory, c.push_item.ensures.len);
      lengths = c.remove.ensures.numbers ∙ lengths_remove c.args.counts.now.numbers items c.args.place c.requires.stands.lengths ∙ ap (map row_count) (sym c.remove-spare.ensures.items);
      places = omega (arith, c.requires.stands.places, c.remove-spare.ensures.len, c.push_item.ensures.len, c.remove.ensures.places);
      fits = rw (returns-then-is_empty-clause-rows g c) c.requires.stands.fits;
    }

pub returns-else-is_empty-clause-stands : goal.returns-else-is_empty-clause-stands
returns-else-is_empty-clause-stands g c =
    let items = c.args.leaves.now.items in
    let leaf = c.index.result.now in
    let some : 0 < vec_len leaf.rows = grind (arith, nat_tests) in
    let has : HasRows leaf = omega (arith, some, leaf.rows.ok.0) in
    record {
      rises = c.requires.stands.rises;
      filled = all_restored HasRows items c.args.place leaf c.requires.stands.filled (subst HasRows c.index.ensures has);
      numbered = c.requires.stands.numbered;
      memory = c.requires.stands.memory;
      spare = c.requires.stands.spare;
      spare_memory = c.requires.stands.spare_memory;
      outer = c.requires.stands.outer;
      inner = c.requires.stands.inner;
      lengths = c.requires.stands.lengths;
      places = c.requires.stands.places;
      fits = c.requires.stands.fits;
    }
