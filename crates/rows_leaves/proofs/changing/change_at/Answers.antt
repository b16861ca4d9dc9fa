-- a row is changed among all just as in its leaf
use Rattle.std.proofs.Common.{◌≡◌, ◌+◌, ◌++◌, if◌then◌else◌, map, take, drop, sym, ap, subst, ◌∙◌, arith}
use Rattle.std.proofs.Math.Seq.{map-set_same}
use Rattle.std.specs.List.{flat_map}
use Rattle.rows_sorted.specs.Keys.{Key, is_key}
use Rattle.rows_leaves.specs.Laying.{numbers_of}
use Rattle.rows_leaves.specs.Invariant.{leaf_rows, row_count, IsNumbered}
use Rattle.rows_leaves.specs.declared.leaf.Leaf.{Leaf}
use Rattle.rows_leaves.proofs.ChangeLemmas.{changed_between, keys_between}
use Rattle.rows_leaves.proofs.JoinLemmas.{all_get, all_set, any_in_leaf, joined_at, joined_set, leaf_rises}
use Rattle.rows_leaves.proofs.NumberLemmas.{last_same}
use Rattle.rows_leaves.proofs.PartLemmas.{low_apart, high_apart}
use Rattle.rows_leaves.proofs.changing.change_at.Goals as goal

pub change_among-requires-clause-rises : goal.change_among-requires-clause-rises
change_among-requires-clause-rises g c = leaf_rises g.R.Keyed.key (leaf_rows {Row = g.row.R.Denot}) c.args.leaves.now.items c.args.place c.index_mut-leaf.result.now c.requires.belongs.within c.index_mut-leaf.ensures.value c.requires.rises

pub returns-clause-found : goal.returns-clause-found
returns-clause-found g c =
    let k : Key = record { first = c.args.first; second = c.args.second; text = c.args.text.now } in
    c.change_among.ensures.found
    ∙ sym (any_in_leaf g.R.Keyed.key (leaf_rows {Row = g.row.R.Denot}) k c.args.leaves.now.items c.args.place c.index_mut-leaf.result.now c.requires.belongs.within c.index_mut-leaf.ensures.value c.requires.belongs.low c.requires.belongs.high)

pub returns-clause-rows : goal.returns-clause-rows
returns-clause-rows g c = λ f follows.
    let k : Key = record { first = c.args.first; second = c.args.second; text = c.args.text.now } in
    let mine = λ (row : g.row.R.Denot). is_key (g.R.Keyed.key row) k in
    let changed = λ (row : g.row.R.Denot). if mine row then f row else row in
    let rows_of = leaf_rows {Row = g.row.R.Denot} in
    let items = c.args.leaves.now.items in
    let old = c.index_mut-leaf.result.now in
    let new : Leaf g.row.R.Denot = record { rows = c.change_among.new.rows; last = c.index_mut-leaf.result.now.last } in
    let front = flat_map rows_of (take c.args.place items) in
    let back = flat_map rows_of (drop (c.args.place + 1) items) in
    joined_set rows_of items c.args.place new c.requires.belongs.within
    ∙ ap (λ rows. front ++ (rows ++ back)) (c.change_among.ensures.rows f follows)
    ∙ changed_between mine f front (rows_of old) back (low_apart g.R.Keyed.key k front c.requires.belongs.low) (high_apart g.R.Keyed.key k back c.requires.belongs.high)
    ∙ ap (map changed) (sym (joined_at rows_of items c.args.place old c.requires.belongs.within c.index_mut-leaf.ensures.value))

pub returns-clause-keys : goal.returns-clause-keys
returns-clause-keys g c =
    let rows_of = leaf_rows {Row = g.row.R.Denot} in
    let items = c.args.leaves.now.items in
    let old = c.index_mut-leaf.result.now in
    let new : Leaf g.row.R.Denot = record { rows = c.change_among.new.rows; last = c.index_mut-leaf.result.now.last } in
    let front = flat_map rows_of (take c.args.place items) in
    let back = flat_map rows_of (drop (c.args.place + 1) items) in
    ap (map g.R.Keyed.key) (joined_set rows_of items c.args.place new c.requires.belongs.within)
    ∙ keys_between g.R.Keyed.key front (rows_of old) (rows_of new) back c.change_among.ensures.keys
    ∙ ap (map g.R.Keyed.key) (sym (joined_at rows_of items c.args.place old c.requires.belongs.within c.index_mut-leaf.ensures.value))

pub returns-clause-numbered : goal.returns-clause-numbered
returns-clause-numbered g c =
    let items = c.args.leaves.now.items in
    let old = c.index_mut-leaf.result.now in
    let new : Leaf g.row.R.Denot = record { rows = c.change_among.new.rows; last = old.last } in
    let had : IsNumbered g.R.Keyed.key old = subst (IsNumbered g.R.Keyed.key) (sym c.index_mut-leaf.ensures.value) (all_get (IsNumbered g.R.Keyed.key) items c.args.place old c.requires.numbered c.requires.belongs.within) in
    all_set (IsNumbered g.R.Keyed.key) items c.args.place new c.requires.numbered (had ∙ ap numbers_of (sym (last_same g.R.Keyed.key new.rows.items old.rows.items c.change_among.ensures.keys)))

pub returns-clause-lengths : goal.returns-clause-lengths
returns-clause-lengths g c =
    let items = c.args.leaves.now.items in
    let old = c.index_mut-leaf.result.now in
    let new : Leaf g.row.R.Denot = record { rows = c.change_among.new.rows; last = old.last } in
    let same : row_count new ≡ row_count old = omega (arith, c.change_among.ensures.len, old.rows.ok.0, new.rows.ok.0) in
    map-set_same row_count items c.args.place new old (same ∙ ap row_count c.index_mut-leaf.ensures.value)
