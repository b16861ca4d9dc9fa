-- where a row goes, its room comes
use Rattle.std.proofs.Common.{ap, arith, length}
use Rattle.std.specs.List.{flat_map}
use Rattle.rows_sorted.specs.Keys.{Key, is_key}
use Rattle.rows_leaves.specs.Invariant.{leaf_rows}
use Rattle.rows_leaves.proofs.FirstLemmas.{fewer_left}
use Rattle.rows_leaves.proofs.leaves.Leaves.cut_row.Goals as goal

pub returns-clause-gives : goal.returns-clause-gives
returns-clause-gives g c = λ there.
    let k : Key = record { first = c.args.first; second = c.args.second; text = c.args.text.now } in
    let has = rw (← c.self.view_is) at there in
    let fewer = fewer_left (λ (row : g.row.R.Denot). is_key (g.R.Keyed.key row) k) (flat_map (leaf_rows {Row = g.row.R.Denot}) c.self.inside.leaves.items) has in
    let left = ap length c.cut_from-count.ensures.rows in
    rw (← c.self.view_is) (omega (arith, fewer, left, c.cut_from-count.ensures.count))
