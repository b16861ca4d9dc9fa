-- no row comes by a cut
use Rattle.std.proofs.Common.{ap, length, arith}
use Rattle.std.specs.Prelude.{not}
use Rattle.rows_sorted.specs.Keys.{Key, is_key}
use Rattle.rows_leaves.proofs.FirstLemmas.{kept_within}
use Rattle.rows_leaves.proofs.cutting.cut_among.Goals as goal

pub overflow_sub-result : goal.overflow_sub-result
overflow_sub-result g c =
    let k : Key = record { first = c.args.first; second = c.args.second; text = c.args.text.now } in
    omega (arith, c.len.ensures, c.len-before.ensures, ap length c.cut_row.ensures.items, kept_within (λ (row : g.row.R.Denot). not (is_key (g.R.Keyed.key row) k)) c.args.rows.now.items, c.args.rows.now.ok.0, c.cut_row.new.rows.ok.0)

pub returns-clause-count : goal.returns-clause-count
returns-clause-count g c =
    let k : Key = record { first = c.args.first; second = c.args.second; text = c.args.text.now } in
    omega (arith, c.len.ensures, c.len-before.ensures, ap length c.cut_row.ensures.items, kept_within (λ (row : g.row.R.Denot). not (is_key (g.R.Keyed.key row) k)) c.args.rows.now.items, c.args.rows.now.ok.0, c.cut_row.new.rows.ok.0)
