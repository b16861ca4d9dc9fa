-- all rows stand before the row just where as many do as there are
use Rattle.std.proofs.Common.{◌≡◌, length, arith, sym, ◌∙◌}
use Rattle.std.proofs.lemmas.Bool.Decides.{nat_tests}
use Rattle.std.specs.List.{prefix_len}
use Rattle.rows_sorted.specs.Keys.{key_before}
use Rattle.rows_leaves.proofs.SplitLemmas.{all_in_front, last_not_low}
use Rattle.rows_leaves.proofs.splitting.all_before.Goals as goal

pub returns-clause-before : goal.returns-clause-before
returns-clause-before g c = λ yes.
    let same : c.count_before.result ≡ length c.args.rows.now = grind (arith, nat_tests) in
    let count = rw (c.first.ensures, c.second.ensures, c.text.ensures) at c.count_before.ensures.count in
    all_in_front (λ (x : g.row.R.Denot). key_before (g.R.Keyed.key x) (g.R.Keyed.key c.args.row.now)) c.args.rows.now (sym count ∙ same)

pub returns-clause-other : goal.returns-clause-other
returns-clause-other g c = λ no.
    let count = rw (c.first.ensures, c.second.ensures, c.text.ensures) at c.count_before.ensures.count in
    last_not_low g.R.Keyed.key (g.R.Keyed.key c.args.row.now) c.args.rows.now c.requires
    (λ (all : prefix_len (λ x. key_before (g.R.Keyed.key x) (g.R.Keyed.key c.args.row.now)) c.args.rows.now ≡ length c.args.rows.now).
    let same : c.count_before.result ≡ length c.args.rows.now = count ∙ all in grind (arith, nat_tests))
