-- where one of the two isn't there, they come as their depths do
use Rattle.std.proofs.Common.{◌≡◌, length, ◌∙◌, arith}
use Rattle.std.specs.Ordering.{nat_cmp}
use Rattle.std.proofs.lemmas.Bool.Decides.{nat_tests}
use Rattle.entity_tree.specs.Climbing.{path_at}
use Rattle.entity_tree.proofs.ClimbLemmas.{bare_first, bare_second}
use Rattle.entity_tree.proofs.paths.compare.Goals.{then-depth_of_one-eq0-via-then-depth_of_one-eq0, then-depth_of_one-eq0-via-else-depth_of_one-eq0+then-depth_of_other-eq0}
use Rattle.entity_tree.proofs.paths.compare.Goals as goal

pub returns-then-depth_of_one-eq0-clause-less : goal.returns-then-depth_of_one-eq0-clause-less
returns-then-depth_of_one-eq0-clause-less c =
    let p = path_at c.args.rows.now.rows c.args.one.0 in
    let q = path_at c.args.rows.now.rows c.args.other.0 in
    let long : c.depth_of-depth_of_one.result ≡ length p = c.depth_of-depth_of_one.ensures ∙ c.requires.depths c.args.one.0 in
    let wide : c.depth_of-depth_of_other.result ≡ length q = c.depth_of-depth_of_other.ensures ∙ c.requires.depths c.args.other.0 in
    let compared : c.cmp.result ≡ nat_cmp (length p) (length q) = rw (← long, ← wide) c.cmp.ensures in
    elim c.then-depth_of_one-eq0.branch [
      | then-depth_of_one-eq0-via-then-depth_of_one-eq0 w ↦ let none : length p ≡ 0 = grind (arith, nat_tests, w.if-depth_of_one-eq0.true, long) in (bare_first p q c.cmp.result none compared).0
      | then-depth_of_one-eq0-via-else-depth_of_one-eq0+then-depth_of_other-eq0 w ↦ let none : length q ≡ 0 = grind (arith, nat_tests, w.if-depth_of_other-eq0.true, wide) in (bare_second p q c.cmp.result none compared).0
    ]

pub returns-then-depth_of_one-eq0-clause-greater : goal.returns-then-depth_of_one-eq0-clause-greater
returns-then-depth_of_one-eq0-clause-greater c =
    let p = path_at c.args.rows.now.rows c.args.one.0 in
    let q = path_at c.args.rows.now.rows c.args.other.0 in
    let long : c.depth_of-depth_of_one.result ≡ length p = c.depth_of-depth_of_one.ensures ∙ c.requires.depths c.args.one.0 in
    let wide : c.depth_of-depth_of_other.result ≡ length q = c.depth_of-depth_of_other.ensures ∙ c.requires.depths c.args.other.0 in
    let compared : c.cmp.result ≡ nat_cmp (length p) (length q) = rw (← long, ← wide) c.cmp.ensures in
    elim c.then-depth_of_one-eq0.branch [
      | then-depth_of_one-eq0-via-then-depth_of_one-eq0 w ↦ let none : length p ≡ 0 = grind (arith, nat_tests, w.if-depth_of_one-eq0.true, long) in (bare_first p q c.cmp.result none compared).1
      | then-depth_of_one-eq0-via-else-depth_of_one-eq0+then-depth_of_other-eq0 w ↦ let none : length q ≡ 0 = grind (arith, nat_tests, w.if-depth_of_other-eq0.true, wide) in (bare_second p q c.cmp.result none compared).1
    ]
