-- the deeper one comes as the one above it does, and behind it
use Rattle.std.proofs.Common.{◌≡◌, ◌<◌, ◌-◌, length, refl, sym, ap, subst, ◌∙◌, arith}
use Rattle.std.specs.Ordering.{is_lt, is_gt}
use Rattle.std.proofs.lemmas.Bool.Decides.{nat_tests}
use Rattle.router_state.specs.Paths.{path_before}
use Rattle.entity_tree.specs.Climbing.{BeginsWith, path_at}
use Rattle.entity_tree.proofs.OrderLemmas.{upper_first, upper_not_after}
use Rattle.entity_tree.proofs.ClimbLemmas.{goes_on, not_before_itself}
use Rattle.entity_tree.proofs.paths.compare_deeper.Goals as goal

pub returns-then-left-right-clause-less : goal.returns-then-left-right-clause-less
returns-then-left-right-clause-less c =
    let rows = c.args.rows.now.rows in
    let left = path_at rows c.above-left.result.now.number.0 in
    let right = path_at rows c.above-right.result.now.number.0 in
    let other = path_at rows c.args.other.0 in
    let level : length left ≡ length right = omega (arith, c.requires.deeper, c.requires.depth_of_one, c.requires.depth_of_other, c.above-left.ensures.length, c.above-right.ensures.length) in
    let on = goes_on left right other c.compare_level.result level c.above-right.ensures.path c.compare_level.ensures.less c.compare_level.ensures.greater c.compare_level.ensures.apart in
    subst (λ n. is_lt c.compare_level.result ≡ path_before (path_at rows n) other) (c.above-left.ensures.none refl) on.0

pub returns-then-left-right-clause-greater : goal.returns-then-left-right-clause-greater
returns-then-left-right-clause-greater c =
    let rows = c.args.rows.now.rows in
    let left = path_at rows c.above-left.result.now.number.0 in
    let right = path_at rows c.above-right.result.now.number.0 in
    let other = path_at rows c.args.other.0 in
    let level : length left ≡ length right = omega (arith, c.requires.deeper, c.requires.depth_of_one, c.requires.depth_of_other, c.above-left.ensures.length, c.above-right.ensures.length) in
    let on = goes_on left right other c.compare_level.result level c.above-right.ensures.path c.compare_level.ensures.less c.compare_level.ensures.greater c.compare_level.ensures.apart in
    subst (λ n. is_gt c.compare_level.result ≡ path_before other (path_at rows n)) (c.above-left.ensures.none refl) on.1

pub returns-then-steps-eq0-clause-less : goal.returns-then-steps-eq0-clause-less
returns-then-steps-eq0-clause-less c =
    let rows = c.args.rows.now.rows in
    let none : c.args.depth_of_other - c.args.depth_of_one ≡ 0 = grind (arith, nat_tests, c.if-steps-eq0.true) in
    let same : c.args.one.0 ≡ c.args.other.0 = grind (arith, nat_tests, c.if-left-right.false, c.above-left.ensures.none refl, c.above-right.ensures.none none) in
    sym (ap (λ e. path_before (path_at rows e) (path_at rows c.args.other.0)) same ∙ not_before_itself (path_at rows c.args.other.0))

pub returns-then-steps-eq0-clause-greater : goal.returns-then-steps-eq0-clause-greater
returns-then-steps-eq0-clause-greater c =
    let rows = c.args.rows.now.rows in
    let none : c.args.depth_of_other - c.args.depth_of_one ≡ 0 = grind (arith, nat_tests, c.if-steps-eq0.true) in
    let same : c.args.one.0 ≡ c.args.other.0 = grind (arith, nat_tests, c.if-left-right.false, c.above-left.ensures.none refl, c.above-right.ensures.none none) in
    sym (ap (λ e. path_before (path_at rows c.args.other.0) (path_at rows e)) same ∙ not_before_itself (path_at rows c.args.other.0))

pub returns-else-steps-eq0-clause-less : goal.returns-else-steps-eq0-clause-less
returns-else-steps-eq0-clause-less c =
    let rows = c.args.rows.now.rows in
    let same : c.above-right.result.now.number.0 ≡ c.args.one.0 = grind (arith, nat_tests, c.if-left-right.false, c.above-left.ensures.none refl) in
    let begins = subst (λ e. BeginsWith (path_at rows c.args.other.0) (path_at rows e)) same c.above-right.ensures.path in
    let shorter : length (path_at rows c.args.one.0) < length (path_at rows c.args.other.0) = grind (arith, nat_tests, c.if-steps-eq0.false, c.requires.depth_of_one, c.requires.depth_of_other) in
    sym (upper_first (path_at rows c.args.other.0) (path_at rows c.args.one.0) begins shorter)

pub returns-else-steps-eq0-clause-greater : goal.returns-else-steps-eq0-clause-greater
returns-else-steps-eq0-clause-greater c =
    let rows = c.args.rows.now.rows in
    let same : c.above-right.result.now.number.0 ≡ c.args.one.0 = grind (arith, nat_tests, c.if-left-right.false, c.above-left.ensures.none refl) in
    let begins = subst (λ e. BeginsWith (path_at rows c.args.other.0) (path_at rows e)) same c.above-right.ensures.path in
    sym (upper_not_after (path_at rows c.args.other.0) (path_at rows c.args.one.0) begins)
