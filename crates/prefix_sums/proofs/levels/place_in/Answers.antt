-- all sums are as much as the numbers, and so many of them as their blocks
use Rattle.std.proofs.Common.{◌+◌, subst, ap, ◌∙◌, arith}
use Rattle.std.proofs.lemmas.List.Sums.{sum_by_more}
use Rattle.prefix_sums.specs.Levels.{AreAbove, top_of}
use Rattle.prefix_sums.proofs.LevelLemmas.{level_gone, top_added, top_within}
use Rattle.prefix_sums.proofs.levels.place_in.Goals as goal

pub levels-init : goal.levels-init
levels-init c = record {
  right = c.requires.stand.sums;
  before = omega arith;
  within = top_within c.args.first.now.numbers.items c.args.above.now c.args.rank c.requires.stand.sums c.requires.reached c.requires.within;
}

pub place_within-place-requires-clause-ends : goal.place_within-place-requires-clause-ends
place_within-place-requires-clause-ends c =
    let numbers = c.args.first.now.numbers.items in
    (level_gone numbers c.in-Some.below.now c.in-Some.level.now (subst (AreAbove numbers) c.in-Some.ensures.cases.0 c.levels.invariant.right)).1.1

pub place_within-place-requires-clause-within : goal.place_within-place-requires-clause-within
place_within-place-requires-clause-within c =
    let numbers = c.args.first.now.numbers.items in
    let top = ap (top_of numbers) c.in-Some.ensures.cases.0 ∙ top_added numbers c.in-Some.below.now c.in-Some.level.now in
    omega (arith, rw top at c.levels.invariant.before, rw top at c.levels.invariant.within)

pub levels-preserved : goal.levels-preserved
levels-preserved c =
    let numbers = c.args.first.now.numbers.items in
    let level = c.in-Some.level.now in
    let place = c.place_within-place.result.0 in
    let gone = level_gone numbers c.in-Some.below.now level (subst (AreAbove numbers) c.in-Some.ensures.cases.0 c.levels.invariant.right) in
    let top = ap (top_of numbers) c.in-Some.ensures.cases.0 ∙ top_added numbers c.in-Some.below.now level in
    let before = rw top at c.levels.invariant.before in
    let found = c.place_within-place.ensures in
    record {
      right = gone.0;
      before = omega (arith, before, found.before, gone.1.0.before place);
      within = omega (arith, before, found.before, found.inner, gone.1.0.before (place + 1), sum_by_more (λ k. k) level.numbers.items place 0 found.within);
    }
