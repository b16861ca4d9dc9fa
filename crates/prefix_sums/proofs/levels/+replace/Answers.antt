-- the number is replaced in its block's sum, and that in the levels above
use Rattle.std.proofs.Common.{rules, subst, arith}
use Rattle.std.specs.List.{AllByRecursion}
use Rattle.prefix_sums.specs.Levels.{HasPlaces}
use Rattle.prefix_sums.proofs.LevelLemmas.{block_within, next_stands, part_within, sum_fits, sums_fit, sums_replaced}
use Rattle.prefix_sums.proofs.levels.+replace.Goals as goal

pub overflow_sub-sum : goal.overflow_sub-sum
overflow_sub-sum t c = part_within c.args.first.now c.in-Some.next.now c.args.above.now c.in-Some.rest.now c.args.place c.replace_number-before.result c.index.result.now c.args.now c.in-Some.ensures.cases.0 c.requires.stand c.requires.within c.replace_number-before.ensures.before c.index.ensures

pub overflow_add-sum : goal.overflow_add-sum
overflow_add-sum t c = omega (arith, sum_fits c.args.first.now c.in-Some.next.now c.args.above.now c.in-Some.rest.now c.args.place c.replace_number-before.result c.index.result.now c.args.now c.in-Some.ensures.cases.0 c.requires.stand c.requires.within c.replace_number-before.ensures.before c.index.ensures c.requires.fits)

pub replace-requires : goal.replace-requires
replace-requires t c =
    let stand = (next_stands c.args.first.now c.in-Some.next.now c.args.above.now c.in-Some.rest.now c.in-Some.ensures.cases.0 c.requires.stand).1 in
    let within = block_within c.args.first.now c.in-Some.next.now c.args.above.now c.in-Some.rest.now c.args.place c.replace_number-before.result c.index.result.now c.args.now c.in-Some.ensures.cases.0 c.requires.stand c.requires.within c.replace_number-before.ensures.before c.index.ensures in
    let fits = sums_fit c.args.first.now c.in-Some.next.now c.args.above.now c.in-Some.rest.now c.args.place c.replace_number-before.result c.index.result.now c.args.now c.in-Some.ensures.cases.0 c.requires.stand c.requires.within c.replace_number-before.ensures.before c.index.ensures c.requires.fits in
    (search rules, (stand, (within, fits)))

pub returns-in-Some-clause-stand : goal.returns-in-Some-clause-stand
returns-in-Some-clause-stand t c =
    let sums = sums_replaced c.args.first.now c.in-Some.next.now c.args.above.now c.in-Some.rest.now c.args.place c.replace_number-before.result c.index.result.now c.args.now c.in-Some.ensures.cases.0 c.requires.stand c.requires.within c.replace_number-before.ensures.before c.index.ensures in
    record {
      ends = c.replace_number-before.ensures.ends;
      sums = (rw (c.replace_number-before.ensures.numbers, c.replace.ensures.numbers) sums, (c.replace.ensures.stand.ends, c.replace.ensures.stand.sums));
    }

pub returns-in-Some-clause-memory_above : goal.returns-in-Some-clause-memory_above
returns-in-Some-clause-memory_above t c = λ places all.
    let had = subst (AllByRecursion (HasPlaces places)) c.in-Some.ensures.cases.0 all in
    (c.replace.ensures.memory places had.0, c.replace.ensures.memory_above places had.1)
