-- the sums before the block, and the numbers of the block before the place
use Rattle.std.proofs.Common.{rules, arith}
use Rattle.prefix_sums.proofs.SumLemmas.{as_much}
use Rattle.prefix_sums.proofs.LevelLemmas.{next_reached, next_stands}
use Rattle.prefix_sums.proofs.levels.+sum_before.Goals as goal

pub sum_before-requires : goal.sum_before-requires
sum_before-requires t c =
    let next = next_stands c.args.first.now c.in-Some.next.now c.args.above.now c.in-Some.rest.now c.in-Some.ensures.cases.0 c.requires.stand in
    let numbers = c.args.first.now.numbers.items in
    let sums = c.in-Some.next.now.numbers.items in (
      search rules,
      (
        next.1,
        (
          next_reached numbers sums c.in-Some.next.now c.args.above.now c.in-Some.rest.now c.in-Some.ensures.cases.0 next.0 c.requires.reached,
          (omega (arith, c.requires.within, next.0.enough), omega (arith, c.requires.fits, as_much numbers sums next.0)),
        ),
      ),
    )
