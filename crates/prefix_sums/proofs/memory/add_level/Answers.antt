-- the new level has the sums of the one that was at the top
use Rattle.std.proofs.Common.{sym, subst, arith}
use Rattle.prefix_sums.specs.Levels.{AreAbove}
use Rattle.prefix_sums.proofs.SumLemmas.{as_much}
use Rattle.prefix_sums.proofs.LevelLemmas.{level_added, top_short, top_sum}
use Rattle.prefix_sums.proofs.memory.add_level.Goals as goal

pub renew_sums-requires-clause-memory : goal.renew_sums-requires-clause-memory
renew_sums-requires-clause-memory c = rw (c.top.ensures.numbers, c.as_slice.ensures.value) (omega (arith, c.requires.within, c.in_ok-numbers.ensures.capacity, top_short c.args.first.now.numbers.items c.args.above.now.items c.requires.stand.sums))

pub renew_ends-requires-clause-fits : goal.renew_ends-requires-clause-fits
renew_ends-requires-clause-fits c =
    let sums = rw (c.top.ensures.numbers, c.as_slice.ensures.value) at c.renew_sums.ensures.stand in
    rw c.as_slice-2.ensures.value (omega (arith, c.requires.fits, as_much _ _ sums, top_sum c.args.first.now.numbers.items c.args.above.now.items c.requires.stand.sums))

pub renew_ends-requires-clause-memory : goal.renew_ends-requires-clause-memory
renew_ends-requires-clause-memory c =
    let sums = rw (c.top.ensures.numbers, c.as_slice.ensures.value) at c.renew_sums.ensures.stand in
    rw c.as_slice-2.ensures.value (omega (arith, c.requires.within, c.in_ok-ends.ensures.capacity, sums.few, top_short c.args.first.now.numbers.items c.args.above.now.items c.requires.stand.sums))

pub returns-clause-above : goal.returns-clause-above
returns-clause-above c =
    let sums = rw (c.top.ensures.numbers, c.as_slice.ensures.value) at c.renew_sums.ensures.stand in
    let ends = rw c.as_slice-2.ensures.value at c.renew_ends.ensures.stand in
    subst (AreAbove c.args.first.now.numbers.items) (sym c.in_ok-push.ensures.items) (level_added c.args.first.now.numbers.items c.args.above.now.items _ c.requires.stand.sums sums ends)
