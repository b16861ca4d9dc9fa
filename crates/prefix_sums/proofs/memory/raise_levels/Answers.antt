-- the levels are enough, and none has memory for fewer numbers than before
use Rattle.std.proofs.Common.{arith}
use Rattle.prefix_sums.proofs.LevelLemmas.{fewer_places, lent_back, reached_by}
use Rattle.prefix_sums.proofs.memory.raise_levels.Goals as goal

pub returns-in_err-reserve_levels-clause-kept : goal.returns-in_err-reserve_levels-clause-kept
returns-in_err-reserve_levels-clause-kept c = λ fewer less all.
    let same = lent_back c.args.above.now.len c.reserve_levels.new.levels c.args.above.now.items _ c.as_mut_slice.ensures.value c.reserve_levels.ensures.count c.args.above.now.ok.0 in
    rw same (c.reserve_levels.ensures.kept fewer (rw c.as_mut_slice.ensures.value all))

pub returns-in_err-add_level-clause-kept : goal.returns-in_err-add_level-clause-kept
returns-in_err-add_level-clause-kept c = λ fewer less all.
    c.add_level.ensures.memory fewer less (fewer_places fewer c.args.places c.raises.above.items less c.raises.invariant.memory)

pub returns-in_err-add_level-clause-no_fewer : goal.returns-in_err-add_level-clause-no_fewer
returns-in_err-add_level-clause-no_fewer c = omega (arith, c.raises.invariant.no_fewer, c.add_level.ensures.no_fewer)

pub returns-clause-reached : goal.returns-clause-reached
returns-clause-reached c = reached_by c.args.places c.levels_for-count.result c.raises.above.items c.levels_for-count.ensures (omega (arith, c.raises-test.false, c.len.ensures, c.raises.above.ok.0))

pub returns-clause-kept : goal.returns-clause-kept
returns-clause-kept c = λ fewer less all. fewer_places fewer c.args.places c.raises.above.items less c.raises.invariant.memory
