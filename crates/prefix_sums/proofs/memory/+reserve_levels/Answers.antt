-- no level has memory for fewer numbers than before
use Rattle.std.proofs.Common.{subst}
use Rattle.std.specs.List.{AllByRecursion}
use Rattle.prefix_sums.specs.Levels.{HasPlaces}
use Rattle.prefix_sums.proofs.memory.+reserve_levels.Goals as goal

pub returns-in_err-reserve_levels-clause-kept : goal.returns-in_err-reserve_levels-clause-kept
returns-in_err-reserve_levels-clause-kept t c = λ fewer all.
    let had = subst (AllByRecursion (HasPlaces fewer)) c.in-Some.ensures.cases.0 all in
    (c.reserve_level.ensures.kept fewer had.0, c.reserve_levels.ensures.kept fewer had.1)

pub returns-in_ok-reserve_levels-clause-kept : goal.returns-in_ok-reserve_levels-clause-kept
returns-in_ok-reserve_levels-clause-kept t c = λ fewer all.
    let had = subst (AllByRecursion (HasPlaces fewer)) c.in-Some.ensures.cases.0 all in
    (c.reserve_level.ensures.kept fewer had.0, c.reserve_levels.ensures.kept fewer had.1)
