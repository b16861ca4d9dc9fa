-- the first level is made anew from its numbers, and the others from it
use Rattle.std.proofs.Common.{rules, refl, subst, arith}
use Rattle.std.specs.List.{AllByRecursion}
use Rattle.prefix_sums.specs.Levels.{HasPlaces}
use Rattle.prefix_sums.proofs.SumLemmas.{as_much}
use Rattle.prefix_sums.proofs.LevelLemmas.{ends_kept, fewer_places, next_stood, sums_kept}
use Rattle.prefix_sums.proofs.levels.+renew.Goals as goal

pub renew_ends-requires-clause-stand : goal.renew_ends-requires-clause-stand
renew_ends-requires-clause-stand t c = rw c.as_slice.ensures.value (ends_kept c.args.first.now c.args.above.now c.args.place c.requires.stood)

pub renew_sums-requires-clause-stand : goal.renew_sums-requires-clause-stand
renew_sums-requires-clause-stand t c = sums_kept c.args.first.now c.in-Some.next.now c.args.above.now c.in-Some.rest.now c.args.place c.in-Some.ensures.cases.0 c.requires.stood

pub renew_sums-requires-clause-memory : goal.renew_sums-requires-clause-memory
renew_sums-requires-clause-memory t c = (subst (AllByRecursion (HasPlaces _)) c.in-Some.ensures.cases.0 c.requires.memory_above).0.numbers

pub renew-requires : goal.renew-requires
renew-requires t c =
    let stand = c.renew_sums.ensures.stand in
    let memory = (subst (AllByRecursion (HasPlaces _)) c.in-Some.ensures.cases.0 c.requires.memory_above) in (
      search rules,
      (
        next_stood c.args.first.now c.in-Some.next.now c.args.above.now c.in-Some.rest.now c.args.place c.in-Some.ensures.cases.0 c.requires.stood _ refl c.renew_sums.ensures.kept stand,
        (omega (arith, c.requires.fits, as_much _ _ stand), (omega (arith, stand.few, memory.0.ends), fewer_places _ _ c.in-Some.rest.now (omega (arith, stand.few)) memory.1)),
      ),
    )

pub returns-in-Some-clause-memory_above : goal.returns-in-Some-clause-memory_above
returns-in-Some-clause-memory_above t c = λ places all.
    let had = subst (AllByRecursion (HasPlaces places)) c.in-Some.ensures.cases.0 all in
    (record { numbers = rw c.renew.ensures.numbers (omega (arith, had.0.numbers, c.renew_sums.ensures.memory)); ends = omega (arith, had.0.ends, c.renew.ensures.memory) }, c.renew.ensures.memory_above places had.1)
