-- where memory runs out, the levels are right for the places that there were
use Rattle.std.proofs.Common.{length, arith}
use Rattle.prefix_sums.proofs.LevelLemmas.{reached_by}
use Rattle.prefix_sums.proofs.counts.Counts.reserve.Goals as goal

pub invariant_of-self-in_err-raise_levels : goal.invariant_of-self-in_err-raise_levels
invariant_of-self-in_err-raise_levels c =
    let invariant = c.self.invariant in
    record {
      stand = record { ends = rw (c.reserve_level.ensures.numbers, c.reserve_level.ensures.ends) invariant.stand.ends; sums = c.raise_levels.ensures.above };
      memory = c.reserve_level.ensures.kept c.self.inside.places invariant.memory;
      memory_above = c.raise_levels.ensures.kept c.self.inside.places (omega (arith, c.if-places-self.false)) invariant.memory_above;
      reached = reached_by c.self.inside.places (length c.self.inside.above.items) c.raise_levels.new.above.items invariant.reached (omega (arith, c.raise_levels.ensures.no_fewer, c.self.inside.above.ok.0, c.raise_levels.new.above.ok.0));
      within = omega (arith, invariant.within, c.reserve_level.ensures.len);
      fits = rw c.reserve_level.ensures.numbers invariant.fits;
    }
