-- the levels are made anew for the numbers that are left
use Rattle.std.proofs.Common.{arith}
use Rattle.std.proofs.lemmas.List.Sums.{sum_by-remove}
use Rattle.prefix_sums.proofs.LevelLemmas.{lent_back}
use Rattle.prefix_sums.proofs.counts.Counts.remove.Goals as goal

pub invariant_of-self : goal.invariant_of-self
invariant_of-self c =
    let inside = c.self.inside in
    let invariant = c.self.invariant in
    let back = lent_back inside.above.len c.renew.new.above inside.above.items _ c.as_mut_slice.ensures.value c.renew.ensures.count inside.above.ok.0 in
    let within = rw (← c.self.view_is) at c.requires in
    rw back (record {
      stand = c.renew.ensures.stand;
      memory = record { numbers = rw c.renew.ensures.numbers (omega (arith, invariant.memory.numbers, c.remove.ensures.capacity)); ends = omega (arith, invariant.memory.ends, c.renew.ensures.memory) };
      memory_above = c.renew.ensures.memory_above inside.places (rw c.as_mut_slice.ensures.value invariant.memory_above);
      reached = rw (c.renew.ensures.count, c.as_mut_slice.ensures.value) invariant.reached;
      within = rw c.renew.ensures.numbers (omega (arith, invariant.within, c.remove.ensures.len));
      fits = rw (c.renew.ensures.numbers, c.remove.ensures.items) (omega (arith, invariant.fits, sum_by-remove (λ n. n) inside.first.numbers.items c.args.place 0 within));
    })
