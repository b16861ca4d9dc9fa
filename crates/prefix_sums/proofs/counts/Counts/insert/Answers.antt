-- the levels are made anew for the numbers with the new one
use Rattle.std.proofs.Common.{arith}
use Rattle.std.proofs.lemmas.List.Sums.{sum_by-insert}
use Rattle.prefix_sums.proofs.LevelLemmas.{lent_back}
use Rattle.prefix_sums.proofs.counts.Counts.insert.Goals as goal

pub invariant_of-self : goal.invariant_of-self
invariant_of-self c =
    let inside = c.self.inside in
    let invariant = c.self.invariant in
    let back = lent_back inside.above.len c.renew.new.above inside.above.items _ c.as_mut_slice.ensures.value c.renew.ensures.count inside.above.ok.0 in
    let room = rw (← c.self.view_is) at c.requires.room in
    let fits = rw (← c.self.view_is) at c.requires.fits in
    rw back (record {
      stand = c.renew.ensures.stand;
      memory = record { numbers = rw c.renew.ensures.numbers (omega (arith, invariant.memory.numbers, c.insert.ensures.capacity)); ends = omega (arith, invariant.memory.ends, c.renew.ensures.memory) };
      memory_above = c.renew.ensures.memory_above inside.places (rw c.as_mut_slice.ensures.value invariant.memory_above);
      reached = rw (c.renew.ensures.count, c.as_mut_slice.ensures.value) invariant.reached;
      within = rw c.renew.ensures.numbers (omega (arith, room, c.in-Ok.ensures.len, inside.first.numbers.ok.0));
      fits = rw (c.renew.ensures.numbers, c.in-Ok.ensures.items) (omega (arith, fits, sum_by-insert (λ n. n) inside.first.numbers.items c.args.place c.args.number));
    })
