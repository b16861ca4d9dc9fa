-- the levels take on the new number
use Rattle.prefix_sums.proofs.LevelLemmas.{lent_back}
use Rattle.prefix_sums.proofs.counts.Counts.set.Goals as goal

pub invariant_of-self : goal.invariant_of-self
invariant_of-self c =
    let inside = c.self.inside in
    let invariant = c.self.invariant in
    let back = lent_back inside.above.len c.replace.new.above inside.above.items _ c.as_mut_slice.ensures.value c.replace.ensures.count inside.above.ok.0 in
    rw back (record {
      stand = c.replace.ensures.stand;
      memory = c.replace.ensures.memory inside.places invariant.memory;
      memory_above = c.replace.ensures.memory_above inside.places (rw c.as_mut_slice.ensures.value invariant.memory_above);
      reached = rw (c.replace.ensures.count, c.as_mut_slice.ensures.value) invariant.reached;
      within = rw c.replace.ensures.len invariant.within;
      fits = rw c.replace.ensures.numbers (rw (← c.self.view_is) at c.requires.fits);
    })
