use Rattle.slee_run.proofs.RestLemmas.{goes_on, nearer}
use Rattle.slee_run.proofs.many.play_rest.Goals as goal

pub entries-preserved : goal.entries-preserved
entries-preserved g c = goes_on c.args.container.now c.entries.container c.advance.new.container c.entries.invariant c.advance.ensures.setup c.in-None-advance.ensures.advances

pub entries-smaller : goal.entries-smaller
entries-smaller g c = nearer c.args.container.now c.entries.container c.advance.new.container c.entries.invariant c.advance.ensures.setup c.in-None-advance.ensures.advances
