use Rattle.slee_run.proofs.DeterminedLemmas.{determined}
use Rattle.slee_run.proofs.laws.run_is_determined.Goals as goal

pub returns : goal.returns
returns g c = determined (g.D.Disk.disk c.args.found.now) (g.D.Disk.disk c.args.one.now) (g.D.Disk.disk c.args.other.now)
