use Rattle.slee_run.proofs.SumLemmas.{space_found, space_missing}
use Rattle.slee_run.proofs.summing.behind_space.Goals as goal

pub returns-in-Some : goal.returns-in-Some
returns-in-Some c = space_found c.args.line.now c.in-Some.end c.in-Some.ensures

pub returns-in-None : goal.returns-in-None
returns-in-None c = space_missing c.args.line.now c.in-None.ensures
