use Rattle.std.proofs.Common.{◌-◌, length}
use Rattle.slee_run.proofs.RestLemmas.{IsOn}
use Rattle.slee_run.proofs.many.play_rest.Given as goal

abbrev pub invariant-entries : goal.invariant-entries
invariant-entries g l = IsOn l.fn.container l.container

abbrev pub decreases-entries : goal.decreases-entries
decreases-entries g l = l.fn.container.setup.steps - length l.container.history
