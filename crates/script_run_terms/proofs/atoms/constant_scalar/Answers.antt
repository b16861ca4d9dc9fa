use Rattle.std.proofs.Common.{refl}
use Rattle.script_run_machine.proofs.FoundLemmas.{found_there}
use Rattle.script_run_terms.proofs.atoms.constant_scalar.Goals as goal

pub returns : goal.returns
returns g c =
    found_there g.T.Scalar.value_of g.T.Scalar.is_other _ _ c.args.machine.now c.within.result refl c.within.ensures
