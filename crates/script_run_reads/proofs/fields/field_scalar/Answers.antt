use Rattle.std.proofs.Common.{rules, Some}
use Rattle.script_run_machine.specs.Settings.{setting_of}
use Rattle.script_run_machine.specs.Machines.{state_of}
use Rattle.script_run_machine.proofs.FoundLemmas.{found_there}
use Rattle.script_run_reads.proofs.OverlayLemmas.{field_given}
use Rattle.script_run_reads.proofs.fields.field_scalar.Goals as goal

pub returns-clause-finds : goal.returns-clause-finds
returns-clause-finds g c =
    found_there g.T.Scalar.value_of g.T.Scalar.is_other _ _ c.args.machine.now c.within.result (field_given (setting_of c.args.scene.now) c.args.name.now.name c.args.kind (state_of c.args.machine.now) (state_of c.args.machine.now) (Some c.in-Some.seen.now) _ (search rules) c.lend_property-lent.ensures) c.within.ensures
