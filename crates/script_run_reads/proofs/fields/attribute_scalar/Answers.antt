use Rattle.std.proofs.Common.{rules}
use Rattle.script_run_machine.specs.Settings.{setting_of}
use Rattle.script_run_machine.specs.Machines.{state_of}
use Rattle.script_run_machine.proofs.FoundLemmas.{found_there}
use Rattle.script_run_reads.proofs.OverlayLemmas.{attribute_given}
use Rattle.script_run_reads.proofs.fields.attribute_scalar.Goals as goal

pub returns-clause-finds : goal.returns-clause-finds
returns-clause-finds g c =
    found_there g.T.Scalar.value_of g.T.Scalar.is_other _ _ c.look.new.self c.within.result (attribute_given (setting_of c.args.scene.now) c.args.key.now.name c.args.kind c.args.activity (state_of c.args.machine.now) (state_of c.look.new.self) _ _ (search rules) c.lend_property-lent.ensures) c.within.ensures
