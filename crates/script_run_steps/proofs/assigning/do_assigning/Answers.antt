use Rattle.std.proofs.Common.{sym, subst}
use Rattle.script_types.specs.declared.checked_step.Assigning.{Assigning}
use Rattle.script_types.specs.ProgramOf.{assigning_of}
use Rattle.script_meaning.specs.Doing.{assigns}
use Rattle.script_run_machine.specs.Agreeing.{Agrees}
use Rattle.script_run_machine.specs.Settings.{setting_of}
use Rattle.script_run_steps.proofs.assigning.do_assigning.Goals as goal

pub returns-in-Variable-clause-agrees : goal.returns-in-Variable-clause-agrees
returns-in-Variable-clause-agrees c =
    subst (λ (x : Assigning). Agrees (assigns (setting_of c.args.scene.now) (assigning_of x)) c.args.machine.now c.assign_value.new.machine c.assign_value.result) (sym c.in-Variable.is) c.assign_value.ensures.agrees

pub returns-in-Field-clause-agrees : goal.returns-in-Field-clause-agrees
returns-in-Field-clause-agrees c =
    subst (λ (x : Assigning). Agrees (assigns (setting_of c.args.scene.now) (assigning_of x)) c.args.machine.now c.set_field.new.machine c.set_field.result) (sym c.in-Field.is) c.set_field.ensures.agrees
