use Rattle.std.proofs.Common.{sym, subst}
use Rattle.script_types.specs.declared.checked_step.OnActivities.{OnActivities}
use Rattle.script_types.specs.ProgramOf.{on_activities_of}
use Rattle.script_meaning.specs.Doing.{on_activities}
use Rattle.script_run_machine.specs.Agreeing.{Agrees}
use Rattle.script_run_machine.specs.Settings.{setting_of}
use Rattle.script_run_steps.proofs.activities.do_on_activities.Goals as goal

pub returns-in-Mask-clause-agrees : goal.returns-in-Mask-clause-agrees
returns-in-Mask-clause-agrees c =
    subst (λ (x : OnActivities). Agrees (on_activities (setting_of c.args.scene.now) (on_activities_of x)) c.args.machine.now c.set_mask.new.machine c.set_mask.result) (sym c.in-Mask.is) c.set_mask.ensures.agrees
