use Rattle.std.proofs.Common.{sym, subst}
use Rattle.script_types.specs.declared.checked_step.OnTimers.{OnTimers}
use Rattle.script_types.specs.ProgramOf.{on_timers_of}
use Rattle.script_meaning.specs.Doing.{on_timers}
use Rattle.script_run_machine.specs.Agreeing.{Agrees}
use Rattle.script_run_machine.specs.Settings.{setting_of}
use Rattle.script_run_steps.proofs.timers.do_on_timers.Goals as goal

pub returns-in-Start-clause-agrees : goal.returns-in-Start-clause-agrees
returns-in-Start-clause-agrees c =
    subst (λ (x : OnTimers). Agrees (on_timers (setting_of c.args.scene.now) (on_timers_of x)) c.args.machine.now c.start_timer.new.machine c.start_timer.result) (sym c.in-Start.is) (rw c.deref.ensures at c.start_timer.ensures.agrees)
