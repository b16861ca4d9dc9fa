use Rattle.std.proofs.Common.{ap}
use Rattle.router_durable.specs.Core.{is_down}
use Rattle.slee_run.proofs.AnswerLemmas.{opened_task, refused_task, unopened_unwritten}
use Rattle.slee_run.proofs.tending.tend_document.Goals as goal

pub do_task-status-requires-clause-none : goal.do_task-status-requires-clause-none
do_task-status-requires-clause-none g c = c.in-Ok.ensures.starts.steps

pub do_task-status-requires-clause-live : goal.do_task-status-requires-clause-live
do_task-status-requires-clause-live g c = ap is_down c.in-Ok.ensures.starts.opened.stop

pub returns-in-Err-clause-done : goal.returns-in-Err-clause-done
returns-in-Err-clause-done g c =
    refused_task _ _ _ (g.D.Disk.disk c.args.disk) (g.D.Disk.disk c.in-Err.disk) c.in-Err.stood _ c.in-Err.ensures.refused c.refuse.ensures.output c.args.task

pub returns-in-Err-clause-write : goal.returns-in-Err-clause-write
returns-in-Err-clause-write g c = λ is.
    c.refuse.ensures.write (λ e. unopened_unwritten _ _ _ (g.D.Disk.disk c.args.disk) (g.D.Disk.disk c.in-Err.disk) c.in-Err.stood _ c.in-Err.ensures.refused c.refuse.ensures.output e) is

pub returns-clause-done : goal.returns-clause-done
returns-clause-done g c =
    let ok = c.in-Ok.ensures in
    opened_task g.D.Disk.disk _ (g.D.Disk.disk c.args.disk) c.in-Ok.container _ _ _ ok.starts
    c.args.task c.do_task-status.new.container c.into_disk.result _ _ _ ok.kept c.into_disk.ensures.kept c.into_disk.ensures.disk c.do_task-status.ensures.done

pub returns-clause-write : goal.returns-clause-write
returns-clause-write g c = c.do_task-status.ensures.write
