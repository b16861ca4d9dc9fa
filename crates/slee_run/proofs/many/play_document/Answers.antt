use Rattle.std.proofs.Common.{◌∙◌, ap, length, subst, sym}
use Rattle.slee_run.specs.Status.{row_of}
use Rattle.slee_run.specs.Text.{IsReachedTime}
use Rattle.slee_run.specs.declared.status.Status.{Status}
use Rattle.slee_run.proofs.AnswerLemmas.{end_reached, end_unwritten, late_end, refused_played, unopened_late, unopened_unwritten}
use Rattle.slee_run.specs.declared.finishing.Report.TheVariants as reports
use Rattle.slee_run.proofs.ManyLemmas.{opened_together, together_of}
use Rattle.slee_run.proofs.many.play_document.Goals as goal

pub finish-status-requires-clause-unwritten : goal.finish-status-requires-clause-unwritten
finish-status-requires-clause-unwritten g c = λ is. end_unwritten c.len.result c.play_shared-container.result.1 (sym c.status_after-stood.ensures ∙ is)

pub finish-status-requires-clause-reached : goal.finish-status-requires-clause-reached
finish-status-requires-clause-reached g c = subst (λ (s : Status). IsReachedTime (row_of s).time) (sym c.status_after-stood.ensures) (end_reached c.len.result c.play_shared-container.result.1)

pub returns-in-Err-clause-played : goal.returns-in-Err-clause-played
returns-in-Err-clause-played g c =
    together_of _ c.args.crew.mode c.args.crew.steps c.args.lines.now _ _ (g.D.Disk.disk c.args.disk) (g.D.Disk.disk c.in-Err.disk) _
    (refused_played _ _ _ (g.D.Disk.disk c.args.disk) (g.D.Disk.disk c.in-Err.disk) c.in-Err.stood _ c.in-Err.ensures.refused c.refuse.ensures.output c.args.crew.mode c.args.crew.steps reports.Trace c.args.lines.now)

pub returns-in-Err-clause-write : goal.returns-in-Err-clause-write
returns-in-Err-clause-write g c = λ is.
    c.refuse.ensures.write (λ e. unopened_unwritten _ _ _ (g.D.Disk.disk c.args.disk) (g.D.Disk.disk c.in-Err.disk) c.in-Err.stood _ c.in-Err.ensures.refused c.refuse.ensures.output e) is

pub returns-in-Err-clause-late : goal.returns-in-Err-clause-late
returns-in-Err-clause-late g c = λ early. unopened_late _ _ _ (g.D.Disk.disk c.args.disk) (g.D.Disk.disk c.in-Err.disk) c.in-Err.stood _ c.in-Err.ensures.refused c.refuse.ensures.output early

pub returns-clause-played : goal.returns-clause-played
returns-clause-played g c =
    let ok = c.in-Ok.ensures in
    let p = c.play_shared-container.ensures in
    opened_together g.D.Disk.disk _ (g.D.Disk.disk c.args.disk) c.in-Ok.container c.args.crew.mode c.args.crew.steps c.args.lines.now ok.starts ok.kept c.kept.ensures.run c.kept.ensures.lines c.requires.crew.steps
    c.play_shared-container.result.0 c.into_disk.result c.play_shared-container.result.1 c.len.result _ _ _ _ c.into_disk.ensures.kept c.into_disk.ensures.disk p.setup c.kept-2.ensures.run c.kept-2.ensures.lines p.down p.stands p.whole
    (c.len.ensures ∙ ap length c.history.ensures.entries) c.status_after-stood.ensures c.finish-status.ensures.finished

pub returns-clause-write : goal.returns-clause-write
returns-clause-write g c = c.finish-status.ensures.write

pub returns-clause-late : goal.returns-clause-late
returns-clause-late g c = λ early. late_end c.len.result c.play_shared-container.result.1 _ _ c.status_after-stood.ensures c.finish-status.ensures.which early
