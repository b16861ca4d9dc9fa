use Rattle.std.proofs.Common.{◌∙◌, ap, length, subst, sym}
use Rattle.slee_run.specs.Status.{row_of}
use Rattle.slee_run.specs.Text.{IsReachedTime}
use Rattle.slee_run.specs.declared.status.Status.{Status}
use Rattle.slee_run.proofs.AnswerLemmas.{end_reached, end_unwritten, late_end, opened_played, refused_played, unopened_late, unopened_unwritten}
use Rattle.slee_run.proofs.running.play_document.Goals as goal

pub play-end-requires-clause-history : goal.play-end-requires-clause-history
play-end-requires-clause-history g c = c.in-Ok.ensures.starts.opened.history

pub play-end-requires-clause-acked : goal.play-end-requires-clause-acked
play-end-requires-clause-acked g c = c.in-Ok.ensures.starts.opened.acked

pub play-end-requires-clause-taken : goal.play-end-requires-clause-taken
play-end-requires-clause-taken g c = c.in-Ok.ensures.kept.lines.within

pub play-end-requires-clause-claims : goal.play-end-requires-clause-claims
play-end-requires-clause-claims g c = c.in-Ok.ensures.starts.claims

pub play-end-requires-clause-live : goal.play-end-requires-clause-live
play-end-requires-clause-live g c = c.in-Ok.ensures.starts.opened.stop

pub finish-status-requires-clause-unwritten : goal.finish-status-requires-clause-unwritten
finish-status-requires-clause-unwritten g c = λ is. end_unwritten c.len.result c.play-end.result (sym c.status_after-stood.ensures ∙ is)

pub finish-status-requires-clause-reached : goal.finish-status-requires-clause-reached
finish-status-requires-clause-reached g c = subst (λ (s : Status). IsReachedTime (row_of s).time) (sym c.status_after-stood.ensures) (end_reached c.len.result c.play-end.result)

pub returns-in-Err-clause-played : goal.returns-in-Err-clause-played
returns-in-Err-clause-played g c =
    refused_played _ _ _ (g.D.Disk.disk c.args.disk) (g.D.Disk.disk c.in-Err.disk) c.in-Err.stood _ c.in-Err.ensures.refused c.refuse.ensures.output
    c.args.run.mode c.args.run.steps c.args.run.report c.args.lines.now

pub returns-in-Err-clause-write : goal.returns-in-Err-clause-write
returns-in-Err-clause-write g c = λ is.
    c.refuse.ensures.write (λ e. unopened_unwritten _ _ _ (g.D.Disk.disk c.args.disk) (g.D.Disk.disk c.in-Err.disk) c.in-Err.stood _ c.in-Err.ensures.refused c.refuse.ensures.output e) is

pub returns-in-Err-clause-late : goal.returns-in-Err-clause-late
returns-in-Err-clause-late g c = λ early. unopened_late _ _ _ (g.D.Disk.disk c.args.disk) (g.D.Disk.disk c.in-Err.disk) c.in-Err.stood _ c.in-Err.ensures.refused c.refuse.ensures.output early

pub returns-clause-played : goal.returns-clause-played
returns-clause-played g c =
    let ok = c.in-Ok.ensures in
    let p = c.play-end.ensures in
    opened_played g.D.Disk.disk _ (g.D.Disk.disk c.args.disk) c.in-Ok.container c.args.run.mode c.args.run.steps c.args.lines.now ok.starts
    c.play-end.new.container c.into_disk.result c.play-end.result c.len.result c.args.run.report _ _ _ _ c.into_disk.ensures.kept c.into_disk.ensures.disk p.setup p.played p.stop p.whole p.room
    (c.len.ensures ∙ ap length c.history.ensures.entries) c.status_after-stood.ensures c.finish-status.ensures.finished

pub returns-clause-write : goal.returns-clause-write
returns-clause-write g c = c.finish-status.ensures.write

pub returns-clause-late : goal.returns-clause-late
returns-clause-late g c = λ early. late_end c.len.result c.play-end.result _ _ c.status_after-stood.ensures c.finish-status.ensures.which early
