use Rattle.std.proofs.Common.{inl, inr, sym}
use Rattle.slee_run.proofs.TopLemmas.{of_four}
use Rattle.slee_run.proofs.TogetherLemmas.{complete_together, run_of_many, together_failed}
use Rattle.slee_run.proofs.starting.run_many.Goals as goal

pub returns-clause-headline : goal.returns-clause-headline
returns-clause-headline g c =
    run_of_many _ c.in-Some.crew _ _ _ _ (g.D.Disk.disk c.args.disk) (g.D.Disk.disk c.play_sources.result.1) _ (sym c.in-Some.ensures.crew) c.play_sources.ensures.played

pub returns-clause-complete : goal.returns-clause-complete
returns-clause-complete g c =
    let played = c.play_sources.ensures.played in
    complete_together _ _ _ _ _ _ (g.D.Disk.disk c.args.disk) (g.D.Disk.disk c.play_sources.result.1) _ _ played (λ is. of_four _ _ _ _ (c.play_sources.ensures.read is)) (λ is. inr (inr (inl (c.play_sources.ensures.write is))))
    (λ is. inr (inr (inr (together_failed _ _ _ _ _ _ (g.D.Disk.disk c.args.disk) (g.D.Disk.disk c.play_sources.result.1) _ played is))))
