use Rattle.std.proofs.Common.{inl, inr}
use Rattle.slee_run.proofs.OrderlyLemmas.{orderly}
use Rattle.slee_run.proofs.TopLemmas.{of_four}
use Rattle.slee_run.proofs.RunLemmas.{complete, complete_trial, check_whole, complete_task}
use Rattle.slee_run.proofs.top.run_one.Goals as goal

pub returns-clause-headline : goal.returns-clause-headline
returns-clause-headline g c = orderly _ _ _ _ _ _ _ _ c.answer.ensures.headline

pub returns-clause-complete : goal.returns-clause-complete
returns-clause-complete g c =
    complete _ _ _ _ _ _ _ _ _ c.answer.ensures.headline (λ is. of_four _ _ _ _ (c.answer.ensures.read is)) (λ is. inr (inr (inl (c.answer.ensures.write is)))) (λ is. inr (inr (inr (c.answer.ensures.disk is))))

pub returns-clause-complete_trial : goal.returns-clause-complete_trial
returns-clause-complete_trial g c =
    complete_trial _ _ _ _ _ _ _ _ _ c.answer.ensures.headline (λ is. of_four _ _ _ _ (c.answer.ensures.read is)) (λ is. inr (inr (inl (c.answer.ensures.write is)))) (λ is. inr (inr (inr (c.answer.ensures.disk is))))

pub returns-clause-complete_task : goal.returns-clause-complete_task
returns-clause-complete_task g c =
    complete_task _ _ _ _ _ _ _ _ _ c.answer.ensures.headline (λ is. of_four _ _ _ _ (c.answer.ensures.read is)) (λ is. inr (inr (inl (c.answer.ensures.write is)))) (λ is. inr (inr (inr (c.answer.ensures.disk is))))

pub returns-clause-checked : goal.returns-clause-checked
returns-clause-checked g c =
    check_whole _ _ _ _ _ _ _ _ _ c.answer.ensures.headline (λ is. of_four _ _ _ _ (c.answer.ensures.read is)) (λ is. inr (inr (inl (c.answer.ensures.write is))))

pub answer-requires : goal.answer-requires
answer-requires g c = c.requires
