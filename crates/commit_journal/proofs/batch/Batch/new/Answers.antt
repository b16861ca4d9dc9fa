use Rattle.std.proofs.Common.{◌++◌, ◌∷◌, [], List, ℕ, ap, ◌∙◌}
use Rattle.commit_journal.specs.Batch.{payloads_in}
use Rattle.commit_journal.proofs.Batches.{none_is_batch, payloads_in_none}
use Rattle.commit_journal.proofs.batch.Batch.new.Goals as goal

pub invariant_of-result : goal.invariant_of-result
invariant_of-result c = none_is_batch _ (c.in_ok-push.ensures.items ∙ ap (λ (l : List ℕ). l ++ 0 ∷ []) c.new-bytes.ensures.items)

pub returns : goal.returns
returns c = ap payloads_in (c.in_ok-push.ensures.items ∙ ap (λ (l : List ℕ). l ++ 0 ∷ []) c.new-bytes.ensures.items) ∙ payloads_in_none
