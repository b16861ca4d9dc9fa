use Rattle.tx_attempt.proofs.HoldsLemmas.{no_conflict}
use Rattle.tx_attempt.proofs.laws.what_does_not_conflict_holds.Goals as goal

pub returns : goal.returns
returns c = λ seen_at known h. no_conflict seen_at known h
