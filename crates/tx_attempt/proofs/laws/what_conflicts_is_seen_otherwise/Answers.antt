use Rattle.tx_attempt.proofs.HoldsLemmas.{conflict_differs}
use Rattle.tx_attempt.proofs.laws.what_conflicts_is_seen_otherwise.Goals as goal

pub returns : goal.returns
returns c = λ seen_at known key saw found h. conflict_differs seen_at known key saw found h
