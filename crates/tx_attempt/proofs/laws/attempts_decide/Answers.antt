use Rattle.tx_attempt.proofs.HoldsLemmas.{holds_decides}
use Rattle.tx_attempt.proofs.laws.attempts_decide.Goals as goal

pub returns : goal.returns
returns c = λ seen_at known program number e a event fields delivery h done. holds_decides seen_at known program number e a event fields delivery h done
