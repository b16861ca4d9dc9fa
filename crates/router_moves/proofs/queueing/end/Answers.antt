use Rattle.router_moves.proofs.QueueLemmas.{told_ended}
use Rattle.router_moves.proofs.queueing.end.Goals as goal

pub returns-clause-lines : goal.returns-clause-lines
returns-clause-lines g c = told_ended _ _ _ _ _ _ c.in_ok-begin_end.ensures.state c.in_ok-begin_end.ensures.lines c.in_ok-queue_end.ensures.lines
