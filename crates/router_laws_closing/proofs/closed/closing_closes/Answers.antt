use Rattle.router_laws_closing.proofs.ClosedLemmas.{closing_closed}
use Rattle.router_laws_closing.proofs.closed.closing_closes.Goals as goal

pub returns : goal.returns
returns c = closing_closed
