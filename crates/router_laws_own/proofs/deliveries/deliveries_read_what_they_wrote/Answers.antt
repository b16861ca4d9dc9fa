use Rattle.router_laws_own.proofs.OwnDeliveries.{legal_sees}
use Rattle.router_laws_own.proofs.deliveries.deliveries_read_what_they_wrote.Goals as goal

pub returns : goal.returns
returns c = legal_sees
