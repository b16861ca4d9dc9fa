use Rattle.router_laws_keepable.proofs.Keepable.{keepable_read}
use Rattle.router_laws_keepable.proofs.reading.deployments_can_be_kept.Goals as goal

pub returns : goal.returns
returns c bytes d = keepable_read bytes d
