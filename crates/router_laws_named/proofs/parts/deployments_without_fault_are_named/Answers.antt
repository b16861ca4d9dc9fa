use Rattle.router_laws_named.proofs.Deployments.{named_parts}
use Rattle.router_laws_named.proofs.parts.deployments_without_fault_are_named.Goals as goal

pub returns : goal.returns
returns c = named_parts
