use Rattle.router_laws_deployed.proofs.Ranks.{relation_ranks}
use Rattle.router_laws_deployed.proofs.asked.priorities_of_relations_lie_in_their_range.Goals as goal

pub returns : goal.returns
returns c = relation_ranks
