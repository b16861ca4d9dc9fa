-- the activities that are ready are those that may have a choice
use Rattle.std.proofs.Common.{map, ◌∙◌}
use Rattle.router_choice.proofs.LeastLemmas.{least_is}
use Rattle.router_choice.proofs.claims.least.Goals as goal

pub returns : goal.returns
returns c = c.first_free.ensures ∙ least_is c.args.stores.now.state (map (λ a. a.0) c.args.claimed.now) c.ready.result c.ready.ensures c.ordered.ensures.activities
