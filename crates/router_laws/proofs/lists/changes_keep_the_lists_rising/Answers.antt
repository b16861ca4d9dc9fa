use Rattle.router_laws.proofs.OrderedLemmas.{ordered_after}
use Rattle.router_laws.proofs.lists.changes_keep_the_lists_rising.Goals as goal

-- src/lists.rt:11:1
pub returns : goal.returns
returns c = ordered_after
