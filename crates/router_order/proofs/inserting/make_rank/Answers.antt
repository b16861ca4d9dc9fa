-- the attachments stay listed while they are spread
use Rattle.std.proofs.Common.{List, subst, sym}
use Rattle.router_state.specs.declared.rows.Link.{Link}
use Rattle.router_order.specs.Listed.{IsListing}
use Rattle.router_order.proofs.inserting.make_rank.Goals as goal

pub rank_for-requires-in-None : goal.rank_for-requires-in-None
rank_for-requires-in-None c = subst (λ (links : List Link). IsListing c.args.tree.now.rows links) (sym c.spread_near.ensures.rows) c.requires
