use Rattle.std.proofs.Common.{◌∙◌}
use Rattle.std.specs.List.{list_any}
use Rattle.router_state.specs.declared.rows.Link.{Link}
use Rattle.activity_context.proofs.LinkLemmas.{link_is}
use Rattle.activity_context.proofs.links.has_link.Goals as goal

pub returns : goal.returns
returns c = c.has_row_of_pair.ensures ∙ (λ i. list_any (λ (l : Link). link_is c.args.entity.0 c.args.activity.0 l i) c.args.rows.now.rows)
