use Rattle.std.proofs.Common.{◌∙◌}
use Rattle.std.specs.Prelude.{not}
use Rattle.std.specs.List.{filter}
use Rattle.router_state.specs.declared.rows.Link.{Link}
use Rattle.activity_context.proofs.LinkLemmas.{link_is}
use Rattle.activity_context.proofs.links.cut_link.Goals as goal

pub returns-clause-rows : goal.returns-clause-rows
returns-clause-rows c = c.cut_rows_of_pair.ensures.rows ∙ (λ i. filter (λ (l : Link). not (link_is c.args.entity.0 c.args.activity.0 l i)) c.args.rows.now.rows)
