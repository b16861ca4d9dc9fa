-- by activity, then by entity
use Rattle.std.proofs.Common.{◌∙◌}
use Rattle.router_state.proofs.AgreeLemmas.{link_put}
use Rattle.activity_context.proofs.links.put_link.Goals as goal

pub returns-clause-rows : goal.returns-clause-rows
returns-clause-rows c = c.put_row.ensures.rows ∙ link_put _ c.args.rows.now.rows
