-- as they are kept
use Rattle.std.proofs.Common.{sym, ◌∙◌}
use Rattle.router_state.proofs.AgreeLemmas.{link_order}
use Rattle.activity_context.proofs.contexts.Contexts.ordered.Goals as goal

pub returns-clause-attributes : goal.returns-clause-attributes
returns-clause-attributes c = rw (← c.self.view_is) c.rises.ensures

pub returns-clause-links : goal.returns-clause-links
returns-clause-links c = rw (← c.self.view_is) (sym (link_order c.self.inside.links.rows) ∙ c.rises-2.ensures)
