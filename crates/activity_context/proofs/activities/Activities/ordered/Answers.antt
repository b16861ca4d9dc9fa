-- as they are kept
use Rattle.std.proofs.Common.{sym, ◌∙◌}
use Rattle.router_state.proofs.AgreeLemmas.{activity_order}
use Rattle.activity_context.proofs.activities.Activities.ordered.Goals as goal

pub returns : goal.returns
returns c = rw (← c.self.view_is) (sym (activity_order c.self.inside.rows.rows) ∙ c.self.invariant.rises)
