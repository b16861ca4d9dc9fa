-- as they are kept
use Rattle.std.proofs.Common.{sym, ◌∙◌}
use Rattle.router_state.proofs.AgreeLemmas.{timer_order}
use Rattle.timer_facility.proofs.timer_rows.TimerRows.len.Goals as goal

pub returns-clause-rises : goal.returns-clause-rises
returns-clause-rises c = rw (← c.self.view_is) (sym (timer_order c.self.inside.rows.rows) ∙ c.self.invariant.rises)
