-- those that are left stay below the next number
use Rattle.router_state.specs.declared.rows.Timer.{Timer}
use Rattle.rows_sorted.proofs.NumberLemmas.{below_filter}
use Rattle.timer_facility.proofs.timers.Timers.cancel.Goals as goal

pub invariant_of-self : goal.invariant_of-self
invariant_of-self c = rw c.cut.ensures.timers (below_filter (λ (row : Timer). row.number.0) c.self.inside.next _ c.self.inside.rows.timers c.self.invariant)
