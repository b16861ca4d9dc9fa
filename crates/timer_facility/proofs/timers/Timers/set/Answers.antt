-- the new timer has the greatest number
use Rattle.std.proofs.Common.{refl, ◌∙◌}
use Rattle.router_state.specs.declared.rows.Timer.{Timer}
use Rattle.rows_sorted.proofs.NumberLemmas.{below_pushed}
use Rattle.timer_facility.proofs.KeptLemmas.{next_is_free, next_stands_last}
use Rattle.timer_facility.proofs.timers.Timers.set.Goals as goal

pub add-requires-clause-absent : goal.add-requires-clause-absent
add-requires-clause-absent c = next_is_free c.self.inside.next c.self.inside.rows.timers c.self.invariant

pub invariant_of-self : goal.invariant_of-self
invariant_of-self c =
    rw (c.add.ensures.timers ∙ next_stands_last _ c.self.inside.rows.timers c.self.invariant) (below_pushed (λ (row : Timer). row.number.0) c.self.inside.next _ c.self.inside.rows.timers refl c.self.invariant)

pub returns-clause-timers : goal.returns-clause-timers
returns-clause-timers c = rw (← c.self.view_is) (c.add.ensures.timers ∙ next_stands_last _ c.self.inside.rows.timers c.self.invariant)
