-- the timer stands in its place, and the other one of its number gives way
use Rattle.router_state.specs.declared.rows.Timer.{Timer}
use Rattle.rows_sorted.proofs.NumberLemmas.{below_put}
use Rattle.timer_facility.specs.Views.{timer_before}
use Rattle.timer_facility.proofs.KeptLemmas.{cut_is_free, put_over}
use Rattle.timer_facility.proofs.timers.Timers.restore.Goals as goal

pub add-requires-clause-absent : goal.add-requires-clause-absent
add-requires-clause-absent c = rw c.cut.ensures.timers (cut_is_free c.args.timer.number.0 c.self.inside.rows.timers)

pub invariant_of-self : goal.invariant_of-self
invariant_of-self c =
    let low = rw (← c.self.view_is) at c.requires.below in
    rw (c.add.ensures.timers, c.cut.ensures.timers, put_over c.args.timer c.self.inside.rows.timers) (below_put (λ (row : Timer). row.number.0) c.self.inside.next timer_before c.args.timer c.self.inside.rows.timers low c.self.invariant)

pub returns-clause-timers : goal.returns-clause-timers
returns-clause-timers c = rw (← c.self.view_is, c.add.ensures.timers, c.cut.ensures.timers) (put_over c.args.timer c.self.inside.rows.timers)
