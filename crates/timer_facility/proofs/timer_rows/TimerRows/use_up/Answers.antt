-- the timer that is found goes on, or is gone
use Rattle.std.proofs.Common.{sym, ap, ◌∙◌}
use Rattle.router_state.specs.Timers.{timer_at}
use Rattle.router_state.specs.declared.rows.Timer.{Timer}
use Rattle.rows_index.proofs.RowLemmas.{found_number}
use Rattle.timer_facility.proofs.WalkLemmas.{used_absent, used_goes, used_moves}
use Rattle.timer_facility.proofs.timer_rows.TimerRows.use_up.Goals as goal

pub move_on-requires-clause-at : goal.move_on-requires-clause-at
move_on-requires-clause-at c =
    let found = sym c.in-Some.ensures in
    let number = found_number (λ (t : Timer). t.number.0) c.args.timer.0 c.in-Some.row.now c.self.inside.rows.rows found in
    rw (← c.self.view_is) (ap (timer_at c.self.inside.rows.rows) number ∙ found)

pub returns-then-goes_on-clause-timers : goal.returns-then-goes_on-clause-timers
returns-then-goes_on-clause-timers c =
    let found = sym c.in-Some.ensures in
    let number = found_number (λ (t : Timer). t.number.0) c.args.timer.0 c.in-Some.row.now c.self.inside.rows.rows found in
    rw (c.move_on.ensures.timers, number, ← c.self.view_is) (used_moves c.args.timer.0 c.args.to c.in-Some.row.now c.self.inside.rows.rows c.self.invariant.rises found (sym c.goes_on.ensures ∙ c.if-goes_on.true))

pub returns-else-goes_on-clause-timers : goal.returns-else-goes_on-clause-timers
returns-else-goes_on-clause-timers c =
    rw (c.cut.ensures.timers, ← c.self.view_is) (used_goes c.args.timer.0 c.args.to c.in-Some.row.now c.self.inside.rows.rows c.self.invariant.rises (sym c.in-Some.ensures) (sym c.goes_on.ensures ∙ c.if-goes_on.false))

pub returns-in-None-clause-timers : goal.returns-in-None-clause-timers
returns-in-None-clause-timers c = rw (← c.self.view_is) (used_absent c.args.timer.0 c.args.to c.self.inside.rows.rows (sym c.in-None.ensures))
