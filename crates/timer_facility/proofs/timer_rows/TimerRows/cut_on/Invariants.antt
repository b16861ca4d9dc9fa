-- the timers on the activity that are still there are yet to be cut
use Rattle.std.proofs.Common.{◌≡◌, ◌≤◌, length}
use Rattle.router_state.specs.Timers.{without_timers_on}
use Rattle.timer_facility.proofs.timer_rows.TimerRows.cut_on.Given as goal

abbrev pub invariant-timers : goal.invariant-timers
invariant-timers l = record {
  same : without_timers_on l.self.timers l.activity.0 ≡ without_timers_on l.fn.self.timers l.activity.0;
  room : l.fn.self.room ≤ l.self.room;
}

abbrev pub decreases-timers : goal.decreases-timers
decreases-timers l = length l.self.timers
