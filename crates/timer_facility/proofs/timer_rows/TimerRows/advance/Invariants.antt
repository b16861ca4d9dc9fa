-- what is behind the last entry is left to be done
use Rattle.std.proofs.Common.{◌≡◌, ◌≤◌}
use Rattle.std.specs.List.{count_by}
use Rattle.router_state.specs.Timers.{advanced}
use Rattle.timer_facility.specs.Indexed.{is_left}
use Rattle.timer_facility.proofs.WalkLemmas.{done_behind}
use Rattle.timer_facility.proofs.timer_rows.TimerRows.advance.Given as goal

abbrev pub invariant-due : goal.invariant-due
invariant-due l = record {
  same : done_behind l.last l.to l.self.timers ≡ advanced l.fn.self.timers l.to;
  room : l.fn.self.room ≤ l.self.room;
}

abbrev pub decreases-due : goal.decreases-due
decreases-due l = count_by (is_left l.last l.to) l.self.timers
