-- one timer goes after the other, until none is on the activity
use Rattle.std.proofs.Common.{List, ◌==◌, sym, ap, ◌∙◌, arith}
use Rattle.router_state.specs.Timers.{without_timers_on}
use Rattle.router_state.specs.declared.rows.Timer.{Timer}
use Rattle.router_state.proofs.AgreeLemmas.{timer_order}
use Rattle.rows_index.proofs.RowLemmas.{all_stay, cut_fewer, each_fails}
use Rattle.timer_facility.proofs.RowLemmas.{cut_on_later, found_there}
use Rattle.timer_facility.proofs.timer_rows.TimerRows.cut_on.Goals as goal

pub timers-smaller : goal.timers-smaller
timers-smaller c =
    let there = found_there (λ (t : Timer). t.activity.0 == c.args.activity.0) c.timers.self.timers c.in-Some.timer.0 c.in-Some.ensures.first in
    rw c.cut.ensures.timers (cut_fewer (λ (t : Timer). t.number.0) c.in-Some.timer.0 there.0 c.timers.self.timers there.1)

pub timers-preserved : goal.timers-preserved
timers-preserved c =
    let a = c.args.activity.0 in
    let rows = c.timers.self.timers in
    let there = found_there (λ (t : Timer). t.activity.0 == a) rows c.in-Some.timer.0 c.in-Some.ensures.first in
    let rises = timer_order rows ∙ c.in-Some.ensures.rises in
    record {
      same = ap (λ (left : List Timer). without_timers_on left a) c.cut.ensures.timers ∙ cut_on_later c.in-Some.timer.0 a there.0 rows rises there.1 there.2 ∙ c.timers.invariant.same;
      room = omega (arith, c.timers.invariant.room, c.cut.ensures.room);
    }

pub returns-clause-timers : goal.returns-clause-timers
returns-clause-timers c =
    let test = λ (t : Timer). t.activity.0 == c.args.activity.0 in
    sym (all_stay test c.timers.self.timers (each_fails test c.timers.self.timers c.in_default.ensures.first)) ∙ c.timers.invariant.same
