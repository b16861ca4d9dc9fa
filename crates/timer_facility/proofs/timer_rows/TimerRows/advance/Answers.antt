-- the timer of the next entry is done, until no due one is left
use Rattle.std.proofs.Common.{sym, ◌∙◌, arith}
use Rattle.router_state.proofs.AgreeLemmas.{timer_order}
use Rattle.timer_facility.proofs.WalkLemmas.{none_left, step_fewer, step_same}
use Rattle.timer_facility.proofs.timer_rows.TimerRows.advance.Goals as goal

pub due-smaller : goal.due-smaller
due-smaller c =
    rw c.use_up.ensures.timers (step_fewer c.due.last c.args.to c.due.self.timers c.in-Some.entry (timer_order c.due.self.timers ∙ c.in-Some.ensures.rises) c.in-Some.ensures.next)

pub due-preserved : goal.due-preserved
due-preserved c = record {
  same = rw c.use_up.ensures.timers (step_same c.due.last c.args.to c.due.self.timers c.in-Some.entry (timer_order c.due.self.timers ∙ c.in-Some.ensures.rises) c.in-Some.ensures.next ∙ c.due.invariant.same);
  room = omega (arith, c.due.invariant.room, c.use_up.ensures.room);
}

pub returns-clause-timers : goal.returns-clause-timers
returns-clause-timers c = sym (none_left c.due.last c.args.to c.due.self.timers c.in_default.ensures.next) ∙ c.due.invariant.same
