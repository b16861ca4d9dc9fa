-- each index has the new timer
use Rattle.std.proofs.Common.{◌∙◌, refl}
use Rattle.router_state.specs.declared.rows.Timer.{Timer}
use Rattle.router_state.proofs.AgreeLemmas.{timer_put}
use Rattle.router_state.specs.Keys.{timer_key}
use Rattle.rows_index.proofs.RowLemmas.{indexed_put}
use Rattle.timer_facility.proofs.timer_rows.TimerRows.add.Goals as goal

pub invariant_of-self : goal.invariant_of-self
invariant_of-self c =
    let absent = rw (← c.self.view_is) at c.requires.absent in
    record {
      rises = c.put_row-3.ensures.rises;
      moments = rw (c.put_row.ensures.rows, c.moment_entry.ensures) (indexed_put (λ (t : Timer). t.number.0) (λ (t : Timer). t.next) timer_key (λ x. refl) c.args.timer c.self.inside.rows.rows _ c.self.inside.by_moment.rows c.self.invariant.rises c.self.invariant.moments absent c.put_row-3.ensures.rows);
      activities = rw (c.put_row-2.ensures.rows, c.activity_entry.ensures) (indexed_put (λ (t : Timer). t.number.0) (λ (t : Timer). t.activity.0) timer_key (λ x. refl) c.args.timer c.self.inside.rows.rows _ c.self.inside.by_activity.rows c.self.invariant.rises c.self.invariant.activities absent c.put_row-3.ensures.rows);
    }

pub returns-clause-timers : goal.returns-clause-timers
returns-clause-timers c = rw (← c.self.view_is) (c.put_row-3.ensures.rows ∙ timer_put c.args.timer c.self.inside.rows.rows)
