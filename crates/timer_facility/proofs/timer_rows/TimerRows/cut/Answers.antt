-- the timer goes with its entries, or there is none
use Rattle.std.proofs.Common.{sym, ◌==◌, ◌∙◌, refl}
use Rattle.std.specs.Prelude.{filter, not}
use Rattle.router_state.specs.declared.rows.Timer.{Timer}
use Rattle.rows_index.proofs.FoundLemmas.{none_at}
use Rattle.router_state.specs.Keys.{timer_key}
use Rattle.rows_sorted.proofs.ChangeLemmas.{number_is}
use Rattle.rows_index.proofs.RowLemmas.{all_stay, indexed_cut}
use Rattle.timer_facility.proofs.timer_rows.TimerRows.cut.Goals as goal

pub invariant_of-self : goal.invariant_of-self
invariant_of-self c =
    let n = c.args.timer.0 in
    let rows = c.self.inside.rows.rows in
    let found = sym c.in-Some.ensures in
    let is = c.cut_row-in-Some-2.ensures.rows ∙ (λ i. filter (λ (row : Timer). not (number_is row.number.0 n i)) rows) in
    record {
      rises = c.cut_row-in-Some-2.ensures.rises;
      moments = rw (is, c.cut_row.ensures.rows) (indexed_cut (λ (t : Timer). t.number.0) (λ (t : Timer). t.next) timer_key (λ x. refl) n _ rows c.self.inside.by_moment.rows c.self.invariant.rises c.self.invariant.moments found);
      activities = rw (is, c.cut_row-in-Some.ensures.rows) (indexed_cut (λ (t : Timer). t.number.0) (λ (t : Timer). t.activity.0) timer_key (λ x. refl) n _ rows c.self.inside.by_activity.rows c.self.invariant.rises c.self.invariant.activities found);
    }

pub returns-in-Some-clause-timers : goal.returns-in-Some-clause-timers
returns-in-Some-clause-timers c =
    rw (← c.self.view_is) (c.cut_row-in-Some-2.ensures.rows ∙ (λ i. filter (λ (row : Timer). not (number_is row.number.0 c.args.timer.0 i)) c.self.inside.rows.rows))

pub returns-in-None-clause-timers : goal.returns-in-None-clause-timers
returns-in-None-clause-timers c =
    let n = c.args.timer.0 in
    rw (← c.self.view_is) (sym (all_stay (λ (row : Timer). row.number.0 == n) c.self.inside.rows.rows (none_at (λ (row : Timer). row.number.0 == n) c.self.inside.rows.rows (sym c.in-None.ensures))))
