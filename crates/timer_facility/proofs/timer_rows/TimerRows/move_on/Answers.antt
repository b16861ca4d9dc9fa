-- the timer is behind its due occurrences, and so is its entry
use Rattle.std.proofs.Common.{ap, ◌∙◌, arith}
use Rattle.std.proofs.lemmas.Bool.{or_left}
use Rattle.rows_sorted.specs.Orders.{put}
use Rattle.router_state.specs.declared.rows.Timer.{Timer}
use Rattle.rows_sorted.specs.Keys.{key_before}
use Rattle.router_state.specs.Keys.{timer_key}
use Rattle.rows_sorted.proofs.NumberLemmas.{rises_map}
use Rattle.rows_index.proofs.IndexLemmas.{index_map}
use Rattle.timer_facility.specs.Indexed.{activity_entry, moved_on}
use Rattle.timer_facility.proofs.AdvanceLemmas.{activities_keep, each_keeps, entry_there, indexed_moved, moved_put, timer_there}
use Rattle.timer_facility.proofs.timer_rows.TimerRows.move_on.Goals as goal

pub move_entry-requires : goal.move_entry-requires
move_entry-requires c =
    let found = rw (← c.self.view_is) at c.requires.at in
    rw c.moment_entry.ensures (entry_there c.args.timer.number.0 c.args.timer c.self.inside.rows.rows c.self.inside.by_moment.rows c.self.invariant.rises c.self.invariant.moments found)

pub put_row-requires : goal.put_row-requires
put_row-requires c =
    let found = rw (← c.self.view_is) at c.requires.at in
    rw c.use_up.ensures (or_left _ _ (timer_there c.args.timer c.self.inside.rows.rows found))

pub invariant_of-self : goal.invariant_of-self
invariant_of-self c =
    let n = c.args.timer.number.0 in
    let rows = c.self.inside.rows.rows in
    let found = rw (← c.self.view_is) at c.requires.at in
    let is = c.put_row.ensures.rows ∙ ap (λ (t : Timer). put (λ x y. key_before (timer_key x) (timer_key y)) t rows) c.use_up.ensures ∙ moved_put c.args.to c.args.timer rows c.self.invariant.rises found in
    record {
      rises = rw is (rises_map timer_key (moved_on n c.args.to) (λ x. each_keeps n c.args.to x) rows c.self.invariant.rises);
      moments = rw (is, c.move_entry.ensures.rows, c.use_up.ensures, c.moment_entry.ensures) (indexed_moved n c.args.to c.args.timer rows c.self.invariant.rises found c.self.inside.by_moment.rows c.self.invariant.moments);
      activities = rw is (index_map activity_entry (moved_on n c.args.to) rows c.self.inside.by_activity.rows c.self.invariant.activities (activities_keep n c.args.to rows));
    }

pub returns-clause-timers : goal.returns-clause-timers
returns-clause-timers c =
    let found = rw (← c.self.view_is) at c.requires.at in
    rw (← c.self.view_is) (c.put_row.ensures.rows ∙ ap (λ (t : Timer). put (λ x y. key_before (timer_key x) (timer_key y)) t c.self.inside.rows.rows) c.use_up.ensures ∙ moved_put c.args.to c.args.timer c.self.inside.rows.rows c.self.invariant.rises found)

pub returns-clause-room : goal.returns-clause-room
returns-clause-room c =
    let found = rw (← c.self.view_is) at c.requires.at in
    let there = timer_there c.args.timer c.self.inside.rows.rows found in
    let kept = c.put_row.ensures.replaced (rw c.use_up.ensures there) in
    rw (← c.self.view_is) (omega (arith, kept, c.move_entry.ensures.room))
