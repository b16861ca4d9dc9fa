-- the entries up to the moment lead to the timers that are due
use Rattle.std.proofs.Common.{List, map, reverse, ap, ◌∙◌}
use Rattle.std.specs.List.{flat_map}
use Rattle.std.proofs.lemmas.Result.{IfOk-weaker}
use Rattle.router_state.specs.declared.rows.Timer.{Timer}
use Rattle.rows_sorted.specs.Orders.{sorted}
use Rattle.rows_index.specs.declared.entry.Entry.{Entry}
use Rattle.timer_facility.specs.Indexed.{timers_at}
use Rattle.timer_facility.specs.Views.{timer_before}
use Rattle.timer_facility.proofs.ListingLemmas.{due_is}
use Rattle.timer_facility.proofs.timer_rows.TimerRows.activities_due.Goals as goal

pub returns : goal.returns
returns c =
    let rows = c.self.inside.rows.rows in
    let run = c.rows_up_to.ensures in
    let led = c.in_ok-due.ensures in
    let in_order = c.as_slice.ensures.value ∙ c.in_ok-put_by_number.ensures in
    let list = c.activities_of.ensures in
    rw (← c.self.view_is)
    (IfOk-weaker c.activities_of.result _ _ (λ all h. h ∙ ap (map (λ (row : Timer). row.activity.0)) (in_order ∙ ap (λ (xs : List Timer). sorted timer_before (reverse xs)) (led ∙ ap (λ (run : List Entry). flat_map (timers_at rows) run) run)
    ∙ due_is c.args.to rows c.self.inside.by_moment.rows c.self.invariant.rises c.self.invariant.moments)) list)
