-- the entries of the activity lead to its timers
use Rattle.std.proofs.Common.{List, ap, ◌∙◌}
use Rattle.std.specs.List.{flat_map}
use Rattle.std.proofs.lemmas.Result.{IfOk-weaker}
use Rattle.rows_index.specs.declared.entry.Entry.{Entry}
use Rattle.timer_facility.specs.Indexed.{timers_at}
use Rattle.timer_facility.proofs.ListingLemmas.{on_activity_is}
use Rattle.timer_facility.proofs.timer_rows.TimerRows.on_activity.Goals as goal

pub returns : goal.returns
returns c =
    let rows = c.self.inside.rows.rows in
    let run = c.rows_of.ensures in
    let list = c.timers_of.ensures in
    rw (← c.self.view_is)
    (IfOk-weaker c.timers_of.result _ _ (λ all h. h ∙ ap (λ (run : List Entry). flat_map (timers_at rows) run) run
    ∙ on_activity_is c.args.activity.0 rows c.self.inside.by_activity.rows c.self.invariant.rises c.self.invariant.activities) list)
