-- what is fired of the timers that are due is all that is fired
use Rattle.std.proofs.Common.{List, ap, ◌∙◌, arith}
use Rattle.std.specs.Cmp.{IsStrictWeakOrder}
use Rattle.std.specs.List.{flat_map}
use Rattle.std.proofs.lemmas.Bool.Decides.{nat_tests}
use Rattle.std.proofs.lemmas.Result.{IfOk-weaker}
use Rattle.rows_sorted.specs.Orders.{sorted}
use Rattle.router_state.specs.Timing.{occurrence_before}
use Rattle.rows_index.specs.declared.entry.Entry.{Entry}
use Rattle.timer_facility.specs.Indexed.{fired_at}
use Rattle.timer_facility.proofs.FiredLemmas.{list_is}
use Rattle.timer_facility.proofs.timer_rows.TimerRows.list_of_fired.Goals as goal

ranks : IsStrictWeakOrder occurrence_before
ranks = record {
  one_way = λ x y before. grind (arith, nat_tests);
  chain = λ x y z one two. grind (arith, nat_tests);
}

pub returns : goal.returns
returns c =
    let rows = c.self.inside.rows.rows in
    let run = c.rows_up_to-run.ensures in
    let list = c.list_of_all.ensures in
    rw (← c.self.view_is)
    (IfOk-weaker c.list_of_all.result _ _ (λ all h. h ∙ ap (λ (run : List Entry). sorted occurrence_before (flat_map (fired_at rows c.args.to) run)) run
    ∙ list_is c.args.to rows c.self.inside.by_moment.rows c.self.invariant.rises c.self.invariant.moments ranks) list)
