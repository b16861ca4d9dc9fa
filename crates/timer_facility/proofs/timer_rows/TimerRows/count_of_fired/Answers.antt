-- what is fired of the timers that are due is all that is fired
use Rattle.std.proofs.Common.{List, length, map, sum, refl, ap, ◌∙◌, arith}
use Rattle.std.specs.Prelude.{nat_le, not}
use Rattle.std.proofs.lemmas.List.Filters.{length-filter_both}
use Rattle.rows_index.specs.declared.entry.Entry.{Entry}
use Rattle.timer_facility.specs.Indexed.{fired_count_at}
use Rattle.timer_facility.proofs.FiredLemmas.{count_is}
use Rattle.timer_facility.proofs.timer_rows.TimerRows.count_of_fired.Goals as goal

pub count_of_all-requires : goal.count_of_all-requires
count_of_all-requires c =
    let both = length-filter_both (λ (e : Entry). nat_le e.key c.args.to) (λ e. not (nat_le e.key c.args.to)) (λ x. refl) c.self.inside.by_moment.rows in
    let is = ap length c.rows_up_to-run.ensures in
    omega (arith, both, is, c.len-most.ensures, c.len-most.type_inv)

pub returns : goal.returns
returns c =
    let run = c.rows_up_to-run.ensures in
    let count = c.count_of_all.ensures in
    rw (← c.self.view_is)
    (count ∙ ap (λ (run : List Entry). sum (map (fired_count_at c.self.inside.rows.rows c.args.to) run)) run
    ∙ count_is c.args.to c.self.inside.rows.rows c.self.inside.by_moment.rows c.self.invariant.rises c.self.invariant.moments)
