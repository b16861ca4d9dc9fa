-- the first entry of the activity is that of a timer on it
use Rattle.std.proofs.Common.{◌==◌, false, sym, ap, ◌∙◌, refl}
use Rattle.std.specs.Option.{option_map_or}
use Rattle.router_state.specs.declared.rows.Timer.{Timer}
use Rattle.rows_index.specs.declared.entry.Entry.{Entry}
use Rattle.router_state.specs.Keys.{timer_key}
use Rattle.rows_index.proofs.RowLemmas.{any_fails, none_first, some_first}
use Rattle.timer_facility.proofs.timer_rows.TimerRows.first_on.Goals as goal

pub returns-in-None-clause-first : goal.returns-in-None-clause-first
returns-in-None-clause-first c =
    rw (← c.self.view_is)
    (any_fails (λ (t : Timer). t.activity.0 == c.args.activity.0) c.self.inside.rows.rows
    (none_first (λ (t : Timer). t.number.0) (λ (t : Timer). t.activity.0) (λ (e : Entry). e.key == c.args.activity.0) c.self.inside.rows.rows c.self.inside.by_activity.rows c.self.invariant.activities (sym c.in-None.ensures)))

pub returns-in-Some-clause-first : goal.returns-in-Some-clause-first
returns-in-Some-clause-first c =
    let a = c.args.activity.0 in
    let first = some_first (λ (t : Timer). t.number.0) (λ (t : Timer). t.activity.0) timer_key (λ x. refl) (λ (e : Entry). e.key == a) c.self.inside.rows.rows c.self.inside.by_activity.rows _ c.self.invariant.rises c.self.invariant.activities (sym c.in-Some.ensures) in
    rw (← c.self.view_is) (ap (λ found. option_map_or (λ (t : Timer). t.activity.0 == a) found false) first.1 ∙ ap (λ n. n == a) first.2 ∙ first.3)
