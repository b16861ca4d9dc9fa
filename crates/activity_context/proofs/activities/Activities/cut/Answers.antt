-- the activity goes with its entry, or there is none
use Rattle.std.proofs.Common.{sym, ◌==◌, refl}
use Rattle.router_state.specs.declared.rows.Activity.{Activity}
use Rattle.router_state.specs.Keys.{activity_key}
use Rattle.rows_sorted.proofs.NumberLemmas.{below_filter}
use Rattle.rows_index.proofs.FoundLemmas.{none_at}
use Rattle.rows_index.proofs.RowLemmas.{all_stay, indexed_cut}
use Rattle.activity_context.specs.Indexed.{name_number}
use Rattle.activity_context.proofs.activities.Activities.cut.Goals as goal

pub invariant_of-self : goal.invariant_of-self
invariant_of-self c =
    let found = sym c.in-Some.ensures in
    record {
      rises = c.cut_rows_of.ensures.rises;
      names = rw (c.cut_rows_of.ensures.rows, c.cut_row.ensures.rows, c.name_number-name.ensures) (indexed_cut (λ (row : Activity). row.number.0) (λ (row : Activity). name_number row.kind) activity_key (λ x. refl) c.args.activity.0 _ c.self.inside.rows.rows c.self.inside.by_name.rows c.self.invariant.rises c.self.invariant.names found);
    }

pub returns-in-Some-clause-below : goal.returns-in-Some-clause-below
returns-in-Some-clause-below c = λ n. rw (← c.self.view_is, c.cut_rows_of.ensures.rows) (λ all. below_filter (λ (row : Activity). row.number.0) n _ c.self.inside.rows.rows all)

pub returns-in-None-clause-activities : goal.returns-in-None-clause-activities
returns-in-None-clause-activities c =
    let n = c.args.activity.0 in
    rw (← c.self.view_is) (sym (all_stay (λ (row : Activity). row.number.0 == n) c.self.inside.rows.rows (none_at (λ (row : Activity). row.number.0 == n) c.self.inside.rows.rows (sym c.in-None.ensures))))
