-- the new activity has the greatest number, and comes with its entry
use Rattle.std.proofs.Common.{◌≡◌, ◌==◌, ◌∙◌, false, refl}
use Rattle.router_state.specs.declared.rows.Activity.{Activity}
use Rattle.rows_sorted.specs.Keys.{is_key}
use Rattle.rows_sorted.proofs.NumberLemmas.{below_pushed}
use Rattle.rows_sorted.proofs.OrderLemmas.{all_from_all}
use Rattle.rows_index.specs.Index.{entry_key}
use Rattle.rows_index.proofs.IndexLemmas.{index_put}
use Rattle.rows_index.proofs.RowLemmas.{other_key}
use Rattle.rows_index.proofs.KeptLemmas.{others_below, sum_pushed}
use Rattle.activity_context.specs.Indexed.{name_entry, name_number}
use Rattle.activity_context.proofs.PushLemmas.{put_last}
use Rattle.activity_context.proofs.activities.Activities.push.Goals as goal

pub invariant_of-self : goal.invariant_of-self
invariant_of-self c =
    let n = c.args.number in
    let rows = c.self.inside.rows.rows in
    let row : Activity = record { number = record { 0 = n }; kind = c.args.kind; ending = false } in
    let below = rw (← c.self.view_is) at c.requires.below in
    let last = c.put_row-2.ensures.rows ∙ put_last row rows below in
    let apart = all_from_all (λ (other : Activity). (other.number.0 == n) ≡ false) (λ (other : Activity). is_key (entry_key (name_entry other)) (entry_key (name_entry row)) ≡ false) (λ other is. other_key (name_number other.kind) (name_number row.kind) other.number.0 n is) rows (others_below (λ (other : Activity). other.number.0) n rows below) in
    record {
      rises = c.put_row-2.ensures.rises;
      names = rw (last, c.put_row.ensures.rows, c.name_entry.ensures) (index_put name_entry row rows _ c.self.inside.by_name.rows c.self.invariant.names apart (λ f. sum_pushed f row rows));
    }

pub returns-clause-below : goal.returns-clause-below
returns-clause-below c =
    let below = rw (← c.self.view_is) at c.requires.below in
    let row : Activity = record { number = record { 0 = c.args.number }; kind = c.args.kind; ending = false } in
    rw (c.put_row-2.ensures.rows ∙ put_last row c.self.inside.rows.rows below) (below_pushed (λ (row : Activity). row.number.0) c.args.number _ c.self.inside.rows.rows refl below)

pub returns-clause-activities : goal.returns-clause-activities
returns-clause-activities c =
    let below = rw (← c.self.view_is) at c.requires.below in
    let row : Activity = record { number = record { 0 = c.args.number }; kind = c.args.kind; ending = false } in
    rw (← c.self.view_is) (c.put_row-2.ensures.rows ∙ put_last row c.self.inside.rows.rows below)
