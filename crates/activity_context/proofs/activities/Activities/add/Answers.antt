-- the activity comes with its entry
use Rattle.std.proofs.Common.{refl, ◌∙◌}
use Rattle.router_state.specs.declared.rows.Activity.{Activity}
use Rattle.router_state.proofs.AgreeLemmas.{activity_put}
use Rattle.router_state.specs.Keys.{activity_key}
use Rattle.rows_index.proofs.RowLemmas.{indexed_put}
use Rattle.activity_context.specs.Indexed.{name_number}
use Rattle.activity_context.proofs.activities.Activities.add.Goals as goal

pub invariant_of-self : goal.invariant_of-self
invariant_of-self c =
    let absent = rw (← c.self.view_is) at c.requires.absent in
    record {
      rises = c.put_row-2.ensures.rises;
      names = rw (c.put_row.ensures.rows, c.name_entry.ensures) (indexed_put (λ (row : Activity). row.number.0) (λ (row : Activity). name_number row.kind) activity_key (λ x. refl) c.args.activity c.self.inside.rows.rows _ c.self.inside.by_name.rows c.self.invariant.rises c.self.invariant.names absent c.put_row-2.ensures.rows);
    }

pub returns-clause-activities : goal.returns-clause-activities
returns-clause-activities c = rw (← c.self.view_is) (c.put_row-2.ensures.rows ∙ activity_put c.args.activity c.self.inside.rows.rows)
