-- the activity stands in its place, and the other one of its number gives way
use Rattle.router_state.specs.declared.rows.Activity.{Activity}
use Rattle.rows_sorted.proofs.NumberLemmas.{below_put}
use Rattle.rows_index.proofs.KeptLemmas.{cut_is_free, put_over}
use Rattle.activity_context.specs.Views.{activity_before}
use Rattle.activity_context.proofs.activities.Activities.put.Goals as goal

pub add-requires-clause-absent : goal.add-requires-clause-absent
add-requires-clause-absent c = rw c.cut.ensures.activities (cut_is_free (λ (row : Activity). row.number.0) c.args.activity.number.0 c.args.self.now.activities)

pub returns-clause-activities : goal.returns-clause-activities
returns-clause-activities c = rw (c.add.ensures.activities, c.cut.ensures.activities) (put_over (λ (row : Activity). row.number.0) c.args.activity c.args.self.now.activities)

pub returns-clause-below : goal.returns-clause-below
returns-clause-below c = λ n low all.
    rw (c.add.ensures.activities, c.cut.ensures.activities, put_over (λ (row : Activity). row.number.0) c.args.activity c.args.self.now.activities)
    (below_put (λ (row : Activity). row.number.0) n activity_before c.args.activity c.args.self.now.activities low all)
