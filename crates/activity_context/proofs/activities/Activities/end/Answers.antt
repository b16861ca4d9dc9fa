-- the activity ends; all keep their numbers and their entries
use Rattle.std.proofs.Common.{◌∙◌, rules, true}
use Rattle.router_state.specs.Contexts.{ends}
use Rattle.router_state.specs.declared.rows.Activity.{Activity}
use Rattle.rows_sorted.proofs.NumberLemmas.{below_map}
use Rattle.activity_context.proofs.EndLemmas.{end_stays_indexed, number_stays, one_ends}
use Rattle.activity_context.proofs.activities.Activities.end.Goals as goal

pub invariant_of-self : goal.invariant_of-self
invariant_of-self c =
    let a = c.args.activity.0 in
    let rows = c.self.inside.rows.rows in
    let ended = λ (row : Activity). record row { ending = true } in
    record {
      rises = c.change_row.ensures.rises;
      names = rw (c.change_row.ensures.rows ended (λ old new gave. search rules) ∙ one_ends a rows) (end_stays_indexed a rows c.self.inside.by_name.rows c.self.invariant.names);
    }

pub returns-clause-activities : goal.returns-clause-activities
returns-clause-activities c =
    let ended = λ (row : Activity). record row { ending = true } in
    rw (← c.self.view_is) (c.change_row.ensures.rows ended (λ old new gave. search rules) ∙ one_ends c.args.activity.0 c.self.inside.rows.rows)

pub returns-clause-below : goal.returns-clause-below
returns-clause-below c =
    let a = c.args.activity.0 in
    let ended = λ (row : Activity). record row { ending = true } in
    λ n. rw (← c.self.view_is, c.change_row.ensures.rows ended (λ old new gave. search rules) ∙ one_ends a c.self.inside.rows.rows)
    (λ all. below_map (λ (row : Activity). row.number.0) n (ends a) (number_stays a) c.self.inside.rows.rows all)
