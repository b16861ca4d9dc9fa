-- only activities under the number of the name have it
use Rattle.std.proofs.Common.{List, refl, ap, ◌∙◌}
use Rattle.router_state.specs.Contexts.{activity_at, has_name}
use Rattle.router_state.specs.declared.rows.Activity.{Activity}
use Rattle.router_state.specs.Keys.{activity_key}
use Rattle.rows_index.specs.declared.entry.Entry.{Entry}
use Rattle.rows_index.specs.Found.{first_found}
use Rattle.rows_index.specs.Numbers.{number_of}
use Rattle.rows_index.proofs.RunLemmas.{run_finds}
use Rattle.activity_context.specs.Indexed.{name_number}
use Rattle.activity_context.proofs.NameLemmas.{named_there}
use Rattle.activity_context.proofs.activities.Activities.external.Goals as goal

pub returns : goal.returns
returns c =
    let rows = c.self.inside.rows.rows in
    let passes = λ (row : Activity). has_name row.kind c.args.name.now in
    let run = rw (c.number_of.ensures.number, c.as_bytes.ensures.bytes) at c.rows_of-run.ensures in
    let found = c.external_among.ensures in
    rw (← c.self.view_is)
    (found ∙ ap (λ (entries : List Entry). first_found (activity_at rows) passes entries) run
    ∙ run_finds (λ (row : Activity). row.number.0) (λ (row : Activity). name_number row.kind) activity_key (λ x. refl) passes (number_of c.args.name.now) (named_there c.args.name.now) rows c.self.inside.by_name.rows c.self.invariant.rises c.self.invariant.names)
