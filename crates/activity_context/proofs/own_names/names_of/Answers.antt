-- the names under the activity's numbers are its own
use Rattle.std.proofs.Common.{ap, ◌∙◌}
use Rattle.std.specs.List.{flat_map}
use Rattle.slee_value.specs.Order.{is_below}
use Rattle.rows_sorted.specs.Orders.{sorted}
use Rattle.rows_index.specs.declared.entry.Entry.{Entry}
use Rattle.activity_context.specs.Naming.{texts_under}
use Rattle.activity_context.proofs.OwnLemmas.{own_texts}
use Rattle.activity_context.proofs.own_names.names_of.Goals as goal

pub returns : goal.returns
returns c =
    let a = c.args.activity.0 in
    let rows = c.args.rows.now.rows in
    c.in_ok-sort_names.ensures
    ∙ ap (sorted is_below) (c.in_ok-names.ensures ∙ ap (flat_map (λ (e : Entry). texts_under a rows e.number)) c.rows_of.ensures)
    ∙ own_texts a rows c.args.entries.now.rows c.rises.ensures c.rises-2.ensures c.requires
