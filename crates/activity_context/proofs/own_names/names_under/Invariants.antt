-- the names so far and those under the other numbers
use Rattle.std.proofs.Common.{◌≡◌, ◌++◌}
use Rattle.std.specs.List.{flat_map}
use Rattle.rows_index.specs.declared.entry.Entry.{Entry}
use Rattle.activity_context.specs.Naming.{texts_under}
use Rattle.activity_context.proofs.own_names.names_under.Given as goal

abbrev pub invariant-numbers : goal.invariant-numbers
invariant-numbers l =
    let texts = λ (e : Entry). texts_under l.fn.activity.0 l.fn.rows.rows e.number in
    l.all.items ++ flat_map texts l.entry-iterator ≡ flat_map texts l.fn.entries
