-- the names so far and the others
use Rattle.std.proofs.Common.{◌≡◌, ◌++◌, map}
use Rattle.activity_context.specs.declared.numbered.NumberedName.{NumberedName}
use Rattle.activity_context.specs.Naming.{texts_under}
use Rattle.activity_context.proofs.own_names.push_names.Given as goal

abbrev pub invariant-names : goal.invariant-names
invariant-names l = l.into.items ++ map (λ (row : NumberedName). row.named.name) l.row-iterator ≡ l.fn.into.items ++ texts_under l.fn.activity.0 l.fn.rows.rows l.fn.number
