use Rattle.std.proofs.Common.{◌≡◌, ◌++◌, length}
use Rattle.signal_script.specs.Signals.{field_words}
use Rattle.signal_script.proofs.printing.write_fields.Given as goal

abbrev pub invariant-fields : goal.invariant-fields
invariant-fields l = l.line.items ++ field_words l.left ≡ l.fn.line.items ++ field_words l.fn.fields

abbrev pub decreases-fields : goal.decreases-fields
decreases-fields l = length l.left
