use Rattle.std.proofs.Common.{◌≡◌, ◌-◌, ◌++◌}
use Rattle.script_print.specs.Layout.{indent}
use Rattle.script_print.proofs.printing.put_indent.Given as goal

abbrev pub invariant-braces : goal.invariant-braces
invariant-braces l = l.text.items ++ indent (l.depth - l.brace) ≡ l.fn.text.items ++ indent l.depth
