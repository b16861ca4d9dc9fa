use Rattle.std.proofs.Common.{◌≡◌, ◌++◌, drop}
use Rattle.script_tree.specs.Words.{quoted}
use Rattle.script_print.proofs.printing.put_quoted.Given as goal

abbrev pub invariant-loop-b : goal.invariant-loop-b
invariant-loop-b l = l.text.items ++ quoted (drop l.b-index l.bytes) ≡ l.fn.text.items ++ quoted l.bytes
