-- the lines so far stand behind what was there before
use Rattle.std.proofs.Common.{◌≡◌, ◌++◌, take}
use Rattle.slee_run.specs.Text.{lines_text}
use Rattle.slee_run.proofs.generating.add_lines.Given as goal

abbrev pub invariant-loop-line : goal.invariant-loop-line
invariant-loop-line l = l.text.items ≡ l.fn.text.items ++ lines_text (take l.line-index l.lines)
