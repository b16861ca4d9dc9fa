use Rattle.std.proofs.Common.{◌≡◌, ◌||◌, drop}
use Rattle.std.specs.List.{list_any}
use Rattle.signal_script.specs.Lines.{is_control}
use Rattle.signal_script.proofs.line.has_control.Given as goal

-- what was found so far, or is among the bytes that are left
abbrev pub invariant-loop-b : goal.invariant-loop-b
invariant-loop-b l = (list_any is_control (drop l.b-index l.line) || l.found) ≡ list_any is_control l.line
