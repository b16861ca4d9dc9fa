use Rattle.std.proofs.Common.{◌≤◌, ◌-◌, length}
use Rattle.script_tree.proofs.Lexing.{Passed}
use Rattle.script_tree.proofs.lexer.gap_len.Given as goal

abbrev pub invariant-gap : goal.invariant-gap
invariant-gap l = record { within : l.n ≤ length l.bytes; passed : Passed l.bytes l.n }

abbrev pub decreases-gap : goal.decreases-gap
decreases-gap l = length l.bytes - l.n
