use Rattle.std.proofs.Common.{◌≡◌, ◌≤◌, drop}
use Rattle.script_tree.specs.Lexer.{digits_value}
use Rattle.script_tree.proofs.lexer.decimal.Given as goal

abbrev pub invariant-digits : goal.invariant-digits
invariant-digits l = record {
  left : digits_value l.value (drop l.b-index l.digits) ≡ digits_value 0 l.digits;
  bound : l.value ≤ 9223372036854775807;
}
