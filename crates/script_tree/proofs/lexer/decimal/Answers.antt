use Rattle.std.proofs.Common.{◌<◌, ◌-◌, ◌/◌, get_or, arith}
use Rattle.std.proofs.lemmas.Grind.{common_steps}
use Rattle.script_tree.proofs.Lexing.{too_large}
use Rattle.script_tree.proofs.lexer.decimal.Goals as goal

pub returns-then-value-digit : goal.returns-then-value-digit
returns-then-value-digit c =
    let h : (9223372036854775807 - (get_or c.args.digits.now c.digits.b-index 0 - 48)) / 10 < c.digits.value = first_of (omega arith, grind (arith, common_steps)) in
    record { value = too_large c.args.digits.now c.digits.value c.digits.b-index c.digits-test.true c.digits.invariant.left h }
