-- a number that is too great stays so
use Rattle.std.proofs.Common.{arith}
use Rattle.signed_decimals.proofs.NumberLemmas.{too_far}
use Rattle.signed_decimals.proofs.value_within.Goals as goal

pub returns-then-more-from : goal.returns-then-more-from
returns-then-more-from c =
    too_far c.args.digits.now c.digits.digit-index c.digits.number (omega (arith, c.digits-test.true)) c.digits.invariant.value (omega (arith, c.if-more-from.true, c.from.ensures, c.saturating_sub.ensures, c.from-in-digits.ensures, c.from-in-digits-2.ensures))
