-- the number so far with the other digits behind it is that of all
use Rattle.std.proofs.Common.{◌≡◌, ◌+◌, ◌-◌, ◌*◌, ◌^◌, ◌≤◌, drop}
use Rattle.std.specs.List.{fold}
use Rattle.trace_history.specs.Decimals.{decimal_value}
use Rattle.signed_decimals.proofs.value_within.Given as goal

abbrev pub invariant-digits : goal.invariant-digits
invariant-digits l = record {
  value : fold (λ n b. 10 * n + (b - 48)) l.number (drop l.digit-index l.digits) ≡ decimal_value l.digits;
  within : l.number ≤ 2 ^ 63;
}
