-- Numbers with signs fit where they are written in 8 or in 64 bits.
use Rattle.std.proofs.Common.{◌≡◌, ℤ, pos, true, arith, FitsSigned, w8, w64}
use Rattle.std.specs.Prelude.{negsuc}
use Rattle.std.proofs.lemmas.Bool.Decides.{nat_tests}
use Rattle.router_state.specs.Fits.{is_i64, is_priority}

pub priority_fits : (z : ℤ) → FitsSigned w8 z → is_priority z ≡ true
priority_fits (pos n) fits = let low = fits.sfits in grind (arith, nat_tests, low)
priority_fits (negsuc n) fits = let low = fits.sfits in grind (arith, nat_tests, low)

pub number_fits : (z : ℤ) → FitsSigned w64 z → true ≡ is_i64 z
number_fits (pos n) fits = let low = fits.sfits in grind (arith, nat_tests, low)
number_fits (negsuc n) fits = let low = fits.sfits in grind (arith, nat_tests, low)
