-- Decimal numbers that are read digit by digit.
use Rattle.std.proofs.Common.{◌≡◌, ℕ, zero, suc, ◌+◌, ◌-◌, ◌*◌, ◌<◌, ◌≤◌, ◌^◌, false, List, [], ◌∷◌, drop, length, refl, arith}
use Rattle.std.specs.Prelude.{Some, None, nat_le, if◌then◌else◌, slice_index_or}
use Rattle.std.specs.List.{fold}
use Rattle.std.proofs.lemmas.Bool.Decides.{nat_tests}
use Rattle.trace_history.specs.Decimals.{decimal_value}

-- the number grows with each digit
grows : (n : ℕ) (bs : List ℕ) → n ≤ fold (λ n b. 10 * n + (b - 48)) n bs
grows n [] = omega arith
grows n (b ∷ bs) = let more = grows (10 * n + (b - 48)) bs in omega (arith, more)

-- with a digit more it is too great, and so is that of all digits
beyond : (n : ℕ) (bs : List ℕ) (i : ℕ) → i < length bs → 2 ^ 63 < 10 * n + (slice_index_or bs i 0 - 48) → 2 ^ 63 < fold (λ n b. 10 * n + (b - 48)) n (drop i bs)
beyond n [] i here far = absurd (omega (arith, here))
beyond n (b ∷ bs) zero here far = let more = grows (10 * n + (b - 48)) bs in omega (arith, more, far)
beyond n (b ∷ bs) (suc i) here far = beyond n bs i (omega (arith, here)) far

pub too_far : (bs : List ℕ) (i n : ℕ) → i < length bs → fold (λ n b. 10 * n + (b - 48)) n (drop i bs) ≡ decimal_value bs → 2 ^ 63 < 10 * n + (slice_index_or bs i 0 - 48)
    → None ≡ (if nat_le (decimal_value bs) (2 ^ 63) then Some (decimal_value bs) else None)
too_far bs i n here value far =
    let more = beyond n bs i here far in
    let great : 2 ^ 63 < decimal_value bs = rw (← value) more in
    let is : nat_le (decimal_value bs) (2 ^ 63) ≡ false = grind (arith, nat_tests, great) in
    rw is refl
