-- Roots above entities by the parents with which they were made.
use Rattle.std.proofs.Common.{◌≡◌, ℕ, zero, suc, ◌+◌, ◌-◌, ◌<◌, ◌==◌, true, false, refl, arith}
use Rattle.std.proofs.lemmas.Bool.Decides.{nat_tests}
use Rattle.router_laws_closing.specs.TouchedRoots.{climbed}

pub climbed_root : (parent : ℕ → ℕ) (n e : ℕ) → parent e ≡ 0 → climbed parent n e ≡ e
climbed_root parent zero e none = refl
climbed_root parent (suc n) e none = let is : (parent e == 0) ≡ true = by (parent e) none in rw is refl
  where
    by : (a : ℕ) → a ≡ 0 → (a == 0) ≡ true
    by a is = grind (arith, nat_tests)

pub climbed_child : (parent : ℕ → ℕ) (n k e p : ℕ) → k < n → parent e ≡ p → (p == 0) ≡ false → climbed parent (n - k) e ≡ climbed parent (n - (k + 1)) p
climbed_child parent n k e p low is some =
    let more : n - k ≡ suc (n - (k + 1)) = omega (arith, low) in
    rw (more, is, some) refl
