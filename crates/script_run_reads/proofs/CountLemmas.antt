-- Effects of two lists, one behind the other, where it matters how many things were made before.
use Rattle.std.proofs.Common.{◌≡◌, ℕ, ◌+◌, List, [], ◌∷◌, ◌++◌, ap, arith}
use Rattle.slee_effect.specs.declared.effect.Effect.{Effect}
use Rattle.script_meaning.specs.Overlay.{overlay, overlay_from, count_of}

from : {A : Type 0} (makes : Effect → ℕ) (does : ℕ → Effect → A → A) (n m : ℕ) (xs ys : List Effect) (x : A) → m ≡ n + count_of makes xs → overlay_from makes does n (xs ++ ys) x ≡ overlay_from makes does m ys (overlay_from makes does n xs x)
from makes does n m [] ys x is = ap (λ k. overlay_from makes does k ys x) (let e : n ≡ m = omega (arith, is) in e)
from makes does n m (e ∷ xs) ys x is = from makes does (n + makes e) m xs ys (does n e x) (let h : m ≡ n + makes e + count_of makes xs = omega (arith, is) in h)

pub laid_behind : {A : Type 0} (makes : Effect → ℕ) (does : ℕ → Effect → A → A) (xs ys : List Effect) (x : A) → overlay makes does (xs ++ ys) x ≡ overlay_from makes does (count_of makes xs) ys (overlay_from makes does 0 xs x)
laid_behind makes does xs ys x = let h : count_of makes xs ≡ 0 + count_of makes xs = omega arith in from makes does 0 (count_of makes xs) xs ys x h

-- what two lists make together
pub count_behind : (makes : Effect → ℕ) (xs ys : List Effect) → count_of makes (xs ++ ys) ≡ count_of makes xs + count_of makes ys
count_behind makes [] ys = let h : count_of makes ys ≡ 0 + count_of makes ys = omega arith in h
count_behind makes (e ∷ xs) ys = let h : makes e + count_of makes (xs ++ ys) ≡ makes e + count_of makes xs + count_of makes ys = omega (arith, count_behind makes xs ys) in h
