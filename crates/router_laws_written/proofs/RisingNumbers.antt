-- Numbers that rise are told by which of them there are.
use Rattle.std.proofs.Common.{◌≡◌, ℕ, ◌==◌, true, false, List, [], ◌∷◌, refl, sym, ◌∙◌, inl, inr, arith, ap, subst}
use Rattle.std.specs.Prelude.{nat_lt}
use Rattle.std.specs.List.{AllByRecursion}
use Rattle.std.proofs.lemmas.Bool.{cases_Bool, eqb-true, false≢true}
use Rattle.std.proofs.lemmas.Bool.Decides.{nat_tests}
use Rattle.router_laws.proofs.Removal.{in_list}
use Rattle.router_laws.proofs.RisingLemmas.{InOrder}

abbrev pub Rise : List ℕ → Type 0
Rise ks = InOrder nat_lt ks

-- a number that isn't above one isn't among those above it
absent : (n k : ℕ) (ks : List ℕ) → AllByRecursion (λ x. nat_lt n x ≡ true) ks → nat_lt n k ≡ false → in_list k ks ≡ false
absent n k [] all low = refl
absent n k (x ∷ ks) all low = let other : (x == k) ≡ false = apart x n k all.0 low in rw other (absent n k ks all.1 low)
  where
    apart : (x n k : ℕ) → nat_lt n x ≡ true → nat_lt n k ≡ false → (x == k) ≡ false
    apart x n k less low = grind (arith, nat_tests)

itself : (n : ℕ) → (n == n) ≡ true
itself n = grind (arith, nat_tests)

not_less : (n : ℕ) → nat_lt n n ≡ false
not_less n = grind (arith, nat_tests)

present : (x : ℕ) (xs : List ℕ) → in_list x (x ∷ xs) ≡ true
present x xs = rw (itself x) refl

-- the first of them isn't among others whose first is above it
first_absent : (x y : ℕ) (ys : List ℕ) → Rise (y ∷ ys) → nat_lt x y ≡ true → in_list x (y ∷ ys) ≡ false
first_absent x y ys rise less = let other : (y == x) ≡ false = apart x y less in rw other (absent y x ys rise.0 (low x y less))
  where
    apart : (x y : ℕ) → nat_lt x y ≡ true → (y == x) ≡ false
    apart x y less = grind (arith, nat_tests)

    low : (x y : ℕ) → nat_lt x y ≡ true → nat_lt y x ≡ false
    low x y less = grind (arith, nat_tests)

same_tails : (x k : ℕ) (xs ys : List ℕ) → AllByRecursion (λ y. nat_lt x y ≡ true) xs → AllByRecursion (λ y. nat_lt x y ≡ true) ys → in_list k (x ∷ xs) ≡ in_list k (x ∷ ys) → in_list k xs ≡ in_list k ys
same_tails x k xs ys one two same = elim (cases_Bool (x == k)) [
  | inl is ↦ (let low : nat_lt x k ≡ false = level x k is in absent x k xs one low ∙ sym (absent x k ys two low))
  | inr isnt ↦ (rw isnt at same)
]
  where
    level : (x k : ℕ) → (x == k) ≡ true → nat_lt x k ≡ false
    level x k is = grind (arith, nat_tests)

-- two lists that rise and have the same members are the same
pub same_members : (xs ys : List ℕ) → Rise xs → Rise ys → ((k : ℕ) → in_list k xs ≡ in_list k ys) → xs ≡ ys
same_members [] [] one two same = refl
same_members [] (y ∷ ys) one two same = absurd (false≢true (same y ∙ present y ys))
same_members (x ∷ xs) [] one two same = absurd (false≢true (sym (same x) ∙ present x xs))
same_members (x ∷ xs) (y ∷ ys) one two same = elim (cases_Bool (nat_lt x y)) [
  | inl less ↦ absurd (false≢true (sym (first_absent x y ys two less) ∙ sym (same x) ∙ present x xs))
  | inr isnt ↦ elim (cases_Bool (nat_lt y x)) [
    | inl more ↦ absurd (false≢true (sym (first_absent y x xs one more) ∙ same y ∙ present y ys))
    | inr neither ↦ (let eq : x ≡ y = level x y isnt neither in
        ap (λ z. z ∷ xs) eq ∙ ap (λ zs. y ∷ zs) (same_members xs ys one.1 two.1 (λ k. same_tails y k xs ys (subst (λ z. AllByRecursion (λ k. nat_lt z k ≡ true) xs) eq one.0) two.0 (ap (λ z. in_list k (z ∷ xs)) (sym eq) ∙ same k))))
  ]
]
  where
    level : (x y : ℕ) → nat_lt x y ≡ false → nat_lt y x ≡ false → x ≡ y
    level x y one two = eqb-true x y (grind (arith, nat_tests))
