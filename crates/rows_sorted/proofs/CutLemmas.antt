-- A run of rows taken out of rows that two tests part.
use Rattle.std.proofs.Common.{◌≡◌, ◌+◌, ◌≤◌, Bool, true, false, List, [], ◌∷◌, ◌++◌, take, drop, refl, sym, ap, ◌∙◌, arith, inl, inr, suc}
use Rattle.std.specs.Prelude.{not, ◌||◌}
use Rattle.std.specs.List.{AllByRecursion, filter, prefix_len}
use Rattle.std.proofs.lemmas.Bool.{cases_Bool}
use Rattle.rows_sorted.proofs.OrderLemmas.{AllInOrder, all_from_all}

-- The rows that pass p are a part of those that pass q; both stand at the front. The rows of the run pass q and not p; the others pass r.
pub record Parts {Row : Type 0} (R : Row → Row → Type 0) (p q r : Row → Bool) : Type 0 where
  pub within : (x : Row) → p x ≡ true → q x ≡ true
  pub lower : (x y : Row) → R x y → p y ≡ true → p x ≡ true
  pub upper : (x y : Row) → R x y → q y ≡ true → q x ≡ true
  pub left : (x : Row) → r x ≡ (p x || not (q x))

module _ {Row : Type 0} (R : Row → Row → Type 0) (p q r : Row → Bool) (parts : Parts R p q r) where
  pub front_within : (rows : List Row) → prefix_len p rows ≤ prefix_len q rows
  front_within [] = omega arith
  front_within (x ∷ xs) = elim (cases_Bool (p x)) [
    | inl low ↦ let also = parts.within x low in rw (low, also) (omega (arith, front_within xs))
    | inr high ↦ rw high (omega arith)
  ]

  pub fails_later : (t : Row → Bool) → ((x y : Row) → R x y → t y ≡ true → t x ≡ true) → (x : Row) → t x ≡ false → (rows : List Row) → AllByRecursion (R x) rows → AllByRecursion (λ y. t y ≡ false) rows
  fails_later t down x fails rows later = all_from_all (R x) (λ y. t y ≡ false) one rows later
    where
      one : (y : Row) → R x y → t y ≡ false
      one y before = elim (cases_Bool (t y)) [
        | inl passes ↦ let wrong = down x y before passes in cc
        | inr fails_too ↦ fails_too
      ]

  all_left : (rows : List Row) → AllByRecursion (λ y. q y ≡ false) rows → filter r rows ≡ rows
  all_left [] all = refl
  all_left (x ∷ xs) all =
      let stays : r x ≡ true = elim (cases_Bool (p x)) [ inl low ↦ parts.left x ∙ (rw low refl) | inr high ↦ parts.left x ∙ (rw (high, all.0) refl) ] in
      rw stays (ap (λ rest. x ∷ rest) (all_left xs all.1))

  run_gone : (rows : List Row) → AllInOrder R rows → AllByRecursion (λ y. p y ≡ false) rows → drop (prefix_len q rows) rows ≡ filter r rows
  run_gone [] order high = refl
  run_gone (x ∷ xs) order high = elim (cases_Bool (q x)) [
    | inl passes ↦
        let goes : r x ≡ false = parts.left x ∙ (rw (high.0, passes) refl) in
        let one : 1 + prefix_len q xs ≡ suc (prefix_len q xs) = omega arith in
        rw (passes, goes, one) (run_gone xs order.1 high.1)
    | inr fails ↦
        let stays : r x ≡ true = parts.left x ∙ (rw (high.0, fails) refl) in
        rw (fails, stays) (ap (λ rest. x ∷ rest) (sym (all_left xs (fails_later q parts.upper x fails xs order.0))))
  ]

  pub cut_is : (rows : List Row) → AllInOrder R rows → take (prefix_len p rows) rows ++ drop (prefix_len q rows) rows ≡ filter r rows
  cut_is [] order = refl
  cut_is (x ∷ xs) order = elim (cases_Bool (p x)) [
    | inl low ↦
        let also = parts.within x low in
        let stays : r x ≡ true = parts.left x ∙ (rw low refl) in
        let one : 1 + prefix_len p xs ≡ suc (prefix_len p xs) = omega arith in
        let two : 1 + prefix_len q xs ≡ suc (prefix_len q xs) = omega arith in
        rw (low, also, stays, one, two) (ap (λ rest. x ∷ rest) (cut_is xs order.1))
    | inr high ↦ rw high (run_gone (x ∷ xs) order (high, fails_later p parts.lower x high xs order.0))
  ]
