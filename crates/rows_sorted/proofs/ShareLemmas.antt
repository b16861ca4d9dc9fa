-- A run of rows that two tests part, lent.
use Rattle.std.proofs.Common.{◌≡◌, ℕ, ◌+◌, ◌-◌, Bool, true, false, List, [], ◌∷◌, take, slice_range, refl, ap, ◌∙◌, arith, inl, inr, suc}
use Rattle.std.specs.Prelude.{not, ◌||◌, ◌&&◌, ◌==◌, nat_lt, nat_le}
use Rattle.std.specs.List.{AllByRecursion, filter, prefix_len}
use Rattle.std.proofs.lemmas.Bool.{cases_Bool}
use Rattle.rows_sorted.specs.Keys.{Key, is_pair, Rises}
use Rattle.rows_sorted.proofs.OrderLemmas.{AllInOrder, in_order}
use Rattle.rows_sorted.proofs.CutLemmas.{Parts, fails_later}
use Rattle.rows_sorted.proofs.RunLemmas.{parts, pair_parts}

turned : (a b : Bool) → not a ≡ b → a ≡ not b
turned true b same = ap not same
turned false b same = ap not same

none_shared : {Row : Type 0} (p : Row → Bool) (rows : List Row) → AllByRecursion (λ y. p y ≡ false) rows → filter p rows ≡ []
none_shared p [] all = refl
none_shared p (y ∷ ys) all = rw all.0 (none_shared p ys all.1)

module _ {Row : Type 0} (R : Row → Row → Type 0) (p q mine : Row → Bool) (laws : Parts R p q (λ x. not (mine x))) where
  mine_is : (x : Row) → mine x ≡ not (p x || not (q x))
  mine_is x = turned (mine x) _ (laws.left x)

  none_mine : (rows : List Row) → AllByRecursion (λ y. q y ≡ false) rows → AllByRecursion (λ y. mine y ≡ false) rows
  none_mine [] all = tt
  none_mine (x ∷ xs) all =
      let other : mine x ≡ false = elim (cases_Bool (p x)) [ inl low ↦ mine_is x ∙ (rw low refl) | inr high ↦ mine_is x ∙ (rw (high, all.0) refl) ] in
      (other, none_mine xs all.1)

  run_taken : (rows : List Row) → AllInOrder R rows → AllByRecursion (λ y. p y ≡ false) rows → take (prefix_len q rows) rows ≡ filter mine rows
  run_taken [] order high = refl
  run_taken (x ∷ xs) order high = elim (cases_Bool (q x)) [
    | inl passes ↦
        let stays : mine x ≡ true = mine_is x ∙ (rw (high.0, passes) refl) in
        let one : 1 + prefix_len q xs ≡ suc (prefix_len q xs) = omega arith in
        rw (passes, stays, one) (ap (λ rest. x ∷ rest) (run_taken xs order.1 high.1))
    | inr fails ↦
        let other : mine x ≡ false = mine_is x ∙ (rw (high.0, fails) refl) in
        let none = none_shared mine xs (none_mine xs (fails_later _ _ _ _ laws q laws.upper x fails xs order.0)) in
        rw (fails, other, none) refl
  ]

  -- the rows between the two places are those that pass
  pub share_is : (rows : List Row) → AllInOrder R rows → slice_range rows (prefix_len p rows) (prefix_len q rows) ≡ filter mine rows
  share_is [] order = refl
  share_is (x ∷ xs) order = elim (cases_Bool (p x)) [
    | inl low ↦
        let also = laws.within x low in
        let other : mine x ≡ false = mine_is x ∙ (rw low refl) in
        let one : 1 + prefix_len p xs ≡ suc (prefix_len p xs) = omega arith in
        let two : 1 + prefix_len q xs ≡ suc (prefix_len q xs) = omega arith in
        let less : suc (prefix_len q xs) - suc (prefix_len p xs) ≡ prefix_len q xs - prefix_len p xs = omega arith in
        rw (low, also, other, one, two, less) (share_is xs order.1)
    | inr high ↦
        let none : prefix_len q (x ∷ xs) - 0 ≡ prefix_len q (x ∷ xs) = omega arith in
        rw (high, none) (run_taken (x ∷ xs) order (high, fails_later _ _ _ _ laws p laws.lower x high xs order.0))
  ]

module _ {Row : Type 0} (key : Row → Key) where
  pub run_shared : (a : ℕ) (rows : List Row) → Rises key rows → slice_range rows (prefix_len (λ x. nat_lt (key x).first a) rows) (prefix_len (λ x. nat_le (key x).first a) rows) ≡ filter (λ x. (key x).first == a) rows
  run_shared a rows rises = share_is _ _ _ _ (parts key a) rows (in_order key rows rises)

  pub pair_shared : (a b : ℕ) (rows : List Row) → Rises key rows
      → slice_range rows (prefix_len (λ x. nat_lt (key x).first a || (((key x).first == a) && nat_lt (key x).second b)) rows) (prefix_len (λ x. nat_lt (key x).first a || (((key x).first == a) && nat_le (key x).second b)) rows)
      ≡ filter (λ x. is_pair a b (key x)) rows
  pair_shared a b rows rises = share_is _ _ _ _ (pair_parts key a b) rows (in_order key rows rises)
