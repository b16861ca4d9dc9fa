-- An attachment whose rank lies between those of the rows beside it stays in its place.
use Rattle.std.proofs.Common.{◌≡◌, ℕ, zero, suc, ◌+◌, ◌-◌, ◌<◌, ◌==◌, Bool, true, false, List, [], ◌∷◌, Some, length, refl, sym, ap, subst, ◌∙◌, arith, inl, inr, slice_get}
use Rattle.std.specs.Prelude.{◌&&◌, not}
use Rattle.std.specs.List.{AllByRecursion, filter, list_any}
use Rattle.std.proofs.lemmas.Bool.{cases_Bool}
use Rattle.std.proofs.lemmas.Bool.Decides.{nat_tests}
use Rattle.std.proofs.lemmas.List.{length-map}
use Rattle.rows_sorted.specs.Keys.{is_key, key_before, pair_key}
use Rattle.rows_sorted.specs.Orders.{pair_before, put}
use Rattle.rows_sorted.proofs.KeyLemmas.{pair_agrees}
use Rattle.rows_sorted.proofs.OrderLemmas.{AllInOrder, IsBefore, all_from_all, before_joins}
use Rattle.entity_tree.proofs.ListLemmas.{and_true, filter_all, filter_none}
use Rattle.rows_index.proofs.RowLemmas.{all_stay}
use Rattle.router_order.specs.declared.placed.Placed.{Placed}
use Rattle.router_order.specs.Placed.{attachment, attachments, placed_key}
use Rattle.router_order.proofs.RankLemmas.{at_holds, at_within, get_at}
use Rattle.router_order.proofs.RunLemmas.{placed_before}

-- where one at a place passes, some one passes
pub any_at : {X : Type 0} (p : X → Bool) (i : ℕ) (x : X) (xs : List X) → slice_get xs i ≡ Some x → p x ≡ true → list_any p xs ≡ true
any_at p i x [] at passes = absurd (cc)
any_at p zero x (y ∷ ys) at passes = let same : y ≡ x = cc in let first : p y ≡ true = ap p same ∙ passes in rw first refl
any_at p (suc i) x (y ∷ ys) at passes = elim (cases_Bool (p y)) [ inl first ↦ rw first refl | inr fails ↦ rw fails (any_at p i x ys at passes) ]

pairs : (y z : Placed) → placed_before y z ≡ true → pair_before y.activity.0 y.rank z.activity.0 z.rank ≡ true
pairs y z before = sym (pair_agrees y.activity.0 y.rank z.activity.0 z.rank) ∙ before

not_after : (y z : Placed) → placed_before y z ≡ true → placed_before z y ≡ false
not_after y z before =
    let step = pairs y z before in
    let back : pair_before z.activity.0 z.rank y.activity.0 y.rank ≡ false = grind (arith, nat_tests, step) in
    pair_agrees z.activity.0 z.rank y.activity.0 y.rank ∙ back

module _ (x : Placed) (rank : ℕ) where
  -- the row with another rank
  abbrev pub moved : Placed
  moved = record { activity = x.activity; rank = rank; entity = x.entity }

  -- it has the key of the row
  abbrev pub is_own : Placed → Bool
  is_own y = is_key (placed_key y) (pair_key x.activity.0 x.rank)

  own_is : (y : Placed) → is_own y ≡ ((y.activity.0 == x.activity.0) && (y.rank == x.rank))
  own_is y = ap (λ b. (y.activity.0 == x.activity.0) && b) (and_true (y.rank == x.rank))

  pub own_itself : is_own x ≡ true
  own_itself =
      let one : (x.activity.0 == x.activity.0) ≡ true = grind (arith, nat_tests) in
      let two : (x.rank == x.rank) ≡ true = grind (arith, nat_tests) in
      own_is x ∙ (rw (one, two) refl)

  later : (y : Placed) → placed_before x y ≡ true → is_own y ≡ false
  later y before = let step = pairs x y before in let apart : ((y.activity.0 == x.activity.0) && (y.rank == x.rank)) ≡ false = grind (arith, nat_tests, step) in own_is y ∙ apart

  earlier : (y : Placed) → placed_before y x ≡ true → is_own y ≡ false
  earlier y before = let step = pairs y x before in let apart : ((y.activity.0 == x.activity.0) && (y.rank == x.rank)) ≡ false = grind (arith, nat_tests, step) in own_is y ∙ apart

  all_behind : (rows : List Placed) → AllInOrder (IsBefore placed_key) rows → ((y : Placed) → slice_get rows 0 ≡ Some y → placed_before moved y ≡ true) → AllByRecursion (λ y. placed_before moved y ≡ true) rows
  all_behind [] order high = tt
  all_behind (z ∷ zs) order high =
      let first = high z refl in
      (first, all_from_all (IsBefore placed_key z) (λ y. placed_before moved y ≡ true) (λ y before. before_joins (placed_key moved) (placed_key z) (placed_key y) first before) zs order.0)

  first_before : (i : ℕ) (z : Placed) (zs : List Placed) → AllByRecursion (IsBefore placed_key z) zs → slice_get zs i ≡ Some x → ((y : Placed) → slice_get (z ∷ zs) i ≡ Some y → placed_before y moved ≡ true) → placed_before z moved ≡ true
  first_before zero z zs all at low = low z refl
  first_before (suc i) z zs all at low =
      let within = at_within (suc i) x zs at in
      let last = get_at i zs (omega (arith, within)) in
      before_joins (placed_key z) (placed_key last.0) (placed_key moved) (at_holds (IsBefore placed_key z) i last.0 zs all last.1) (low last.0 last.1)

  -- a row that goes and comes again between those beside it is the same attachment in the same place
  pub stays_listed : (i : ℕ) (rows : List Placed) → AllInOrder (IsBefore placed_key) rows → slice_get rows i ≡ Some x
      → ((y : Placed) → 0 < i → slice_get rows (i - 1) ≡ Some y → placed_before y moved ≡ true)
      → ((y : Placed) → slice_get rows (i + 1) ≡ Some y → placed_before moved y ≡ true)
      → attachments (put placed_before moved (filter (λ y. not (is_own y)) rows)) ≡ attachments rows
  stays_listed i [] order at low high = absurd (cc)
  stays_listed zero (z ∷ zs) order at low high =
      let same : z ≡ x = cc in
      let behind = subst (λ w. AllByRecursion (IsBefore placed_key w) zs) same order.0 in
      let stay = all_stay is_own zs (all_from_all (IsBefore placed_key x) (λ y. is_own y ≡ false) later zs behind) in
      let own : is_own z ≡ true = subst (λ (w : Placed). is_own w ≡ true) (sym same) own_itself in
      let after = all_behind zs order.1 (λ y next. high y next) in
      let none = filter_none (λ y. placed_before y moved) zs (all_from_all (λ y. placed_before moved y ≡ true) (λ y. placed_before y moved ≡ false) (λ y before. not_after moved y before) zs after) in
      rw (own, stay, none, filter_all (λ y. placed_before moved y) zs after) (ap (λ (w : Placed). attachment w ∷ attachments zs) (sym same))
  stays_listed (suc i) (z ∷ zs) order at low high =
      let before = at_holds (IsBefore placed_key z) i x zs order.0 at in
      let other = earlier z before in
      let here : suc i - 1 ≡ i = omega arith in
      let first = first_before i z zs order.0 at (λ y last. low y (omega arith) (ap (slice_get (z ∷ zs)) here ∙ last)) in
      let back = not_after z moved first in
      let next : suc i + 1 ≡ suc (i + 1) = omega arith in
      rw (other, first, back) (ap (λ rest. attachment z ∷ rest)
      (stays_listed i zs order.1 at (λ y some last. low y (omega arith) (ap (slice_get (z ∷ zs)) (here ∙ one_less i some) ∙ last)) (λ y after. high y (ap (slice_get (z ∷ zs)) next ∙ after))))
    where
      one_less : (i : ℕ) → 0 < i → i ≡ suc (i - 1)
      one_less i some = omega (arith, some)

-- as many attachments are as many rows
pub same_length : (more rows : List Placed) → attachments more ≡ attachments rows → length more ≡ length rows
same_length more rows same = sym (length-map more attachment) ∙ ap length same ∙ length-map rows attachment
