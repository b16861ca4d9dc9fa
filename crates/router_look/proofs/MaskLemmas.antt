-- The events that an entity masks on an activity rise.
use Rattle.std.proofs.Common.{◌≡◌, ℕ, ◌==◌, true, false, List, [], ◌∷◌, map, refl, arith, inl, inr}
use Rattle.std.specs.Prelude.{nat_lt, filter}
use Rattle.std.specs.List.{AllByRecursion}
use Rattle.std.proofs.lemmas.Bool.{cases_Bool, and_parts}
use Rattle.std.proofs.lemmas.Bool.Decides.{nat_tests}
use Rattle.slee_value.specs.Order.{is_below, rises}
use Rattle.rows_sorted.specs.Orders.{rises_by}
use Rattle.rows_sorted.proofs.OrderLemmas.{AllInOrder, IsBefore, in_order, order_filter}
use Rattle.router_state.specs.Keys.{mask_key}
use Rattle.router_state.specs.Masks.{is_mask_of, mask_before}
use Rattle.router_state.specs.declared.rows.Mask.{Mask}

module _ (e a : ℕ) where
  lower_event : (x y : Mask) → is_mask_of e a x ≡ true → is_mask_of e a y ≡ true → mask_before x y ≡ true → is_below x.event y.event ≡ true
  lower_event x y own other before =
      let one = and_parts (x.entity.0 == e) (x.activity.0 == a) own in
      let two = and_parts (y.entity.0 == e) (y.activity.0 == a) other in
      let entity_x = one.0 in
      let activity_x = one.1 in
      let entity_y = two.0 in
      let activity_y = two.1 in
      let activities_low : nat_lt x.activity.0 y.activity.0 ≡ false = grind (arith, nat_tests, activity_x, activity_y) in
      let activities_same : (x.activity.0 == y.activity.0) ≡ true = grind (arith, nat_tests, activity_x, activity_y) in
      let entities_low : nat_lt x.entity.0 y.entity.0 ≡ false = grind (arith, nat_tests, entity_x, entity_y) in
      let entities_same : (x.entity.0 == y.entity.0) ≡ true = grind (arith, nat_tests, entity_x, entity_y) in
      rw (activities_low, activities_same, entities_low, entities_same) at before

  rise_each : (masks : List Mask) → AllInOrder (IsBefore mask_key) masks → AllByRecursion (λ m. is_mask_of e a m ≡ true) masks → rises (map (λ m. m.event) masks) ≡ true
  rise_each [] order own = refl
  rise_each (x ∷ []) order own = refl
  rise_each (x ∷ y ∷ masks) order own =
      let low = lower_event x y own.0 own.1.0 order.0.0 in
      rw low (rise_each (y ∷ masks) order.1 own.1)

  all_own : (masks : List Mask) → AllByRecursion (λ m. is_mask_of e a m ≡ true) (filter (is_mask_of e a) masks)
  all_own [] = tt
  all_own (x ∷ xs) = elim (cases_Bool (is_mask_of e a x)) [
    | inl mine ↦ rw mine (mine, all_own xs)
    | inr other ↦ rw other (all_own xs)
  ]

  pub events_rise : (masks : List Mask) → rises_by mask_before masks ≡ true → rises (map (λ m. m.event) (filter (is_mask_of e a) masks)) ≡ true
  events_rise masks order = rise_each (filter (is_mask_of e a) masks) (order_filter (IsBefore mask_key) (is_mask_of e a) masks (in_order mask_key masks order)) (all_own masks)
