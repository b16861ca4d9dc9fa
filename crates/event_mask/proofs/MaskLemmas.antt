-- A mask is found by its key.
use Rattle.std.proofs.Common.{◌≡◌, ℕ, ◌==◌, Bool, true, false, List, ◌∷◌, refl}
use Rattle.std.specs.Prelude.{not, ◌&&◌}
use Rattle.std.specs.List.{filter, list_any}
use Rattle.std.specs.Str.{bytes_eq}
use Rattle.router_state.specs.Masks.{is_mask, is_mask_of, is_masked, with_mask, with_masks, without_mask, without_masks}
use Rattle.router_state.specs.declared.rows.Mask.{Mask}
use Rattle.rows_sorted.specs.Keys.{is_key, is_pair}
use Rattle.router_state.specs.Keys.{mask_key}

swapped : (x y z : Bool) → (y && (x && z)) ≡ ((x && y) && z)
swapped true true z = refl
swapped true false z = refl
swapped false true z = refl
swapped false false z = refl

turned : (x y : Bool) → (y && x) ≡ (x && y)
turned true true = refl
turned true false = refl
turned false true = refl
turned false false = refl

key_is_mask : (e a : ℕ) (event : List ℕ) (m : Mask) → is_key (mask_key m) (record { first = a; second = e; text = event }) ≡ is_mask e a event m
key_is_mask e a event m = swapped (m.entity.0 == e) (m.activity.0 == a) (bytes_eq m.event event)

pair_is_mask : (e a : ℕ) (m : Mask) → is_pair a e (mask_key m) ≡ is_mask_of e a m
pair_is_mask e a m = turned (m.entity.0 == e) (m.activity.0 == a)

pub any_mask : (e a : ℕ) (event : List ℕ) (masks : List Mask) → list_any (λ m. is_key (mask_key m) (record { first = a; second = e; text = event })) masks ≡ is_masked masks e a event
any_mask e a event masks = λ i. list_any (λ m. key_is_mask e a event m i) masks

pub mask_cut : (e a : ℕ) (event : List ℕ) (masks : List Mask) → filter (λ m. not (is_key (mask_key m) (record { first = a; second = e; text = event }))) masks ≡ without_mask masks e a event
mask_cut e a event masks = λ i. filter (λ m. not (key_is_mask e a event m i)) masks

pub masks_cut : (e a : ℕ) (masks : List Mask) → filter (λ m. not (is_pair a e (mask_key m))) masks ≡ without_masks masks e a
masks_cut e a masks = λ i. filter (λ m. not (pair_is_mask e a m i)) masks

pub masks_shared : (e a : ℕ) (masks : List Mask) → filter (λ m. is_pair a e (mask_key m)) masks ≡ filter (is_mask_of e a) masks
masks_shared e a masks = λ i. filter (λ m. pair_is_mask e a m i) masks

-- one of the events that are left is masked too
pub mask_on : (e a : ℕ) (events left : List (List ℕ)) (event : List ℕ) (masks after whole : List Mask)
    → events ≡ event ∷ left → after ≡ with_mask masks e a event → with_masks masks e a events ≡ whole → with_masks after e a left ≡ whole
mask_on e a events left event masks after whole cut made same = rw made (rw cut at same)
