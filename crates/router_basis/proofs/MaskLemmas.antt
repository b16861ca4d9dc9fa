-- Masked events are put in order, those of the last handler first.
use Rattle.std.proofs.Common.{◌≡◌, ℕ, zero, suc, ◌+◌, ◌-◌, ◌<◌, ◌≤◌, true, false, List, [], ◌∷◌, ◌++◌, length, take, drop, slice_get, Some, refl, ◌∙◌, ap, arith, inl, inr}
use Rattle.std.proofs.lemmas.Bool.{cases_Bool}
use Rattle.slee_value.specs.Order.{is_below}
use Rattle.script_types.specs.declared.codes.HandlerCode.{HandlerCode}
use Rattle.deploy_model.specs.Deployed.{with_text}
use Rattle.router_basis.specs.Masks.{masks, place_for}

-- a text is put before the first one that stands behind it
pub put_at_place : (text : List ℕ) (texts : List (List ℕ)) → take (place_for text texts) texts ++ text ∷ drop (place_for text texts) texts ≡ with_text text texts
put_at_place text [] = refl
put_at_place text (other ∷ texts) = elim (cases_Bool (is_below text other)) [
  | inl below ↦ rw below refl
  | inr above ↦
      let one : place_for text texts + 1 ≡ suc (place_for text texts) = omega arith in
      rw (above, one) (ap (λ (more : List (List ℕ)). other ∷ more) (put_at_place text texts))
]

-- the handlers from a place on
from_place : (handlers : List HandlerCode) (k : ℕ) (h : HandlerCode) → slice_get handlers k ≡ Some h → drop k handlers ≡ h ∷ drop (suc k) handlers
from_place [] k h is = absurd cc
from_place (x ∷ xs) zero h is = let same : x ≡ h = cc in rw same refl
from_place (x ∷ xs) (suc k) h is = from_place xs k h is

behind_one : (len i : ℕ) → i < len → suc (len - 1 - i) ≡ len - i
behind_one len i low = omega (arith, low)

masked_at : (handlers : List HandlerCode) (k : ℕ) (h : HandlerCode) → slice_get handlers k ≡ Some h → h.mask ≡ true → masks (drop k handlers) ≡ with_text h.event (masks (drop (suc k) handlers))
masked_at handlers k h is on = rw (from_place handlers k h is, on) refl

unmasked_at : (handlers : List HandlerCode) (k : ℕ) (h : HandlerCode) → slice_get handlers k ≡ Some h → h.mask ≡ false → masks (drop k handlers) ≡ masks (drop (suc k) handlers)
unmasked_at handlers k h is off = rw (from_place handlers k h is, off) refl

pub one_masked : (handlers : List HandlerCode) (i : ℕ) (h : HandlerCode) → i < length handlers → slice_get handlers (length handlers - 1 - i) ≡ Some h → h.mask ≡ true
    → masks (drop (length handlers - (i + 1)) handlers) ≡ with_text h.event (masks (drop (length handlers - i) handlers))
one_masked handlers i h low is on =
    let at : length handlers - (i + 1) ≡ length handlers - 1 - i = omega (arith, low) in
    ap (λ (n : ℕ). masks (drop n handlers)) at
    ∙ masked_at handlers (length handlers - 1 - i) h is on
    ∙ ap (λ (n : ℕ). with_text h.event (masks (drop n handlers))) (behind_one (length handlers) i low)

pub one_unmasked : (handlers : List HandlerCode) (i : ℕ) (h : HandlerCode) → i < length handlers → slice_get handlers (length handlers - 1 - i) ≡ Some h → h.mask ≡ false
    → masks (drop (length handlers - (i + 1)) handlers) ≡ masks (drop (length handlers - i) handlers)
one_unmasked handlers i h low is off =
    let at : length handlers - (i + 1) ≡ length handlers - 1 - i = omega (arith, low) in
    ap (λ (n : ℕ). masks (drop n handlers)) at
    ∙ unmasked_at handlers (length handlers - 1 - i) h is off
    ∙ ap (λ (n : ℕ). masks (drop n handlers)) (behind_one (length handlers) i low)

dropped_all : (handlers : List HandlerCode) → drop (length handlers) handlers ≡ []
dropped_all [] = refl
dropped_all (x ∷ xs) = dropped_all xs

-- before the first step none are left, and behind the last one all
pub all_masked : (handlers : List HandlerCode) → (masks (drop (length handlers - 0) handlers) ≡ []) × (masks (drop (length handlers - length handlers) handlers) ≡ masks handlers)
all_masked handlers =
    let none : length handlers - 0 ≡ length handlers = omega arith in
    let all : length handlers - length handlers ≡ 0 = omega arith in
    (rw (none, dropped_all handlers) refl, rw all refl)

-- that place is one of the list
pub place_within : (text : List ℕ) (texts : List (List ℕ)) → place_for text texts ≤ length texts
place_within text [] = omega arith
place_within text (other ∷ texts) = elim (cases_Bool (is_below text other)) [
  | inl below ↦ rw below (omega arith)
  | inr above ↦ rw above (omega (arith, place_within text texts))
]
