-- Which events are masked after the rows of masks change.
use Rattle.std.proofs.Common.{◌≡◌, ℕ, ◌==◌, ◌&&◌, ◌||◌, Bool, true, false, List, [], ◌∷◌, ◌++◌, flat_map, refl, sym, ◌∙◌, ap, subst, inl, inr, arith, not, Option, Some, None}
use Rattle.std.specs.Prelude.{if◌then◌else◌, nat_lt}
use Rattle.std.specs.List.{AllByRecursion, filter, list_any}
use Rattle.std.specs.Str.{bytes_eq}
use Rattle.std.proofs.lemmas.Bool.{and_parts, cases_Bool, cond_both, eqb-true}
use Rattle.std.proofs.lemmas.Bool.Decides.{nat_tests}
use Rattle.slee_value.specs.Order.{is_below}
use Rattle.rows_sorted.specs.Orders.{same_pair, triple_before}
use Rattle.router_laws.proofs.ListLemmas.{any_kept, any_lost, any_put_other, any_put_own}
use Rattle.router_laws.proofs.Removal.{in_list}
use Rattle.router_laws_written.proofs.Attributes.{text_sides, text_turned, texts_same}
use Rattle.router_laws_written.specs.Held.{has_mask}
use Rattle.router_state.specs.Changes.{after_changes}
use Rattle.router_state.specs.Contexts.{is_linked}
use Rattle.router_state.specs.Look.{masks_seen}
use Rattle.router_state.specs.Masks.{is_mask, is_mask_of, is_masked, mask_before, masks_of, with_mask, with_masks, without_mask, without_masks}
use Rattle.router_state.specs.State.{State}
use Rattle.router_state.specs.declared.change.Change.TheVariants as changes
use Rattle.router_state.specs.declared.rows.Link.{Link}
use Rattle.router_state.specs.declared.rows.Mask.{Mask}
use Rattle.router_steps.specs.Going.{all_removed, removed}
use Rattle.router_steps.specs.Moves.{changes_of_detaching}

texts_turn : (x y : List ℕ) → bytes_eq x y ≡ bytes_eq y x
texts_turn x y = elim (cases_Bool (bytes_eq x y)) [
  | inl is ↦ is ∙ sym (subst (λ z. bytes_eq z x ≡ true) (texts_same x y is) (subst (λ z. bytes_eq x z ≡ true) (sym (texts_same x y is)) is))
  | inr isnt ↦ isnt ∙ sym (text_turned x y isnt)
]

-- the masks of an attachment as a list of names

named_masks : (masks : List Mask) (e a : ℕ) (event : List ℕ) → list_any (bytes_eq event) (masks_of masks e a) ≡ is_masked masks e a event
named_masks [] e a event = refl
named_masks (m ∷ masks) e a event = elim (cases_Bool (is_mask_of e a m)) [
  | inl own ↦ rw (own, texts_turn event m.event) (ap (λ b. bytes_eq m.event event || b) (named_masks masks e a event))
  | inr other ↦ rw other (named_masks masks e a event)
]

-- what is seen of one event
abbrev pub mask_seen : State → ℕ → ℕ → List ℕ → Option Bool
mask_seen s e a event = if is_linked s.links e a then Some (is_masked s.masks e a event) else None

pub mask_is_seen : (s : State) (e a : ℕ) (event : List ℕ) → has_mask event (masks_seen s e a) ≡ mask_seen s e a event
mask_is_seen s e a event = by (is_linked s.links e a)
  where
    by : (b : Bool) → has_mask event (if b then Some (masks_of s.masks e a) else None) ≡ (if b then Some (is_masked s.masks e a event) else None)
    by true = ap Some (named_masks s.masks e a event)
    by false = refl

-- one more mask, and one less

parts_of : (x : Mask) (e a : ℕ) (event : List ℕ) → is_mask e a event x ≡ true → (x.entity.0 ≡ e) × (x.activity.0 ≡ a) × (x.event ≡ event)
parts_of x e a event is =
    let both = and_parts (is_mask_of e a x) (bytes_eq x.event event) is in
    let pair = and_parts (x.entity.0 == e) (x.activity.0 == a) both.0 in
    (eqb-true x.entity.0 e pair.0, eqb-true x.activity.0 a pair.1, texts_same x.event event both.1)

itself : (e a : ℕ) → same_pair e a e a ≡ true
itself e a = grind (arith, nat_tests)

pub masked_own : (masks : List Mask) (e a : ℕ) (name event : List ℕ) → is_masked (with_mask masks e a name) e a event ≡ (bytes_eq event name || is_masked masks e a event)
masked_own masks e a name event = elim (cases_Bool (bytes_eq event name)) [
  | inl is ↦ rw is (any_put_own mask_before (is_mask e a event) (record { entity = record { 0 = e }; activity = record { 0 = a }; event = name }) masks (rw (itself e a) (sym (texts_turn event name) ∙ is)))
  | inr isnt ↦ rw isnt (any_put_other mask_before (is_mask e a event) (record { entity = record { 0 = e }; activity = record { 0 = a }; event = name }) masks (rw (itself e a) (sym (texts_turn event name) ∙ isnt)) (λ x mine. apart x (parts_of x e a event mine) isnt))
]
  where
    level : (a : ℕ) → ((nat_lt a a) ≡ false) × ((a == a) ≡ true)
    level a = (grind (arith, nat_tests), grind (arith, nat_tests))

    either : (b : Bool) → (not b || b) ≡ true
    either true = refl
    either false = refl

    apart : (x : Mask) → (x.entity.0 ≡ e) × (x.activity.0 ≡ a) × (x.event ≡ event) → bytes_eq event name ≡ false
        → (triple_before x.activity.0 x.entity.0 x.event a e name || triple_before a e name x.activity.0 x.entity.0 x.event) ≡ true
    apart x (one, two, three) isnt =
        rw (one, two, three, (level a).0, (level a).1, (level e).0, (level e).1, text_sides event name isnt) (either (is_below name event))

pub masked_other : (masks : List Mask) (f b e a : ℕ) (name event : List ℕ) → same_pair f b e a ≡ false → is_masked (with_mask masks f b name) e a event ≡ is_masked masks e a event
masked_other masks f b e a name event other =
    any_put_other mask_before (is_mask e a event) (record { entity = record { 0 = f }; activity = record { 0 = b }; event = name }) masks (rw other refl)
    (λ x mine. apart x.entity.0 x.activity.0 (is_below x.event name) (is_below name x.event) (and_parts (is_mask_of e a x) (bytes_eq x.event event) mine).0 other)
  where
    apart : (x y : ℕ) (u v : Bool) → same_pair x y e a ≡ true → same_pair f b e a ≡ false → ((nat_lt y b || ((y == b) && (nat_lt x f || ((x == f) && u)))) || (nat_lt b y || ((b == y) && (nat_lt f x || ((f == x) && v))))) ≡ true
    apart x y u v mine other = grind (arith, nat_tests)

pub unmasked_own : (masks : List Mask) (e a : ℕ) (name event : List ℕ) → is_masked (without_mask masks e a name) e a event ≡ (not (bytes_eq event name) && is_masked masks e a event)
unmasked_own masks e a name event = elim (cases_Bool (bytes_eq event name)) [
  | inl is ↦ rw is (any_lost (is_mask e a event) (λ m. not (is_mask e a name m)) (λ x mine. goes x (parts_of x e a event mine) is) masks)
  | inr isnt ↦ rw isnt (any_kept (is_mask e a event) (λ m. not (is_mask e a name m)) (λ x mine. stays x (parts_of x e a event mine) isnt) masks)
]
  where
    goes : (x : Mask) → (x.entity.0 ≡ e) × (x.activity.0 ≡ a) × (x.event ≡ event) → bytes_eq event name ≡ true → not (is_mask e a name x) ≡ false
    goes x (one, two, three) is = rw (one, two, three, itself e a, is) refl

    stays : (x : Mask) → (x.entity.0 ≡ e) × (x.activity.0 ≡ a) × (x.event ≡ event) → bytes_eq event name ≡ false → not (is_mask e a name x) ≡ true
    stays x (one, two, three) isnt = rw (one, two, three, itself e a, isnt) refl

pub unmasked_other : (masks : List Mask) (f b e a : ℕ) (name event : List ℕ) → same_pair f b e a ≡ false → is_masked (without_mask masks f b name) e a event ≡ is_masked masks e a event
unmasked_other masks f b e a name event other =
    any_kept (is_mask e a event) (λ m. not (is_mask f b name m)) (λ x mine. stays x.entity.0 x.activity.0 (bytes_eq x.event name) (and_parts (is_mask_of e a x) (bytes_eq x.event event) mine).0 other) masks
  where
    stays : (x y : ℕ) (u : Bool) → same_pair x y e a ≡ true → same_pair f b e a ≡ false → not (same_pair x y f b && u) ≡ true
    stays x y u mine other = grind (arith, nat_tests)

pub forgotten_own : (masks : List Mask) (e a : ℕ) (event : List ℕ) → is_masked (without_masks masks e a) e a event ≡ false
forgotten_own masks e a event = any_lost (is_mask e a event) (λ m. not (is_mask_of e a m)) (λ x mine. ap not (and_parts (is_mask_of e a x) (bytes_eq x.event event) mine).0) masks

pub forgotten_other : (masks : List Mask) (f b e a : ℕ) (event : List ℕ) → same_pair f b e a ≡ false → is_masked (without_masks masks f b) e a event ≡ is_masked masks e a event
forgotten_other masks f b e a event other =
    any_kept (is_mask e a event) (λ m. not (is_mask_of f b m)) (λ x mine. stays x.entity.0 x.activity.0 (and_parts (is_mask_of e a x) (bytes_eq x.event event) mine).0 other) masks
  where
    stays : (x y : ℕ) → same_pair x y e a ≡ true → same_pair f b e a ≡ false → not (same_pair x y f b) ≡ true
    stays x y mine other = grind (arith, nat_tests)

-- the masks with which an attachment begins

pub first_own : (masks : List Mask) (e a : ℕ) (names : List (List ℕ)) (event : List ℕ) → is_masked (with_masks masks e a names) e a event ≡ (list_any (bytes_eq event) names || is_masked masks e a event)
first_own masks e a [] event = refl
first_own masks e a (name ∷ names) event =
    first_own (with_mask masks e a name) e a names event ∙ ap (λ b. list_any (bytes_eq event) names || b) (masked_own masks e a name event) ∙ turned (list_any (bytes_eq event) names) (bytes_eq event name) (is_masked masks e a event)
  where
    turned : (x y z : Bool) → (x || (y || z)) ≡ ((y || x) || z)
    turned true true z = refl
    turned true false z = refl
    turned false true z = refl
    turned false false z = refl

pub first_other : (masks : List Mask) (f b e a : ℕ) (names : List (List ℕ)) (event : List ℕ) → same_pair f b e a ≡ false → is_masked (with_masks masks f b names) e a event ≡ is_masked masks e a event
first_other masks f b e a [] event other = refl
first_other masks f b e a (name ∷ names) event other = first_other (with_mask masks f b name) f b e a names event other ∙ masked_other masks f b e a name event other

-- the masks of what stays when several entities go

masks_gone : (links : List Link) (g : ℕ) (s : State) (e a : ℕ) (event : List ℕ) → AllByRecursion (λ (l : Link). (l.entity.0 == e) ≡ false) links
    → is_masked (after_changes (flat_map changes_of_detaching links ++ changes.ForgetFields (record { 0 = g }) ∷ changes.Remove (record { 0 = g }) ∷ []) s).masks e a event ≡ is_masked s.masks e a event
masks_gone [] g s e a event out = refl
masks_gone (l ∷ links) g s e a event out =
    masks_gone links g (after_changes (changes_of_detaching l) s) e a event out.1 ∙ forgotten_other s.masks l.entity.0 l.activity.0 e a event (ap (λ b. b && (l.activity.0 == a)) out.0)

pub masks_left : (gone : List ℕ) (s : State) (e a : ℕ) (event : List ℕ) → in_list e gone ≡ false → is_masked (all_removed gone s).masks e a event ≡ is_masked s.masks e a event
masks_left [] s e a event out = refl
masks_left (g ∷ gone) s e a event out =
    let parts = neither (g == e) (in_list e gone) out in
    masks_left gone (removed s g) e a event parts.1 ∙ masks_gone (filter (λ (l : Link). l.entity.0 == g) s.links) g s e a event (others s.links parts.0)
  where
    neither : (b c : Bool) → (b || c) ≡ false → (b ≡ false) × (c ≡ false)
    neither true c is = absurd (cc)
    neither false c is = (refl, is)

    apart : (x g e : ℕ) → (x == g) ≡ true → (g == e) ≡ false → (x == e) ≡ false
    apart x g e own other = grind (arith, nat_tests)

    others : (links : List Link) → (g == e) ≡ false → AllByRecursion (λ (l : Link). (l.entity.0 == e) ≡ false) (filter (λ (l : Link). l.entity.0 == g) links)
    others [] other = tt
    others (l ∷ links) other =
        cond_both (l.entity.0 == g) (l ∷ filter (λ (k : Link). k.entity.0 == g) links) (filter (λ (k : Link). k.entity.0 == g) links) (AllByRecursion (λ (k : Link). (k.entity.0 == e) ≡ false))
        (λ own. (apart l.entity.0 g e own other, others links other)) (λ _. others links other)
