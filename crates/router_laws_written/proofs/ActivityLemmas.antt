-- What a run reads of the activities of an entity after its own effects are those to which it is attached once they are done, while it stays.
use Rattle.std.proofs.Common.{◌≡◌, ℕ, ◌+◌, ◌-◌, ◌==◌, ◌&&◌, ◌||◌, Bool, true, false, List, [], ◌∷◌, map, refl, sym, ◌∙◌, ap, subst, inl, inr, arith, not, if◌then◌else◌}
use Rattle.std.specs.Prelude.{is_some, nat_lt}
use Rattle.std.specs.List.{AllByRecursion, filter, list_all, list_any}
use Rattle.std.proofs.lemmas.Bool.{and_parts, cases_Bool, cond_both, eqb-true, ltb-true, lt-ltb}
use Rattle.std.proofs.lemmas.Bool.Decides.{nat_tests}
use Rattle.slee_effect.specs.Resolving.{resolved_ref}
use Rattle.slee_effect.specs.declared.effect.Effect.{Effect}
use Rattle.slee_effect.specs.declared.effect.Effect.TheVariants as effects
use Rattle.slee_effect.specs.declared.next.Next.{Next}
use Rattle.slee_effect.specs.declared.reference.Ref.{Ref}
use Rattle.slee_effect.specs.declared.reference.Ref.TheVariants.{Known, Fresh}
use Rattle.script_meaning.specs.Overlay.{activities_after, activities_by, attached_after, is_before, overlay, overlay_from, put, same_ref}
use Rattle.rows_sorted.specs.Orders.{rises_by}
use Rattle.router_laws.proofs.Removal.{in_list}
use Rattle.router_laws.proofs.RisingLemmas.{InOrder, order_from_rises}
use Rattle.router_laws_applying.proofs.Links.{LinksOld}
use Rattle.router_laws_applying.proofs.References.{same_numbers}
use Rattle.router_laws_applying.specs.Behind.{attached_told}
use Rattle.router_laws_applying.specs.Seen.{linked_in}
use Rattle.router_laws_effects.specs.Runs.{IsOld}
use Rattle.router_laws_sound.proofs.SoundBase.{activities_drawn, there_below}
use Rattle.router_laws_sound.proofs.SoundLinks.{link_joins}
use Rattle.router_laws_written.proofs.RisingNumbers.{Rise, same_members}
use Rattle.router_laws_written.specs.Held.{activities_held, activities_told, activity_numbers}
use Rattle.router_state.specs.Contexts.{activities_of, activity_at, is_linked, link_before}
use Rattle.router_state.specs.State.{State}
use Rattle.router_state.specs.Trees.{entity_at}
use Rattle.router_state.specs.Well.{IsSound}
use Rattle.router_state.specs.WellContexts.{is_link_row}
use Rattle.router_state.specs.declared.rows.Activity.{Activity}
use Rattle.router_state.specs.declared.rows.Link.{Link}
use Rattle.router_steps.specs.Effects.{next_in, number_in}

-- the activities of an entity in a list of attachments that rises

activities_rise : (links : List Link) (e : ℕ) → InOrder link_before links → Rise (activities_of links e)
activities_rise [] e order = tt
activities_rise (l ∷ links) e order =
    cond_both (l.entity.0 == e) (l ∷ filter (λ (m : Link). m.entity.0 == e) links) (filter (λ (m : Link). m.entity.0 == e) links) (λ ls. Rise (map (λ (m : Link). m.activity.0) ls))
    (λ own. (later links own order.0, activities_rise links e order.1)) (λ _. activities_rise links e order.1)
  where
    less : (x y p q e : ℕ) → (p == e) ≡ true → (q == e) ≡ true → (nat_lt x y || ((x == y) && nat_lt p q)) ≡ true → nat_lt x y ≡ true
    less x y p q e one two is = grind (arith, nat_tests)

    later : (rest : List Link) → (l.entity.0 == e) ≡ true → AllByRecursion (λ (m : Link). link_before l m ≡ true) rest → AllByRecursion (λ k. nat_lt l.activity.0 k ≡ true) (map (λ (m : Link). m.activity.0) (filter (λ (m : Link). m.entity.0 == e) rest))
    later [] own all = tt
    later (m ∷ rest) own all =
        cond_both (m.entity.0 == e) (m ∷ filter (λ (m : Link). m.entity.0 == e) rest) (filter (λ (m : Link). m.entity.0 == e) rest) (λ ls. AllByRecursion (λ k. nat_lt l.activity.0 k ≡ true) (map (λ (m : Link). m.activity.0) ls))
        (λ mine. (less l.activity.0 m.activity.0 l.entity.0 m.entity.0 e own mine all.0, later rest own all.1)) (λ _. later rest own all.1)

linked_among : (links : List Link) (e k : ℕ) → in_list k (activities_of links e) ≡ is_linked links e k
linked_among [] e k = refl
linked_among (l ∷ links) e k = elim (cases_Bool (l.entity.0 == e)) [
  | inl own ↦ rw own (ap (λ b. (l.activity.0 == k) || b) (linked_among links e k))
  | inr other ↦ rw other (linked_among links e k)
]

links_order : (s : State) → IsSound s → InOrder link_before s.links
links_order s sound = order_from_rises link_before link_joins s.links (and_parts (rises_by link_before s.links) (list_all (is_link_row s.entities s.activities) s.links) sound.links).0

activities_there : (s : State) (links : List Link) (e : ℕ) → IsSound s → list_all (is_link_row s.entities s.activities) links ≡ true → AllByRecursion (IsOld s.next_activity) (map Known (activities_of links e))
activities_there s [] e sound all = tt
activities_there s (l ∷ links) e sound all =
    let parts = and_parts (is_link_row s.entities s.activities l) (list_all (is_link_row s.entities s.activities) links) all in
    let there = (and_parts (is_some (entity_at s.entities l.entity.0)) (is_some (activity_at s.activities l.activity.0)) parts.0).1 in
    cond_both (l.entity.0 == e) (l ∷ filter (λ (m : Link). m.entity.0 == e) links) (filter (λ (m : Link). m.entity.0 == e) links) (λ ls. AllByRecursion (IsOld s.next_activity) (map Known (map (λ (m : Link). m.activity.0) ls)))
    (λ _. (ltb-true l.activity.0 s.next_activity (there_below (λ (r : Activity). r.number.0) s.next_activity l.activity.0 s.activities there (activities_drawn s.deployment s.activities s.next_activity sound.activities)), activities_there s links e sound parts.1))
    (λ _. activities_there s links e sound parts.1)

-- references in order

abbrev InPlace : List Ref → Type 0
InPlace refs = InOrder is_before refs

before_numbers : (next : ℕ) (a b : Ref) → IsOld next a → IsOld next b → is_before a b ≡ true → nat_lt (number_in (resolved_ref next a)) (number_in (resolved_ref next b)) ≡ true
before_numbers next (Known i) (Known j) one two is = is
before_numbers next (Known i) (Fresh j) one two is = lt-ltb i (next + j) (omega (arith, one))
before_numbers next (Fresh i) (Known j) one two is = absurd (cc)
before_numbers next (Fresh i) (Fresh j) one two is = moved next i j is
  where
    moved : (n i j : ℕ) → nat_lt i j ≡ true → nat_lt (n + i) (n + j) ≡ true
    moved n i j is = grind (arith, nat_tests)

before_joins : (a b c : Ref) → is_before a b ≡ true → is_before b c ≡ true → is_before a c ≡ true
before_joins (Known a) (Known b) (Known c) one two = less a b c one two
  where
    less : (a b c : ℕ) → nat_lt a b ≡ true → nat_lt b c ≡ true → nat_lt a c ≡ true
    less a b c one two = grind (arith, nat_tests)
before_joins (Known a) (Known b) (Fresh c) one two = refl
before_joins (Known a) (Fresh b) (Known c) one two = absurd (cc)
before_joins (Known a) (Fresh b) (Fresh c) one two = refl
before_joins (Fresh a) (Known b) c one two = absurd (cc)
before_joins (Fresh a) (Fresh b) (Known c) one two = absurd (cc)
before_joins (Fresh a) (Fresh b) (Fresh c) one two = less a b c one two
  where
    less : (a b c : ℕ) → nat_lt a b ≡ true → nat_lt b c ≡ true → nat_lt a c ≡ true
    less a b c one two = grind (arith, nat_tests)

-- of two references that don't name the same one comes before the other
before_sides : (a b : Ref) → same_ref a b ≡ false → is_before a b ≡ false → is_before b a ≡ true
before_sides (Known a) (Known b) other isnt = turned a b other isnt
  where
    turned : (a b : ℕ) → (a == b) ≡ false → nat_lt a b ≡ false → nat_lt b a ≡ true
    turned a b other isnt = grind (arith, nat_tests)
before_sides (Known a) (Fresh b) other isnt = absurd (cc)
before_sides (Fresh a) (Known b) other isnt = refl
before_sides (Fresh a) (Fresh b) other isnt = turned a b other isnt
  where
    turned : (a b : ℕ) → (a == b) ≡ false → nat_lt a b ≡ false → nat_lt b a ≡ true
    turned a b other isnt = grind (arith, nat_tests)

same_is : (a b : Ref) → same_ref a b ≡ true → a ≡ b
same_is (Known a) (Known b) is = ap Known (eqb-true a b is)
same_is (Known a) (Fresh b) is = absurd (cc)
same_is (Fresh a) (Known b) is = absurd (cc)
same_is (Fresh a) (Fresh b) is = ap Fresh (eqb-true a b is)

all_put : (P : Ref → Type 0) (r : Ref) (xs : List Ref) → P r → AllByRecursion P xs → AllByRecursion P (put r xs)
all_put P r [] one all = (one, tt)
all_put P r (x ∷ xs) one all =
    cond_both (same_ref r x) (x ∷ xs) (if is_before r x then r ∷ x ∷ xs else x ∷ put r xs) (AllByRecursion P) (λ _. all)
    (λ _. cond_both (is_before r x) (r ∷ x ∷ xs) (x ∷ put r xs) (AllByRecursion P) (λ _. (one, all)) (λ _. (all.0, all_put P r xs one all.1)))

all_left : (P : Ref → Type 0) (p : Ref → Bool) (xs : List Ref) → AllByRecursion P xs → AllByRecursion P (filter p xs)
all_left P p [] all = tt
all_left P p (x ∷ xs) all = cond_both (p x) (x ∷ filter p xs) (filter p xs) (AllByRecursion P) (λ _. (all.0, all_left P p xs all.1)) (λ _. all_left P p xs all.1)

all_after : (r x : Ref) (xs : List Ref) → is_before r x ≡ true → AllByRecursion (λ y. is_before x y ≡ true) xs → AllByRecursion (λ y. is_before r y ≡ true) xs
all_after r x [] is all = tt
all_after r x (y ∷ xs) is all = (before_joins r x y is all.0, all_after r x xs is all.1)

put_in_place : (r : Ref) (xs : List Ref) → InPlace xs → InPlace (put r xs)
put_in_place r [] place = (tt, tt)
put_in_place r (x ∷ xs) place = elim (cases_Bool (same_ref r x)) [
  | inl same ↦ rw same place
  | inr other ↦ elim (cases_Bool (is_before r x)) [
    | inl first ↦ rw (other, first) ((first, all_after r x xs first place.0), place)
    | inr isnt ↦ rw (other, isnt) (all_put (λ y. is_before x y ≡ true) r xs (before_sides r x other isnt) place.0, put_in_place r xs place.1)
  ]
]

left_in_place : (p : Ref → Bool) (xs : List Ref) → InPlace xs → InPlace (filter p xs)
left_in_place p [] place = tt
left_in_place p (x ∷ xs) place = cond_both (p x) (x ∷ filter p xs) (filter p xs) InPlace (λ _. (all_left (λ y. is_before x y ≡ true) p xs place.0, left_in_place p xs place.1)) (λ _. left_in_place p xs place.1)

numbers_rise : (next : Next) (refs : List Ref) → AllByRecursion (IsOld next.activity) refs → InPlace refs → Rise (activity_numbers next refs)
numbers_rise next [] old place = tt
numbers_rise next (r ∷ refs) old place = (later refs old.1 place.0, numbers_rise next refs old.1 place.1)
  where
    later : (rest : List Ref) → AllByRecursion (IsOld next.activity) rest → AllByRecursion (λ y. is_before r y ≡ true) rest → AllByRecursion (λ k. nat_lt (number_in (resolved_ref next.activity r)) k ≡ true) (activity_numbers next rest)
    later [] olds all = tt
    later (y ∷ rest) olds all = (before_numbers next.activity r y old.0 olds.0 all.0, later rest olds.1 all.1)

-- what is among references

abbrev among : Ref → List Ref → Bool
among r refs = list_any (λ x. same_ref x r) refs

among_numbers : (next : Next) (r : Ref) (refs : List Ref) → IsOld next.activity r → AllByRecursion (IsOld next.activity) refs → in_list (number_in (resolved_ref next.activity r)) (activity_numbers next refs) ≡ among r refs
among_numbers next r [] mine old = refl
among_numbers next r (x ∷ refs) mine old = rw (same_numbers next.activity x r old.0 mine) (ap (λ b. same_ref x r || b) (among_numbers next r refs mine old.1))

among_put : (r activity : Ref) (refs : List Ref) → among r (put activity refs) ≡ (same_ref activity r || among r refs)
among_put r activity [] = refl
among_put r activity (x ∷ refs) = elim (cases_Bool (same_ref activity x)) [
  | inl same ↦ rw same (subst (λ y. (same_ref x r || among r refs) ≡ (same_ref y r || (same_ref x r || among r refs))) (sym (same_is activity x same)) (twice (same_ref x r) (among r refs)))
  | inr other ↦ elim (cases_Bool (is_before activity x)) [
    | inl first ↦ rw (other, first) refl
    | inr isnt ↦ rw (other, isnt) (ap (λ b. same_ref x r || b) (among_put r activity refs) ∙ turned (same_ref x r) (same_ref activity r) (among r refs))
  ]
]
  where
    twice : (b c : Bool) → (b || c) ≡ (b || (b || c))
    twice true c = refl
    twice false c = refl

    turned : (b c d : Bool) → (b || (c || d)) ≡ (c || (b || d))
    turned true true d = refl
    turned true false d = refl
    turned false true d = refl
    turned false false d = refl

among_left : (r activity : Ref) (refs : List Ref) → among r (filter (λ x. not (same_ref x activity)) refs) ≡ (not (same_ref activity r) && among r refs)
among_left r activity [] = by (same_ref activity r)
  where
    by : (b : Bool) → false ≡ (not b && false)
    by true = refl
    by false = refl
among_left r activity (x ∷ refs) = elim (cases_Bool (same_ref x activity)) [
  | inl same ↦ rw same (among_left r activity refs ∙ own (same_is x activity same))
  | inr other ↦ rw other (elim (cases_Bool (same_ref x r)) [
    | inl mine ↦ (let stays : same_ref activity r ≡ false = apart (same_is x r mine) other in rw (mine, stays) refl)
    | inr isnt ↦ rw isnt (among_left r activity refs)
  ])
]
  where
    cover : (b c : Bool) → (not b && c) ≡ (not b && (b || c))
    cover true c = refl
    cover false c = refl

    own : x ≡ activity → (not (same_ref activity r) && among r refs) ≡ (not (same_ref activity r) && (same_ref x r || among r refs))
    own same = subst (λ y. (not (same_ref activity r) && among r refs) ≡ (not (same_ref activity r) && (same_ref y r || among r refs))) (sym same) (cover (same_ref activity r) (among r refs))

    apart : x ≡ r → same_ref x activity ≡ false → same_ref activity r ≡ false
    apart same other = turn activity r (subst (λ y. same_ref y activity ≡ false) same other)
      where
        turn : (a b : Ref) → same_ref b a ≡ false → same_ref a b ≡ false
        turn (Known a) (Known b) is = flip a b is
          where
            flip : (a b : ℕ) → (b == a) ≡ false → (a == b) ≡ false
            flip a b is = grind (arith, nat_tests)
        turn (Known a) (Fresh b) is = refl
        turn (Fresh a) (Known b) is = refl
        turn (Fresh a) (Fresh b) is = flip a b is
          where
            flip : (a b : ℕ) → (b == a) ≡ false → (a == b) ≡ false
            flip a b is = grind (arith, nat_tests)

-- one effect: what is among the activities, their order, and that they are old

among_step : (e r : Ref) (n : ℕ) (x : Effect) (refs : List Ref) (b : Bool) → among r refs ≡ b → among r (activities_after e n x refs) ≡ attached_after e r n x b
among_step e r n (effects.SetField entity field value) refs b is = is
among_step e r n (effects.SetAttr activity key value) refs b is = is
among_step e r n (effects.Create parent under priority) refs b is = is
among_step e r n (effects.Remove entity) refs b is = is
among_step e r n (effects.SetPriority entity priority) refs b is = is
among_step e r n (effects.Attach entity activity) refs b is = elim (cases_Bool (same_ref entity e)) [
  | inl own ↦ rw own (among_put r activity refs ∙ ap (λ c. same_ref activity r || c) is)
  | inr other ↦ rw other is
]
among_step e r n (effects.Detach entity activity) refs b is = elim (cases_Bool (same_ref entity e)) [
  | inl own ↦ rw own (among_left r activity refs ∙ ap (λ c. not (same_ref activity r) && c) is)
  | inr other ↦ rw other is
]
among_step e r n (effects.SetMask entity activity event on) refs b is = is
among_step e r n (effects.Fire activity event service fields) refs b is = is
among_step e r n effects.NewNull refs b is = is
among_step e r n (effects.EndNull activity) refs b is = is
among_step e r n (effects.SetTimer activity start period times keep) refs b is = is
among_step e r n (effects.CancelTimer timer) refs b is = is
among_step e r n (effects.Bind word activity) refs b is = is
among_step e r n (effects.Unbind word) refs b is = is
among_step e r n (effects.Emit entity text) refs b is = is
among_step e r n (effects.Usage entity usage amount) refs b is = is
among_step e r n (effects.Suspend activity until) refs b is = is
among_step e r n (effects.Resume activity) refs b is = is

place_step : (e : Ref) (n : ℕ) (x : Effect) (refs : List Ref) → InPlace refs → InPlace (activities_after e n x refs)
place_step e n (effects.SetField entity field value) refs place = place
place_step e n (effects.SetAttr activity key value) refs place = place
place_step e n (effects.Create parent under priority) refs place = place
place_step e n (effects.Remove entity) refs place = place
place_step e n (effects.SetPriority entity priority) refs place = place
place_step e n (effects.Attach entity activity) refs place = cond_both (same_ref entity e) (put activity refs) refs InPlace (λ _. put_in_place activity refs place) (λ _. place)
place_step e n (effects.Detach entity activity) refs place =
    cond_both (same_ref entity e) (filter (λ r. not (same_ref r activity)) refs) refs InPlace (λ _. left_in_place (λ r. not (same_ref r activity)) refs place) (λ _. place)
place_step e n (effects.SetMask entity activity event on) refs place = place
place_step e n (effects.Fire activity event service fields) refs place = place
place_step e n effects.NewNull refs place = place
place_step e n (effects.EndNull activity) refs place = place
place_step e n (effects.SetTimer activity start period times keep) refs place = place
place_step e n (effects.CancelTimer timer) refs place = place
place_step e n (effects.Bind word activity) refs place = place
place_step e n (effects.Unbind word) refs place = place
place_step e n (effects.Emit entity text) refs place = place
place_step e n (effects.Usage entity usage amount) refs place = place
place_step e n (effects.Suspend activity until) refs place = place
place_step e n (effects.Resume activity) refs place = place

pub olds_step : (next : Next) (e : Ref) (n : ℕ) (x : Effect) (refs : List Ref) → LinksOld next x → AllByRecursion (IsOld next.activity) refs → AllByRecursion (IsOld next.activity) (activities_after e n x refs)
olds_step next e n (effects.SetField entity field value) refs links olds = olds
olds_step next e n (effects.SetAttr activity key value) refs links olds = olds
olds_step next e n (effects.Create parent under priority) refs links olds = olds
olds_step next e n (effects.Remove entity) refs links olds = olds
olds_step next e n (effects.SetPriority entity priority) refs links olds = olds
olds_step next e n (effects.Attach entity activity) refs links olds =
    cond_both (same_ref entity e) (put activity refs) refs (AllByRecursion (IsOld next.activity)) (λ _. all_put (IsOld next.activity) activity refs links.1 olds) (λ _. olds)
olds_step next e n (effects.Detach entity activity) refs links olds =
    cond_both (same_ref entity e) (filter (λ r. not (same_ref r activity)) refs) refs (AllByRecursion (IsOld next.activity)) (λ _. all_left (IsOld next.activity) (λ r. not (same_ref r activity)) refs olds) (λ _. olds)
olds_step next e n (effects.SetMask entity activity event on) refs links olds = olds
olds_step next e n (effects.Fire activity event service fields) refs links olds = olds
olds_step next e n effects.NewNull refs links olds = olds
olds_step next e n (effects.EndNull activity) refs links olds = olds
olds_step next e n (effects.SetTimer activity start period times keep) refs links olds = olds
olds_step next e n (effects.CancelTimer timer) refs links olds = olds
olds_step next e n (effects.Bind word activity) refs links olds = olds
olds_step next e n (effects.Unbind word) refs links olds = olds
olds_step next e n (effects.Emit entity text) refs links olds = olds
olds_step next e n (effects.Usage entity usage amount) refs links olds = olds
olds_step next e n (effects.Suspend activity until) refs links olds = olds
olds_step next e n (effects.Resume activity) refs links olds = olds

-- effects one after another

among_from : (e r : Ref) (n : ℕ) (es : List Effect) (refs : List Ref) (b : Bool) → among r refs ≡ b → among r (overlay_from activities_by (activities_after e) n es refs) ≡ overlay_from activities_by (attached_after e r) n es b
among_from e r n [] refs b is = is
among_from e r n (x ∷ es) refs b is = among_from e r (n + activities_by x) es (activities_after e n x refs) (attached_after e r n x b) (among_step e r n x refs b is)

place_from : (e : Ref) (n : ℕ) (es : List Effect) (refs : List Ref) → InPlace refs → InPlace (overlay_from activities_by (activities_after e) n es refs)
place_from e n [] refs place = place
place_from e n (x ∷ es) refs place = place_from e (n + activities_by x) es (activities_after e n x refs) (place_step e n x refs place)

-- what a state tells of the activities of an entity

told_rises : (ks : List ℕ) → Rise ks → InPlace (map Known ks)
told_rises [] rise = tt
told_rises (k ∷ ks) rise = (later ks rise.0, told_rises ks rise.1)
  where
    later : (rest : List ℕ) → AllByRecursion (λ x. nat_lt k x ≡ true) rest → AllByRecursion (λ y. is_before (Known k) y ≡ true) (map Known rest)
    later [] all = tt
    later (x ∷ rest) all = (all.0, later rest all.1)

told_in_place : (s : State) (e : Ref) → IsSound s → InPlace (activities_told s e)
told_in_place s (Known m) sound = told_rises (activities_of s.links m) (activities_rise s.links m (links_order s sound))
told_in_place s (Fresh place) sound = tt

pub told_olds : (s : State) (e : Ref) → IsSound s → AllByRecursion (IsOld s.next_activity) (activities_told s e)
told_olds s (Known m) sound = activities_there s s.links m sound (and_parts (rises_by link_before s.links) (list_all (is_link_row s.entities s.activities) s.links) sound.links).1
told_olds s (Fresh place) sound = tt

known_among : (k : ℕ) (ks : List ℕ) → among (Known k) (map Known ks) ≡ in_list k ks
known_among k [] = refl
known_among k (x ∷ ks) = ap (λ b. (x == k) || b) (known_among k ks)

new_among : (place : ℕ) (ks : List ℕ) → among (Fresh place) (map Known ks) ≡ false
new_among place [] = refl
new_among place (x ∷ ks) = new_among place ks

told_among : (s : State) (e r : Ref) → among r (activities_told s e) ≡ attached_told s e r
told_among s (Known m) (Known k) = known_among k (activities_of s.links m) ∙ linked_among s.links m k
told_among s (Known m) (Fresh place) = new_among place (activities_of s.links m)
told_among s (Fresh place) (Known k) = refl
told_among s (Fresh place) (Fresh other) = refl

-- each number is that of a reference that is old
ref_of : (next k : ℕ) → (r : Ref) × IsOld next r × (number_in (resolved_ref next r) ≡ k)
ref_of next k = elim (cases_Bool (nat_lt k next)) [
  | inl less ↦ (Known k, ltb-true k next less, refl)
  | inr isnt ↦ (Fresh (k - next), tt, back next k isnt)
]
  where
    back : (next k : ℕ) → nat_lt k next ≡ false → next + (k - next) ≡ k
    back next k isnt = grind (arith, nat_tests, isnt)

-- the activities that a run reads are those to which the entity is attached
pub activities_read : (s t : State) (e : Ref) (es : List Effect) → IsSound s → IsSound t → AllByRecursion (IsOld s.next_activity) (overlay activities_by (activities_after e) es (activities_told s e))
    → ((r : Ref) → IsOld s.next_activity r → linked_in (next_in s) t e r ≡ overlay activities_by (attached_after e r) es (attached_told s e r))
    → activities_held (next_in s) t e ≡ activity_numbers (next_in s) (overlay activities_by (activities_after e) es (activities_told s e))
activities_read s t e es first sound olds links =
    same_members (activities_held next t e) (activity_numbers next refs) (activities_rise t.links number (links_order t sound)) (numbers_rise next refs olds (place_from e 0 es (activities_told s e) (told_in_place s e first))) each
  where
    next : Next
    next = next_in s

    number : ℕ
    number = number_in (resolved_ref s.next_entity e)

    refs : List Ref
    refs = overlay activities_by (activities_after e) es (activities_told s e)

    each : (k : ℕ) → in_list k (activities_held next t e) ≡ in_list k (activity_numbers next refs)
    each k =
        let r = ref_of s.next_activity k in
        subst (λ i. in_list i (activities_held next t e) ≡ in_list i (activity_numbers next refs)) r.2
        (linked_among t.links number (number_in (resolved_ref s.next_activity r.0)) ∙ links r.0 r.1 ∙ sym (among_from e r.0 0 es (activities_told s e) (attached_told s e r.0) (told_among s e r.0)) ∙ sym (among_numbers next r.0 refs r.1 olds))
