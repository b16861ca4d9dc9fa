-- The effects of a delivery begin where the entity is marked; there the run sees what is there, and with effects that suit and were guarded each applies.
use Rattle.router_laws.specs.Forest.{IsIn}
use Rattle.router_laws_applying.proofs.Applied.{all_applied, all_behind}
use Rattle.router_laws_applying.proofs.Kids.{parent_drawn}
use Rattle.router_laws_applying.proofs.Trees.{kid_row}
use Rattle.router_laws_applying.specs.Behind.{IsBehind, attached_told}
use Rattle.router_laws_applying.specs.Seen.{linked_in, numbered, numbers_of}
use Rattle.router_laws_applying.specs.Suited.{AllSuit, children_told}
use Rattle.router_laws_effects.specs.Guards.{Guarded}
use Rattle.router_laws_sound.proofs.SoundBase.{activities_drawn, entities_drawn, found_passes, there_below}
use Rattle.router_laws_sound.proofs.SoundEntities.{passes_in}
use Rattle.router_laws_sound.proofs.SoundMarks.{sound_marked_entity}
use Rattle.router_laws_sound.specs.Rooms.{HasRoom, IsDeployed}
use Rattle.router_state.specs.Contexts.{activity_at, is_link, is_linked, link_before, named_at}
use Rattle.router_state.specs.Fits.{is_drawn}
use Rattle.router_state.specs.Queues.{entity_mark_before, is_undelivered, is_waiting, with_entity_mark}
use Rattle.router_state.specs.State.{State}
use Rattle.router_state.specs.Trees.{children_under, entity_at}
use Rattle.router_state.specs.Well.{IsSound}
use Rattle.router_state.specs.WellContexts.{is_link_row}
use Rattle.router_state.specs.WellEntities.{is_entity_row}
use Rattle.router_state.specs.declared.rows.Activity.{Activity}
use Rattle.router_state.specs.declared.rows.Entity.{Entity}
use Rattle.router_state.specs.declared.rows.EntityMark.{EntityMark}
use Rattle.router_state.specs.declared.rows.Link.{Link}
use Rattle.router_steps.specs.Applying.{Apply, all_apply, applies, applying}
use Rattle.router_steps.specs.Effects.{after_effect, after_effects, next_in, number_in, resolved_in}
use Rattle.router_steps.specs.Scripts.{answers_in}
use Rattle.router_steps.specs.Steps.{Receipt, marked_entity}
use Rattle.rows_sorted.specs.Orders.{are_below, rises_by, rises_in}
use Rattle.script_meaning.specs.Answers.{known_activity}
use Rattle.slee_effect.specs.Resolving.{resolved_ref}
use Rattle.slee_effect.specs.declared.effect.Effect.{Effect}
use Rattle.slee_effect.specs.declared.next.Next.{Next}
use Rattle.slee_effect.specs.declared.reference.Ref.{Ref}
use Rattle.slee_effect.specs.declared.reference.Ref.TheVariants.{Known, Fresh}
use Rattle.slee_value.specs.declared.ids.ActivityId.{ActivityId}
use Rattle.std.proofs.Common.{◌≡◌, Bool, true, false, ℕ, ◌+◌, ◌<◌, ◌==◌, ◌&&◌, not, List, [], ◌∷◌, ◌++◌, map, filter, refl, ap, subst, inl, inr, arith, Option, Some, None}
use Rattle.std.proofs.lemmas.Bool.{and_parts, eq-eqb, eqb-true, false_from_ne_true, ltb-true, or_cases}
use Rattle.std.specs.List.{AllByRecursion, list_all, list_any}
use Rattle.std.specs.Prelude.{is_some, nat_lt, option_map}

all_below : {Row : Type 0} (number : Row → ℕ) (n : ℕ) (rows : List Row) → are_below number n rows ≡ true → AllByRecursion (λ row. number row < n) rows
all_below number n [] all = tt
all_below number n (row ∷ rows) all = let parts = and_parts (nat_lt (number row) n) (are_below number n rows) all in (ltb-true (number row) n parts.0, all_below number n rows parts.1)

told_name : (next : Next) (o : Option ActivityId) → option_map (λ (a : ActivityId). a.0) o ≡ numbered next (known_activity o)
told_name next None = refl
told_name next (Some a) = refl

known_numbers : (next : Next) (ks : List ℕ) → ks ≡ numbers_of next (map Known ks)
known_numbers next [] = refl
known_numbers next (k ∷ ks) = ap (λ xs. k ∷ xs) (known_numbers next ks)

none_in : (ks : List ℕ) → ((k : ℕ) → IsIn k ks → ⊥) → ks ≡ []
none_in [] none = refl
none_in (k ∷ ks) none = absurd (none k (inl refl))

told_kids : (s : State) (p : Ref) (relation : List ℕ) → IsSound s → children_under s.entities (number_in (resolved_ref s.next_entity p)) relation ≡ numbers_of (next_in s) (children_told s p relation)
told_kids s (Known n) relation sound = known_numbers (next_in s) (children_under s.entities n relation)
told_kids s (Fresh place) relation sound = none_in (children_under s.entities (s.next_entity + place) relation) (λ k there.
    let kid = kid_row s.entities (s.next_entity + place) relation k there in
    parent_drawn s kid.0 (s.next_entity + place) relation sound kid.1 kid.3 (omega arith))

linked_row : (e b : ℕ) (links : List Link) → list_any (is_link e b) links ≡ true → (l : Link) × IsIn l links × (is_link e b l ≡ true)
linked_row e b [] is = absurd (cc)
linked_row e b (l ∷ links) is = elim (or_cases (is_link e b l) (list_any (is_link e b) links) is) [
  | inl here ↦ (l, inl refl, here)
  | inr there ↦ (let found = linked_row e b links there in (found.0, inr found.1, found.2))
]

linked_drawn : (s : State) (e b : ℕ) → IsSound s → is_linked s.links e b ≡ true → (e < s.next_entity) × (b < s.next_activity)
linked_drawn s e b sound is =
    let l = linked_row e b s.links is in
    let both = and_parts (l.0.entity.0 == e) (l.0.activity.0 == b) l.2 in
    let there = passes_in (is_link_row s.entities s.activities) s.links l.0 l.1 (and_parts (rises_by link_before s.links) _ sound.links).1 in
    let rows = and_parts (is_some (entity_at s.entities l.0.entity.0)) (is_some (activity_at s.activities l.0.activity.0)) there in (
      subst (λ k. k < s.next_entity) (eqb-true l.0.entity.0 e both.0) (ltb-true l.0.entity.0 s.next_entity (there_below (λ (r : Entity). r.number.0) s.next_entity l.0.entity.0 s.entities rows.0 (entities_drawn s.deployment s.entities s.next_entity sound.entities))),
      subst (λ k. k < s.next_activity) (eqb-true l.0.activity.0 b both.1) (ltb-true l.0.activity.0 s.next_activity (there_below (λ (r : Activity). r.number.0) s.next_activity l.0.activity.0 s.activities rows.1 (activities_drawn s.deployment s.activities s.next_activity sound.activities))),
    )

new_unlinked : (s : State) (place b : ℕ) → IsSound s → is_linked s.links (s.next_entity + place) b ≡ false
new_unlinked s place b sound = false_from_ne_true (is_linked s.links (s.next_entity + place) b) (λ is. clash (linked_drawn s (s.next_entity + place) b sound is).0)
  where
    clash : s.next_entity + place < s.next_entity → ⊥
    clash less = absurd (omega (arith, less))

none_on_new : (s : State) (e place : ℕ) → IsSound s → is_linked s.links e (s.next_activity + place) ≡ false
none_on_new s e place sound = false_from_ne_true (is_linked s.links e (s.next_activity + place)) (λ is. clash (linked_drawn s e (s.next_activity + place) sound is).1)
  where
    clash : s.next_activity + place < s.next_activity → ⊥
    clash less = absurd (omega (arith, less))

told_links : (s : State) (e b : Ref) → IsSound s → linked_in (next_in s) s e b ≡ attached_told s e b
told_links s (Known m) (Known n) sound = refl
told_links s (Known m) (Fresh place) sound = none_on_new s m place sound
told_links s (Fresh place) (Known n) sound = new_unlinked s place n sound
told_links s (Fresh place) (Fresh other) sound = new_unlinked s place (s.next_activity + other) sound

-- where the entity is marked, the effects begin
begins : (s : State) (me own a : ℕ) (marks : List EntityMark) → IsSound s → IsSound (record s { delivered = marks }) → is_undelivered marks a ≡ false → option_map (λ (row : Entity). row.block) (entity_at s.entities me) ≡ Some own
    → IsBehind s me own a [] (record s { delivered = marks })
begins s me own a marks first sound marked block = record {
  sound = sound;
  deployment = refl;
  clock = refl;
  marked = marked;
  amidst = record { drawn = omega arith; below = all_below (λ (row : Activity). row.number.0) s.next_activity s.activities (activities_drawn s.deployment s.activities s.next_activity first.activities) };
  seen = λ r old. refl;
  names = λ name. told_name (next_in s) (named_at s.names name);
  drawn = omega arith;
  timers = omega arith;
  kids = λ p relation old here. told_kids s p relation first;
  links = λ e b old on here. told_links s e b first;
  block = block;
}

one_fails : {X : Type 0} (p : X → Bool) (xs : List X) (x : X) (ys : List X) → p x ≡ false → list_all p (xs ++ x ∷ ys) ≡ false
one_fails p [] x ys fails = rw fails refl
one_fails p (y ∷ xs) x ys fails = ended (p y) (list_all p (xs ++ x ∷ ys)) (one_fails p xs x ys fails)
  where
    ended : (b c : Bool) → c ≡ false → (b && c) ≡ false
    ended true c is = is
    ended false c is = refl

marked_now : (marks : List EntityMark) (a e : ℕ) → is_undelivered (with_entity_mark marks a e) a ≡ false
marked_now marks a e =
    let row : EntityMark = record { activity = record { 0 = a }; entity = record { 0 = e } } in
    one_fails (λ (m : EntityMark). not (m.activity.0 == a)) (filter (λ other. entity_mark_before other row) marks) row (filter (λ other. entity_mark_before row other) marks) (ap not (eq-eqb a a refl))

-- what is told where the effects of a delivery begin
delivery_begins : (s : State) (x : Receipt) → IsSound s → is_waiting s.events x.activity ≡ true → entity_at s.entities x.entity.number.0 ≡ Some x.entity
    → IsBehind s x.entity.number.0 x.entity.block x.activity [] (marked_entity x s) × (x.entity.number.0 < s.next_entity) × AllByRecursion (λ (row : Activity). row.number.0 < s.next_activity) s.activities
delivery_begins s x sound waits found =
    let e = x.entity.number.0 in
    let row = and_parts (rises_in (λ (r : Entity). r.number.0) s.entities) (list_all (is_entity_row s.deployment s.entities s.next_entity) s.entities) sound.entities in
    let below = there_below (λ (r : Entity). r.number.0) s.next_entity e s.entities (ap is_some found) (entities_drawn s.deployment s.entities s.next_entity sound.entities) in
    let mine = found_passes (is_entity_row s.deployment s.entities s.next_entity) (λ (r : Entity). r.number.0 == e) s.entities x.entity found row.1 in
    let drawn = (and_parts (is_drawn s.next_entity e) _ mine.0).0 in (
      begins s e x.entity.block x.activity (with_entity_mark s.delivered x.activity e) sound (sound_marked_entity s x.activity e sound waits drawn) (marked_now s.delivered x.activity e) (ap (option_map (λ (r : Entity). r.block)) found),
      ltb-true e s.next_entity below,
      all_below (λ (r : Activity). r.number.0) s.next_activity s.activities (activities_drawn s.deployment s.activities s.next_activity sound.activities),
    )

-- the effects of a delivery apply where they suit it and were guarded
pub delivery_applies : (s : State) (x : Receipt) (es : List Effect) → IsSound s → IsDeployed s.deployment → is_waiting s.events x.activity ≡ true → entity_at s.entities x.entity.number.0 ≡ Some x.entity
    → AllSuit s x.entity.number.0 x.entity.block x.activity [] es → Guarded (answers_in s) [] es → HasRoom (after_effects (resolved_in s es) (marked_entity x s)) → Apply x.entity.number.0 (resolved_in s es) (marked_entity x s)
delivery_applies s x es sound deployed waits found suit guard room =
    let e = x.entity.number.0 in
    let begun = delivery_begins s x sound waits found in
    all_applied s e x.entity.block x.activity [] es (marked_entity x s) sound deployed begun.0 begun.1 begun.2 suit guard room

-- where all effects apply, none is left out
pub all_applying : (me : ℕ) (xs : List Effect) (s : State) → all_apply me xs s ≡ true → applying me xs s ≡ xs
all_applying me [] s all = refl
all_applying me (x ∷ xs) s all = let parts = and_parts (applies me x s) (all_apply me xs (after_effect x s)) all in rw parts.0 (ap (λ more. x ∷ more) (all_applying me xs (after_effect x s) parts.1))

-- and what the run sees is there once they are done
pub delivery_behind : (s : State) (x : Receipt) (es : List Effect) → IsSound s → IsDeployed s.deployment → is_waiting s.events x.activity ≡ true → entity_at s.entities x.entity.number.0 ≡ Some x.entity
    → AllSuit s x.entity.number.0 x.entity.block x.activity [] es → Guarded (answers_in s) [] es → HasRoom (after_effects (resolved_in s es) (marked_entity x s)) → IsBehind s x.entity.number.0 x.entity.block x.activity es (after_effects (resolved_in s es) (marked_entity x s))
delivery_behind s x es sound deployed waits found suit guard room =
    let e = x.entity.number.0 in
    let begun = delivery_begins s x sound waits found in
    all_behind s e x.entity.block x.activity [] es (marked_entity x s) sound deployed begun.0 begun.1 begun.2 suit guard room
