-- Two effects that apply keep every part sound: an event is fired, and a null activity ends.
use Rattle.std.proofs.Common.{◌≡◌, ℕ, ◌+◌, ◌==◌, Bool, true, false, ◌&&◌, ◌||◌, not, List, [], ◌∷◌, length, map, refl, sym, ◌∙◌, ap, subst, inl, inr, arith, nat_lt, Option, Some, None}
use Rattle.std.specs.Prelude.{option_map, is_some, nat_le, position}
use Rattle.std.specs.List.{AllByRecursion, list_all}
use Rattle.std.specs.Option.{option_map_or}
use Rattle.std.specs.Str.{bytes_eq}
use Rattle.std.proofs.lemmas.Bool.{cases_Bool, and_parts, and_from, or_left, or_right, eqb-true, lt-ltb, false≢true}
use Rattle.std.proofs.lemmas.Bool.Decides.{nat_tests}
use Rattle.std.proofs.lemmas.List.Folds.{find-append}
use Rattle.std.proofs.lemmas.List.Quantifiers.{position-Some}
use Rattle.std.proofs.lemmas.Slice.Eq.{bytes_eq-Decides}
use Rattle.script_types.specs.Codes.{built_in, named}
use Rattle.script_types.specs.declared.codes.EventCode.{EventCode}
use Rattle.slee_value.specs.declared.value.Value.{Value}
use Rattle.slee_effect.specs.declared.effect.Effect.TheVariants as effects
use Rattle.slee_effect.specs.declared.reference.Ref.{Ref}
use Rattle.slee_effect.specs.declared.value.Val.{Val}
use Rattle.deploy_model.specs.Deployed.{Deployed, DeployedService, event_fields, event_type, service_named}
use Rattle.router_laws_sound.specs.Moves.{AreOwnNames, CanFire, is_table}
use Rattle.router_laws_sound.proofs.SoundEvents.{number_joins}
use Rattle.router_laws.proofs.RisingLemmas.{InOrder, order_from_rises}
use Rattle.router_laws_sound.proofs.SoundMoves.{sound_queued, sound_ended}
use Rattle.router_state.specs.State.{State}
use Rattle.router_state.specs.Contexts.{activity_at, is_active, is_null, is_of_service}
use Rattle.router_state.specs.Fits.{is_u64, is_value, none_or, are_declared}
use Rattle.router_state.specs.Queues.{activity_end}
use Rattle.router_state.specs.Services.{is_active as is_service_active}
use Rattle.router_state.specs.Timers.{last_moment}
use Rattle.router_state.specs.Well.{IsSound}
use Rattle.router_state.specs.WellContexts.{is_activity_of, is_service_row, are_services_from}
use Rattle.router_state.specs.WellRows.{is_next_number}
use Rattle.rows_sorted.specs.Orders.{rises_in}
use Rattle.router_state.specs.declared.rows.AcKind.{AcKind}
use Rattle.router_state.specs.declared.rows.AcKind.TheVariants as kinds
use Rattle.router_state.specs.declared.rows.Activity.{Activity}
use Rattle.router_state.specs.declared.rows.Service.{Service}
use Rattle.router_steps.specs.Applying.{applies, suits_event}
use Rattle.router_steps.specs.Effects.{after_effect, number_in, plain, plain_field, service_for}

pub declared_fields : (d : Deployed) (name : List ℕ) → AreOwnNames d → (code : EventCode) → named (λ (e : EventCode). e.name) name d.events ≡ Some code → event_fields d name ≡ Some code.fields
declared_fields d name own code found =
    let none : named (λ (e : EventCode). e.name) name built_in ≡ None = own name (rw found refl) in
    let all : event_type d name ≡ Some code = find-append (λ (e : EventCode). bytes_eq e.name name) built_in d.events ∙ rw (none, found) refl in
    ap (option_map (λ (e : EventCode). e.fields)) all

-- a declared event isn't an activity's end
pub not_end : (d : Deployed) (name : List ℕ) → AreOwnNames d → is_some (named (λ (e : EventCode). e.name) name d.events) ≡ true → bytes_eq name activity_end ≡ false
not_end d name own declared = elim (cases_Bool (bytes_eq name activity_end)) [
  | inr isnt ↦ isnt
  | inl is ↦
      let same : name ≡ activity_end = (bytes_eq-Decides name activity_end).0 is in
      let none : named (λ (e : EventCode). e.name) activity_end built_in ≡ None = subst (λ n. named (λ (e : EventCode). e.name) n built_in ≡ None) same (own name declared) in
      absurd (cc)
]

active_there : (o : Option Activity) → option_map_or (λ (row : Activity). not row.ending) o false ≡ true → is_some o ≡ true
active_there None is = absurd (cc)
active_there (Some row) is = refl

-- the number of a service by its key is one of the deployed
target_fits : (s : State) (service : Option (List ℕ)) → none_or (λ key. is_some (service_for s (Some key))) service ≡ true → none_or (λ n. nat_lt n (length s.deployment.services)) (service_for s service) ≡ true
target_fits s None is = refl
target_fits s (Some key) is = by_place (service_named s.deployment key) refl
  where
    by_place : (o : Option ℕ) → service_named s.deployment key ≡ o → none_or (λ n. nat_lt n (length s.deployment.services)) o ≡ true
    by_place None found = refl
    by_place (Some n) found = place s.deployment.services found
      where
        place : (services : List DeployedService) → position (λ (x : DeployedService). bytes_eq x.key key) services ≡ Some n → nat_lt n (length services) ≡ true
        place [] found = absurd (cc)
        place (x ∷ xs) found = lt-ltb n (length (x ∷ xs)) (position-Some (λ (y : DeployedService). bytes_eq y.key key) (x ∷ xs) n x found).0

-- the event of an effect that applies
pub fire_can : (s : State) (activity : Ref) (event : List ℕ) (service : Option (List ℕ)) (fields : List (List ℕ × Val)) (me : ℕ) → IsSound s → AreOwnNames s.deployment
    → applies me (effects.Fire activity event service fields) s ≡ true
    → (CanFire s.deployment s.activities s.next_activity s.next_timer s.next_event (number_in activity)
    (record { id = record { 0 = s.next_event }; name = event; fields = map plain_field fields; target = service_for s service }))
    × (is_active s.activities (number_in activity) ≡ true) × (bytes_eq event activity_end ≡ false)
fire_can s activity event service fields me sound own is =
    let active = and_parts (is_active s.activities (number_in activity)) _ is in
    let target = and_parts (none_or (λ key. is_some (service_for s (Some key))) service) (suits_event s event fields) active.1 in
    let suits = and_parts _ (list_all (λ (field : List ℕ × Val). is_value s.next_activity s.next_timer (plain field.1)) fields) target.1 in
    by_code (named (λ (e : EventCode). e.name) event s.deployment.events) refl active.0 target.0 suits.0 suits.1
  where
    next_some : nat_lt 0 s.next_event ≡ true
    next_some = (and_parts (nat_lt 0 s.next_event) (is_u64 s.next_event) sound.next_event).0

    values_fit : (fs : List (List ℕ × Val)) → list_all (λ (field : List ℕ × Val). is_value s.next_activity s.next_timer (plain field.1)) fs ≡ true
        → list_all (λ (field : List ℕ × Value). is_value s.next_activity s.next_timer field.1) (map plain_field fs) ≡ true
    values_fit [] all = refl
    values_fit (f ∷ fs) all = let parts = and_parts (is_value s.next_activity s.next_timer (plain f.1)) _ all in and_from _ _ parts.0 (values_fit fs parts.1)

    by_code : (o : Option EventCode) → named (λ (e : EventCode). e.name) event s.deployment.events ≡ o → is_active s.activities (number_in activity) ≡ true
        → none_or (λ key. is_some (service_for s (Some key))) service ≡ true → option_map_or (λ (declared : EventCode). are_declared declared.fields (map plain_field fields)) o false ≡ true
        → list_all (λ (field : List ℕ × Val). is_value s.next_activity s.next_timer (plain field.1)) fields ≡ true
        → (CanFire s.deployment s.activities s.next_activity s.next_timer s.next_event (number_in activity) (record { id = record { 0 = s.next_event }; name = event; fields = map plain_field fields; target = service_for s service }))
        × (is_active s.activities (number_in activity) ≡ true) × (bytes_eq event activity_end ≡ false)
    by_code None found active target declared values = absurd (cc)
    by_code (Some code) found active target declared values = (
      record {
        number = refl;
        some = next_some;
        there = active_there (activity_at s.activities (number_in activity)) active;
        target = target_fits s service target;
        fields = and_from _ _ (rw (declared_fields s.deployment event own code found) declared) (values_fit fields values);
      },
      active,
      not_end s.deployment event own (rw found refl),
    )

pub sound_fire : (s : State) (activity : Ref) (event : List ℕ) (service : Option (List ℕ)) (fields : List (List ℕ × Val)) (me : ℕ) → IsSound s → AreOwnNames s.deployment
    → applies me (effects.Fire activity event service fields) s ≡ true → is_u64 (s.next_event + 1) ≡ true → IsSound (after_effect (effects.Fire activity event service fields) s)
sound_fire s activity event service fields me sound own is fits =
    let can = fire_can s activity event service fields me sound own is in
    sound_queued s (number_in activity) event (map plain_field fields) (service_for s service) sound can.0 can.1 can.2 fits

-- a null activity may end

-- of rows that rise one alone has the number
only_row : (p : Activity → Bool) (rows : List Activity) (a : ℕ) (row : Activity) → InOrder (λ (x y : Activity). nat_lt x.number.0 y.number.0) rows → activity_at rows a ≡ Some row → p row ≡ true
    → list_all (λ (r : Activity). not (r.number.0 == a) || p r) rows ≡ true
only_row p [] a row order found is = refl
only_row p (x ∷ xs) a row order found is = elim (cases_Bool (x.number.0 == a)) [
  | inl here ↦
      let same : x ≡ row = some_same (rw here at found) in
      and_from _ _ (or_right (not (x.number.0 == a)) (p x) (subst (λ (y : Activity). p y ≡ true) (sym same) is)) (others xs order.0 here)
  | inr isnt ↦ and_from _ _ (or_left (not (x.number.0 == a)) (p x) (no (x.number.0 == a) isnt)) (only_row p xs a row order.1 (rw isnt at found) is)
]
  where
    some_same : {X : Type 0} {y z : X} → Some y ≡ Some z → y ≡ z
    some_same same = cc

    no : (b : Bool) → b ≡ false → not b ≡ true
    no b is = rw is refl

    apart : (x y a : ℕ) → (x == a) ≡ true → nat_lt x y ≡ true → not (y == a) ≡ true
    apart x y a one two = grind (arith, nat_tests)

    others : (ys : List Activity) → AllByRecursion (λ (y : Activity). nat_lt x.number.0 y.number.0 ≡ true) ys → (x.number.0 == a) ≡ true → list_all (λ (r : Activity). not (r.number.0 == a) || p r) ys ≡ true
    others [] later here = refl
    others (y ∷ ys) later here = and_from _ _ (or_left (not (y.number.0 == a)) (p y) (apart x.number.0 y.number.0 a here later.0)) (others ys later.1 here)

null_is_no_table : (kind : AcKind) → is_null kind ≡ true → not (is_table kind) ≡ true
null_is_no_table (kinds.External name) is = refl
null_is_no_table kinds.Null is = refl
null_is_no_table (kinds.Service service) is = refl
null_is_no_table (kinds.Table table) is = absurd (cc)

null_is_no_service : (n : ℕ) (kind : AcKind) → is_null kind ≡ true → is_of_service n kind ≡ false
null_is_no_service n (kinds.External name) is = refl
null_is_no_service n kinds.Null is = refl
null_is_no_service n (kinds.Service service) is = absurd (cc)
null_is_no_service n (kinds.Table table) is = refl

-- no service has a null activity
no_service : (rows : List Activity) (a : ℕ) (row : Activity) (n : ℕ) (services : List Service) → activity_at rows a ≡ Some row → is_null row.kind ≡ true → (a == 0) ≡ false → are_services_from rows n services ≡ true
    → list_all (λ (x : Service). not (x.activity.0 == a) || not (is_service_active x.state)) services ≡ true
no_service rows a row n [] found null some is = refl
no_service rows a row n (x ∷ services) found null some is =
    let parts = and_parts (is_service_row rows n x) _ is in
    and_from _ _ (elim (cases_Bool (x.activity.0 == a)) [
      | inl mine ↦ absurd (clash (x.activity.0 == 0) _ parts.0 (apart x.activity.0 a mine some) (not_own mine))
      | inr other ↦ rw other refl
    ]) (no_service rows a row (n + 1) services found null some parts.1)
  where
    apart : (x a : ℕ) → (x == a) ≡ true → (a == 0) ≡ false → (x == 0) ≡ false
    apart x a one two = grind (arith, nat_tests)

    clash : (p q : Bool) → (p || q) ≡ true → p ≡ false → q ≡ false → ⊥
    clash p q is one two = false≢true (sym (rw (one, two) refl) ∙ is)

    not_own : (x.activity.0 == a) ≡ true → option_map_or (is_activity_of n x) (activity_at rows x.activity.0) false ≡ false
    not_own mine = rw (eqb-true x.activity.0 a mine, found, null_is_no_service n row.kind null) refl

pub sound_end_null : (s : State) (activity : Ref) (me : ℕ) → IsSound s → AreOwnNames s.deployment → applies me (effects.EndNull activity) s ≡ true → (number_in activity == 0) ≡ false → is_u64 (s.next_event + 1) ≡ true
    → IsSound (after_effect (effects.EndNull activity) s)
sound_end_null s activity me sound own is some fits = by_row (activity_at s.activities (number_in activity)) refl is
  where
    first : rises_in (λ (row : Activity). row.number.0) s.activities ≡ true
    first = (and_parts (rises_in (λ (row : Activity). row.number.0) s.activities) _ sound.activities).0

    by_row : (o : Option Activity) → activity_at s.activities (number_in activity) ≡ o → option_map_or (λ (row : Activity). is_null row.kind && not row.ending) o false ≡ true → IsSound (after_effect (effects.EndNull activity) s)
    by_row None found is = absurd (cc)
    by_row (Some row) found is =
        let both = and_parts (is_null row.kind) (not row.ending) is in
        let active : is_active s.activities (number_in activity) ≡ true = rw found both.1 in
        let order = order_from_rises (λ (x y : Activity). nat_lt x.number.0 y.number.0) number_joins s.activities first in
        sound_ended s (number_in activity) sound (record {
          active = active;
          kind = only_row (λ r. not (is_table r.kind)) s.activities (number_in activity) row order found (null_is_no_table row.kind both.0);
          service = no_service s.activities (number_in activity) row 0 s.services found both.0 some (and_parts _ (are_services_from s.activities 0 s.services) sound.services).1;
        }) (record {
          number = refl;
          some = (and_parts (nat_lt 0 s.next_event) (is_u64 s.next_event) sound.next_event).0;
          there = active_there (activity_at s.activities (number_in activity)) active;
          target = refl;
          fields = refl;
        }) fits
