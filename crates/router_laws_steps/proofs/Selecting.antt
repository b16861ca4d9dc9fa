-- An initial selection keeps every part sound.
use Rattle.deploy_model.specs.Deployed.{DeployedService, block_fields, event_fields, event_type, service_at}
use Rattle.deploy_model.specs.Selecting.{Numbered, service_order}
use Rattle.router_laws_histories.proofs.Receiving.{chained}
use Rattle.router_laws_histories.proofs.Stepped.{mapped_some}
use Rattle.router_laws_sound.proofs.SoundApplied.{masks_known}
use Rattle.router_laws_sound.proofs.SoundBase.{entities_drawn, found_passes, passes_there, some_there}
use Rattle.router_laws_sound.proofs.SoundCreated.{fields_set_alone, new_found}
use Rattle.router_laws_sound.proofs.SoundMarks.{sound_marked_service}
use Rattle.router_laws_sound.proofs.SoundNumbers.{grown_attached, grown_fields, room_before}
use Rattle.router_laws_sound.proofs.SoundRoots.{sound_root}
use Rattle.router_laws_sound.proofs.SoundSmall.{sound_attached}
use Rattle.router_laws_sound.specs.Rooms.{HasRoom, IsDeployed}
use Rattle.router_laws_steps.proofs.LineFacts.{service_there}
use Rattle.router_laws_steps.proofs.Names.{CanSelect, selected_fits}
use Rattle.router_state.specs.Changes.{after_change}
use Rattle.router_state.specs.Contexts.{activity_at}
use Rattle.router_state.specs.Fits.{are_declared, is_drawn, none_or}
use Rattle.router_state.specs.Next.{due_service, is_due, selects_at}
use Rattle.router_state.specs.Queues.{head_event, is_undelivered, is_waiting, queued_before}
use Rattle.router_state.specs.Services.{is_active as is_service_active, is_active_at}
use Rattle.router_state.specs.State.{State}
use Rattle.router_state.specs.Trees.{entity_at, root_name_before}
use Rattle.router_state.specs.Well.{IsSound}
use Rattle.router_state.specs.WellContexts.{are_services_from, is_activity_row}
use Rattle.router_state.specs.WellEntities.{all_differ, is_conv, is_named, is_root_name}
use Rattle.router_state.specs.WellQueues.{differ_in_number, has_event_fields, is_event_row}
use Rattle.router_state.specs.declared.rows.Activity.{Activity}
use Rattle.router_state.specs.declared.rows.Event.{Event}
use Rattle.router_state.specs.declared.rows.Queued.{Queued}
use Rattle.router_state.specs.declared.rows.RootName.{RootName}
use Rattle.router_state.specs.declared.rows.Service.{Service}
use Rattle.router_steps.specs.Creating.{root_of, with_root}
use Rattle.router_steps.specs.Moves.{attached}
use Rattle.router_steps.specs.Selection.{is_root_named, root_named, selection}
use Rattle.router_steps.specs.Steps.{Due, NewRoot, NoRoot, OldRoot, Root, due_at, marked_service, root_by_name, root_selected, with_root_attached}
use Rattle.rows_sorted.specs.Orders.{rises_by, rises_in}
use Rattle.script_meaning.specs.Delivery.{delivered}
use Rattle.script_meaning.specs.Values.{number}
use Rattle.script_types.specs.TypingResult.{known}
use Rattle.script_types.specs.declared.codes.EventCode.{EventCode}
use Rattle.script_types.specs.declared.codes.FieldCode.{FieldCode}
use Rattle.slee_value.specs.declared.convergence.ConvName.{ConvName}
use Rattle.std.proofs.Common.{List, None, Option, Some, [], ap, arith, false, inl, inr, refl, subst, suc, sym, true, zero, ℕ, ◌==◌, ◌∙◌, ◌∷◌, ◌≡◌}
use Rattle.std.proofs.lemmas.Bool.{and_parts, cases_Bool, eqb-true, false≢true, or_left, or_right}
use Rattle.std.proofs.lemmas.Bool.Decides.{nat_tests}
use Rattle.std.specs.List.{list_all}
use Rattle.std.specs.Option.{option_map_or}
use Rattle.std.specs.Prelude.{find, is_some, length, nat_lt, option_map, slice_get}
use Rattle.router_state.specs.declared.change.Change.TheVariants as changes
use Rattle.script_tree.specs.declared.tree.Query.TheVariants as q

-- what is known of a head event
pub record IsHead (s : State) (a : ℕ) (v : Event) : Type 0 where
  pub waits : is_waiting s.events a ≡ true
  pub there : is_some (activity_at s.activities a) ≡ true
  pub drawn : is_drawn s.next_event v.id.0 ≡ true
  pub fields : has_event_fields s.deployment s.next_activity s.next_timer v ≡ true

pub head_is : (s : State) (a : ℕ) (v : Event) → IsSound s → head_event s.events a ≡ Some v → IsHead s a v
head_is s a v sound head =
    each s.events head (and_parts (list_all (is_event_row s.deployment s.activities s.next_activity s.next_timer s.next_event) s.events) _ (and_parts (all_differ differ_in_number s.events) _ (and_parts (rises_by queued_before s.events) _ sound.events).1).1).0 (λ is. is)
  where
    some_same : {X : Type 0} {x y : X} → Some x ≡ Some y → x ≡ y
    some_same same = cc

    each : (events : List Queued) → head_event events a ≡ Some v → list_all (is_event_row s.deployment s.activities s.next_activity s.next_timer s.next_event) events ≡ true → (is_waiting events a ≡ true → is_waiting s.events a ≡ true) → IsHead s a v
    each [] head all waits = absurd (cc)
    each (q ∷ events) head all waits =
        let parts = and_parts (is_event_row s.deployment s.activities s.next_activity s.next_timer s.next_event q) (list_all (is_event_row s.deployment s.activities s.next_activity s.next_timer s.next_event) events) all in
        elim (cases_Bool (q.activity.0 == a)) [
          | inl mine ↦
              let same : q.event ≡ v = some_same (rw mine at head) in
              let drawn = and_parts (is_drawn s.next_event q.event.id.0) _ parts.0 in
              let stands = and_parts (is_some (activity_at s.activities q.activity.0)) _ drawn.1 in
              let target = and_parts (none_or (λ service. nat_lt service (length s.deployment.services)) q.event.target) _ stands.1 in
              record {
                waits = waits (or_left (q.activity.0 == a) _ mine);
                there = subst (λ k. is_some (activity_at s.activities k) ≡ true) (eqb-true q.activity.0 a mine) stands.0;
                drawn = subst (λ (w : Event). is_drawn s.next_event w.id.0 ≡ true) same drawn.0;
                fields = subst (λ (w : Event). has_event_fields s.deployment s.next_activity s.next_timer w ≡ true) same target.1;
              }
          | inr other ↦ each events (rw other at head) parts.1 (λ is. waits (or_right (q.activity.0 == a) _ is))
        ]

-- the activity of a head event was drawn
pub activity_drawn : (s : State) (a : ℕ) → IsSound s → is_some (activity_at s.activities a) ≡ true → is_drawn s.next_activity a ≡ true
activity_drawn s a sound there =
    let tests = and_parts (list_all (is_activity_row s.deployment s.next_activity) s.activities) _ (and_parts (rises_in (λ (r : Activity). r.number.0) s.activities) _ sound.activities).1 in
    let row = some_there (activity_at s.activities a) there in
    let both = found_passes (is_activity_row s.deployment s.next_activity) (λ (r : Activity). r.number.0 == a) s.activities row.0 row.1 tests.0 in
    subst (λ k. is_drawn s.next_activity k ≡ true) (eqb-true row.0.number.0 a both.1) (and_parts (is_drawn s.next_activity row.0.number.0) _ both.0).0

can_select : (s : State) (a : ℕ) (v : Event) → IsSound s → IsHead s a v → CanSelect s.deployment s.next_activity s.next_timer s.next_event (record { activity = a; event = v.id.0; name = v.name; fields = v.fields })
can_select s a v sound head =
    let both = and_parts (option_map_or (λ (declared : List FieldCode). are_declared declared v.fields) (event_fields s.deployment v.name) false) _ head.fields in
    record { activity = activity_drawn s a sound head.there; event = head.drawn; known = by (event_type s.deployment v.name) both.0; fields = both.1 }
  where
    by : (o : Option EventCode) → option_map_or (λ (declared : List FieldCode). are_declared declared v.fields) (option_map (λ (e : EventCode). e.fields) o) false ≡ true → is_some o ≡ true
    by None is = absurd (cc)
    by (Some e) is = refl

-- the root that is selected may be attached
abbrev pub CanRoot : State → ℕ → Root → Type 0
CanRoot s service NoRoot = Unit {0}
CanRoot s service (OldRoot e) = is_some (entity_at s.entities e) ≡ true
CanRoot s service (NewRoot name) = (is_conv s.deployment s.next_activity s.next_event name ≡ true) × (root_named s service name ≡ None)

root_can : (s : State) (service a : ℕ) (v : Event) → IsSound s → IsHead s a v → CanRoot s service (root_selected s service a v)
root_can s service a v sound head = by (selection s service a v) refl
  where
    which : (name : ConvName) → is_conv s.deployment s.next_activity s.next_event name ≡ true → (o : Option RootName) → root_named s service name ≡ o → CanRoot s service (root_by_name o name)
    which name fits None found = (fits, found)
    which name fits (Some row) found =
        let tests = and_parts (list_all (is_root_name s.deployment s.entities s.next_activity s.next_event) s.root_names) (list_all (is_named s.root_names) s.entities) (and_parts (rises_by root_name_before s.root_names) _ sound.root_names).1 in
        (and_parts (is_some (entity_at s.entities row.entity.0)) _ (found_passes (is_root_name s.deployment s.entities s.next_activity s.next_event) (is_root_named s service name) s.root_names row found tests.0).0).0

    by : (o : Option ConvName) → selection s service a v ≡ o → CanRoot s service (option_map_or (λ name. root_by_name (root_named s service name) name) o NoRoot)
    by None found = tt
    by (Some name) found =
        which name (selected_fits s.deployment s.next_activity s.next_timer s.next_event service (record { activity = a; event = v.id.0; name = v.name; fields = v.fields }) name (can_select s a v sound head) found) (root_named s service name) refl

-- the service is deployed
service_due : (s : State) (a : ℕ) (v : Event) (n : ℕ) → IsSound s → due_service s a v ≡ Some n → nat_lt n (length s.deployment.services) ≡ true
service_due s a v n sound due = elim (cases_Bool (is_undelivered s.delivered a)) [
  | inr had ↦ (let none : None ≡ Some n = rw had at due in absurd (cc))
  | inl fresh ↦ mapped_some (λ k. nat_lt k (length s.deployment.services) ≡ true) (λ (x : Numbered). x.0) (find (is_due s a v) (service_order s.deployment.services)) n (rw fresh at due)
      (λ x found. there x.0 (and_parts (is_active_at s.services x.0) _ (found_passes (λ (y : Numbered). true) (is_due s a v) (service_order s.deployment.services) x found (all_true (service_order s.deployment.services))).1).0)
]
  where
    all_true : (xs : List Numbered) → list_all (λ (y : Numbered). true) xs ≡ true
    all_true [] = refl
    all_true (x ∷ xs) = all_true xs

    there : (k : ℕ) → is_active_at s.services k ≡ true → nat_lt k (length s.deployment.services) ≡ true
    there k active =
        let row = some_there (slice_get s.services k) (passes_there (λ (r : Service). is_service_active r.state) (slice_get s.services k) active) in
        let own = and_parts (length s.services == length s.deployment.services) (are_services_from s.activities 0 s.services) sound.services in
        subst (λ m. nat_lt k m ≡ true) (eqb-true (length s.services) (length s.deployment.services) own.0) (service_there k s.services row.0 row.1)

deployed_there : (services : List DeployedService) (n : ℕ) → nat_lt n (length services) ≡ true → is_some (slice_get services n) ≡ true
deployed_there [] n less = absurd (false≢true (sym (never n) ∙ less))
  where
    never : (n : ℕ) → nat_lt n 0 ≡ false
    never n = grind (arith, nat_tests)
deployed_there (x ∷ services) zero less = refl
deployed_there (x ∷ services) (suc n) less = deployed_there services n (fewer n (length services) less)
  where
    fewer : (n k : ℕ) → nat_lt (suc n) (suc k) ≡ true → nat_lt n k ≡ true
    fewer n k less = grind (arith, nat_tests)

-- a new root is there
new_root_there : (s : State) (row : DeployedService) (service : ℕ) (name : ConvName) → IsSound s → (is_some (entity_at (root_of row s service name).entities s.next_entity) ≡ true) × ((root_of row s service name).activities ≡ s.activities) × ((root_of row s service name).deployment ≡ s.deployment)
new_root_there s row service name sound =
    let begun = after_change (changes.Root (record { 0 = s.next_entity }) name) (after_change (changes.CreateRoot row.root service row.priority) s) in
    let alone = fields_set_alone s.next_entity (block_fields s.deployment row.root) begun in
    let found : is_some (entity_at begun.entities s.next_entity) ≡ true = rw (new_found s.entities s.next_entity row.root _ row.priority (entities_drawn s.deployment s.entities s.next_entity sound.entities)) refl in
    (subst (λ rows. is_some (entity_at rows s.next_entity) ≡ true) (sym (ap (λ (t : State). t.entities) alone)) found, ap (λ (t : State). t.activities) alone, ap (λ (t : State). t.deployment) alone)

-- what a selection does
selected_sound : (s : State) (x : Due) (root : Root) → IsSound s → IsDeployed s.deployment → IsHead s x.activity x.event → nat_lt x.service (length s.deployment.services) ≡ true → CanRoot s x.service root → HasRoom (with_root_attached x root (marked_service x s)) → IsSound (with_root_attached x root (marked_service x s))
selected_sound s x NoRoot sound deployed head service can room = sound_marked_service s x.activity x.service sound head.waits service
selected_sound s x (OldRoot e) sound deployed head service can room =
    let t = marked_service x s in
    let one = sound_marked_service s x.activity x.service sound head.waits service in
    sound_attached t e x.activity one can head.there (masks_known t e deployed)
selected_sound s x (NewRoot name) sound deployed head service can room =
    let t = marked_service x s in
    let one = sound_marked_service s x.activity x.service sound head.waits service in
    by t one (service_at s.deployment x.service) refl (deployed_there s.deployment.services x.service service) room
  where
    by : (t : State) → IsSound (marked_service x s) → (o : Option DeployedService) → service_at s.deployment x.service ≡ o → is_some o ≡ true → HasRoom (with_root_attached x (NewRoot name) (marked_service x s)) → IsSound (with_root_attached x (NewRoot name) (marked_service x s))
    by t one None found there room = absurd (cc)
    by t one (Some row) found there room =
        let m = marked_service x s in
        let u = root_of row m x.service name in
        let same : with_root m x.service name ≡ u = ap (λ o. option_map_or (λ (r : DeployedService). root_of r m x.service name) o m) found in
        let end : HasRoom (attached u s.next_entity x.activity) = subst (λ w. HasRoom (attached w s.next_entity x.activity)) same room in
        let grown = grown_attached u s.next_entity x.activity in
        let begun = after_change (changes.Root (record { 0 = s.next_entity }) name) (after_change (changes.CreateRoot row.root x.service row.priority) m) in
        let early = room_before begun u (grown_fields s.next_entity (block_fields s.deployment row.root) begun) (room_before u (attached u s.next_entity x.activity) grown end) in
        let two = sound_root m row x.service name one deployed found can.0 can.1 early.entity in
        let facts = new_root_there m row x.service name one in
        subst (λ w. IsSound (attached w s.next_entity x.activity)) (sym same)
        (sound_attached u s.next_entity x.activity two facts.0 (subst (λ rows. is_some (activity_at rows x.activity) ≡ true) (sym facts.1) head.there) (masks_known u s.next_entity (subst IsDeployed (sym facts.2) deployed)))

-- the initial selection that is due
pub sound_selected : (s : State) (a : ℕ) (x : Due) → IsSound s → IsDeployed s.deployment → due_at s a ≡ Some x → HasRoom (with_root_attached x x.root (marked_service x s)) → IsSound (with_root_attached x x.root (marked_service x s))
sound_selected s a x sound deployed due room = facts x due room
  where
    facts : (x : Due) → due_at s a ≡ Some x → HasRoom (with_root_attached x x.root (marked_service x s)) → IsSound (with_root_attached x x.root (marked_service x s))
    facts x due =
        mapped_some (λ (y : Due). HasRoom (with_root_attached y y.root (marked_service y s)) → IsSound (with_root_attached y y.root (marked_service y s)))
        (λ (pair : Event × ℕ). record { activity = a; event = pair.0; service = pair.1; root = root_selected s pair.1 a pair.0 }) (selects_at s a) x due
        (λ pair found. made pair (picked pair found))
      where
        picked : (pair : Event × ℕ) → selects_at s a ≡ Some pair → (head_event s.events a ≡ Some pair.0) × (due_service s a pair.0 ≡ Some pair.1)
        picked pair found =
            chained (λ (y : Event × ℕ). (head_event s.events a ≡ Some y.0) × (due_service s a y.0 ≡ Some y.1)) (λ v. option_map (λ service. (v, service)) (due_service s a v)) (head_event s.events a) pair found
            (λ v head told. mapped_some (λ (y : Event × ℕ). (head_event s.events a ≡ Some y.0) × (due_service s a y.0 ≡ Some y.1)) (λ service. (v, service)) (due_service s a v) pair told (λ service is. (head, is)))

        made : (pair : Event × ℕ) → (head_event s.events a ≡ Some pair.0) × (due_service s a pair.0 ≡ Some pair.1)
            → HasRoom (with_root_attached (record { activity = a; event = pair.0; service = pair.1; root = root_selected s pair.1 a pair.0 }) (root_selected s pair.1 a pair.0) (marked_service (record { activity = a; event = pair.0; service = pair.1; root = root_selected s pair.1 a pair.0 }) s))
            → IsSound (with_root_attached (record { activity = a; event = pair.0; service = pair.1; root = root_selected s pair.1 a pair.0 }) (root_selected s pair.1 a pair.0) (marked_service (record { activity = a; event = pair.0; service = pair.1; root = root_selected s pair.1 a pair.0 }) s))
        made pair both room =
            let head = head_is s a pair.0 sound both.0 in
            selected_sound s (record { activity = a; event = pair.0; service = pair.1; root = root_selected s pair.1 a pair.0 }) (root_selected s pair.1 a pair.0) sound deployed head (service_due s a pair.0 pair.1 sound both.1) (root_can s pair.1 a pair.0 sound head) room
