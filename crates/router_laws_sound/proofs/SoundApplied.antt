-- Each effect that applies keeps every part sound, and so do effects one after another.
use Rattle.deploy_model.specs.Deployed.{attribute_kind, block_fields, is_event, masked_on_attach, relation_of}
use Rattle.router_laws_sound.proofs.SoundBase.{found_passes, passes_there, some_there}
use Rattle.router_laws_sound.proofs.SoundCreated.{fields_set_alone}
use Rattle.router_laws_sound.proofs.SoundEffects.{sound_end_null, sound_fire}
use Rattle.router_laws_sound.proofs.SoundEntities.{sound_prioritised}
use Rattle.router_laws_sound.proofs.SoundGrowth.{sound_started, sound_timer}
use Rattle.router_laws_sound.proofs.SoundMade.{sound_child}
use Rattle.router_laws_sound.proofs.SoundSmall.{CanSet, sound_attached, sound_bound, sound_cancelled, sound_detached, sound_held, sound_masked, sound_released, sound_set_attribute, sound_set_field, sound_unbound}
use Rattle.router_laws_sound.proofs.SoundTrees.{sound_removed}
use Rattle.router_laws_sound.specs.Rooms.{HasRoom, IsDeployed}
use Rattle.router_state.specs.Changes.{after_change}
use Rattle.router_state.specs.Contexts.{activity_at, is_active, is_linked, is_null, named_at}
use Rattle.router_state.specs.Fits.{is_drawn, is_of_kind, is_priority, is_text, is_u64, is_value}
use Rattle.router_state.specs.Fitting.{has_activity, has_entity}
use Rattle.router_state.specs.Queues.{is_undelivered}
use Rattle.router_state.specs.State.{State}
use Rattle.router_state.specs.Trees.{entity_at}
use Rattle.router_state.specs.Well.{IsSound}
use Rattle.router_state.specs.WellContexts.{is_activity_row, is_attribute_row}
use Rattle.router_state.specs.WellEntities.{leads_to}
use Rattle.router_state.specs.declared.rows.Activity.{Activity}
use Rattle.router_state.specs.declared.rows.Entity.{Entity}
use Rattle.router_steps.specs.Applying.{applies, declares, suits}
use Rattle.router_steps.specs.Creating.{with_child}
use Rattle.router_steps.specs.Effects.{after_effect, number_in, plain, relation_at}
use Rattle.router_steps.specs.Moves.{first_masks}
use Rattle.rows_sorted.specs.Orders.{rises_in}
use Rattle.script_meaning.specs.Delivery.{delivered}
use Rattle.script_meaning.specs.Values.{number}
use Rattle.script_types.specs.Codes.{named}
use Rattle.script_types.specs.declared.codes.FieldCode.{FieldCode}
use Rattle.script_types.specs.declared.codes.RelationCode.{RelationCode}
use Rattle.slee_effect.specs.declared.effect.Effect.{Effect}
use Rattle.slee_effect.specs.declared.value.Val.{Val}
use Rattle.slee_value.specs.declared.kind.Kind.{Kind}
use Rattle.std.proofs.Common.{List, None, Option, Some, [], ap, arith, false, length, refl, subst, true, ℕ, ◌+◌, ◌==◌, ◌∷◌, ◌≡◌}
use Rattle.std.proofs.lemmas.Bool.{and_from, and_parts, eq-eqb}
use Rattle.std.proofs.lemmas.Bool.Decides.{nat_tests}
use Rattle.std.specs.List.{list_all}
use Rattle.std.specs.Option.{option_map_or}
use Rattle.std.specs.Prelude.{is_none, is_some, nat_lt, not, option_and_then, ◌&&◌}
use Rattle.router_state.specs.declared.change.Change.TheVariants as changes
use Rattle.slee_effect.specs.declared.effect.Effect.TheVariants as effects
use Rattle.router_state.specs.declared.rows.AcKind.TheVariants as kinds

-- a field's value that the block declares
field_can : (s : State) (e : ℕ) (name : List ℕ) (value : Val) → declares s e name value ≡ true → CanSet s e name (plain value)
field_can s e name value is = by_row (entity_at s.entities e) refl is
  where
    suited : (o : Option FieldCode) → option_map_or (λ (f : FieldCode). suits s value f.kind) o false ≡ true → (option_map_or (λ (f : FieldCode). is_of_kind f.kind (plain value)) o false ≡ true) × (is_value s.next_activity s.next_timer (plain value) ≡ true)
    suited None is = absurd (cc)
    suited (Some f) is = and_parts (is_of_kind f.kind (plain value)) (is_value s.next_activity s.next_timer (plain value)) is

    by_row : (o : Option Entity) → entity_at s.entities e ≡ o → option_map_or (λ (row : Entity). option_map_or (λ (f : FieldCode). suits s value f.kind) (named (λ (f : FieldCode). f.name) name (block_fields s.deployment row.block)) false) o false ≡ true → CanSet s e name (plain value)
    by_row None found is = absurd (cc)
    by_row (Some row) found is = let both = suited (named (λ (f : FieldCode). f.name) name (block_fields s.deployment row.block)) is in (row, found, both.0, both.1)

-- an attribute's value of its key's kind
attribute_can : (s : State) (a : ℕ) (key : List ℕ) (value : Val) → has_activity s.activities a ≡ true → option_map_or (suits s value) (attribute_kind s.deployment key) false ≡ true
    → is_attribute_row s.deployment s.activities s.next_activity s.next_timer (record { activity = record { 0 = a }; key = key; value = plain value }) ≡ true
attribute_can s a key value there is = let both = by (attribute_kind s.deployment key) is in and_from (is_some (activity_at s.activities a)) _ there (and_from (is_value s.next_activity s.next_timer (plain value)) _ both.1 both.0)
  where
    by : (o : Option Kind) → option_map_or (suits s value) o false ≡ true → (option_map_or (λ kind. is_of_kind kind (plain value)) o false ≡ true) × (is_value s.next_activity s.next_timer (plain value) ≡ true)
    by None is = absurd (cc)
    by (Some kind) is = and_parts (is_of_kind kind (plain value)) (is_value s.next_activity s.next_timer (plain value)) is

-- the relation of an entity's block leads where it says
leads_there : (s : State) (e : ℕ) (relation : List ℕ) (code : RelationCode) → relation_at s e relation ≡ Some code → option_map_or (λ (r : Entity). leads_to s.deployment r.block relation code.block) (entity_at s.entities e) false ≡ true
leads_there s e relation code found = by (entity_at s.entities e) found
  where
    by : (o : Option Entity) → option_and_then (λ (row : Entity). relation_of s.deployment row.block relation) o ≡ Some code → option_map_or (λ (r : Entity). leads_to s.deployment r.block relation code.block) o false ≡ true
    by None found = absurd (cc)
    by (Some row) found = rw found (eq-eqb code.block code.block refl)

-- no activity has number 0
pub not_none : (s : State) (a : ℕ) → IsSound s → is_some (activity_at s.activities a) ≡ true → (a == 0) ≡ false
not_none s a sound there =
    let row = some_there (activity_at s.activities a) there in
    let tests = and_parts (list_all (is_activity_row s.deployment s.next_activity) s.activities) _ (and_parts (rises_in (λ (r : Activity). r.number.0) s.activities) _ sound.activities).1 in
    let both = found_passes (is_activity_row s.deployment s.next_activity) (λ (r : Activity). r.number.0 == a) s.activities row.0 row.1 tests.0 in
    positive row.0.number.0 a both.1 (and_parts (nat_lt 0 row.0.number.0) _ (and_parts (is_drawn s.next_activity row.0.number.0) _ both.0).0).0
  where
    positive : (x a : ℕ) → (x == a) ≡ true → nat_lt 0 x ≡ true → (a == 0) ≡ false
    positive x a same some = grind (arith, nat_tests)

-- what an entity masks where it is attached are events
pub masks_known : (s : State) (e : ℕ) → IsDeployed s.deployment → list_all (is_event s.deployment) (first_masks s e) ≡ true
masks_known s e deployed = by (entity_at s.entities e)
  where
    by : (o : Option Entity) → list_all (is_event s.deployment) (option_map_or (λ (row : Entity). masked_on_attach s.deployment row.block) o []) ≡ true
    by None = refl
    by (Some row) = deployed.masked row.block

all_pass : {X : Type 0} (xs : List X) → list_all (λ _. true) xs ≡ true
all_pass [] = refl
all_pass (x ∷ xs) = all_pass xs

pub sound_effect : (me : ℕ) (x : Effect) (s : State) → IsSound s → IsDeployed s.deployment → HasRoom (after_effect x s) → applies me x s ≡ true → IsSound (after_effect x s)
sound_effect me (effects.SetField entity name value) s sound deployed room is = sound_set_field s (number_in entity) name (plain value) sound (field_can s (number_in entity) name value is)
sound_effect me (effects.SetAttr activity key value) s sound deployed room is =
    let both = and_parts (has_activity s.activities (number_in activity)) _ is in
    sound_set_attribute s (number_in activity) key (plain value) sound (attribute_can s (number_in activity) key value both.0 both.1)
sound_effect me (effects.Create parent relation priority) s sound deployed room is =
    let both = and_parts (is_some (relation_at s (number_in parent) relation)) (is_priority priority) is in
    by (relation_at s (number_in parent) relation) refl both.0 both.1
  where
    by : (o : Option RelationCode) → relation_at s (number_in parent) relation ≡ o → is_some o ≡ true → is_priority priority ≡ true → IsSound (option_map_or (λ (r : RelationCode). with_child s (number_in parent) relation r.block priority) o s)
    by None found some rank = sound
    by (Some r) found some rank =
        sound_child s (number_in parent) relation r.block priority sound deployed rank (leads_there s (number_in parent) relation r found)
        (subst (λ n. is_u64 n ≡ true) (counted r found) room.entity)
      where
        counted : (r : RelationCode) → relation_at s (number_in parent) relation ≡ Some r → (after_effect (effects.Create parent relation priority) s).next_entity ≡ s.next_entity + 1
        counted r found = rw found (ap (λ (t : State). t.next_entity) (fields_set_alone s.next_entity (block_fields s.deployment r.block) (after_change (changes.CreateChild (record { 0 = number_in parent }) relation r.block priority) s)))
sound_effect me (effects.Remove entity) s sound deployed room is = sound_removed s (number_in entity) sound (and_parts (has_entity s.entities (number_in entity)) _ is).0
sound_effect me (effects.SetPriority entity priority) s sound deployed room is = sound_prioritised s (number_in entity) priority sound (and_parts (has_entity s.entities (number_in entity)) (is_priority priority) is).1
sound_effect me (effects.Attach entity activity) s sound deployed room is =
    let both = and_parts (has_entity s.entities (number_in entity)) (has_activity s.activities (number_in activity)) is in
    sound_attached s (number_in entity) (number_in activity) sound both.0 both.1 (masks_known s (number_in entity) deployed)
sound_effect me (effects.Detach entity activity) s sound deployed room is = sound_detached s (number_in entity) (number_in activity) sound
sound_effect me (effects.SetMask entity activity event on) s sound deployed room is =
    let both = and_parts (is_linked s.links (number_in entity) (number_in activity)) (is_event s.deployment event) is in
    sound_masked s (number_in entity) (number_in activity) event on sound both.0 both.1
sound_effect me (effects.Fire activity event service fields) s sound deployed room is = sound_fire s activity event service fields me sound deployed.own is room.event
sound_effect me effects.NewNull s sound deployed room is = sound_started s kinds.Null sound refl (all_pass s.activities) room.activity
sound_effect me (effects.EndNull activity) s sound deployed room is =
    sound_end_null s activity me sound deployed.own is (not_none s (number_in activity) sound (passes_there (λ (row : Activity). is_null row.kind && not row.ending) (activity_at s.activities (number_in activity)) is)) room.event
sound_effect me (effects.SetTimer activity start period times keep) s sound deployed room is =
    let both = and_parts (is_active s.activities (number_in activity)) _ is in
    sound_timer s (record { activity = record { 0 = number_in activity }; start = start; period = period; times = times; keep = keep }) sound both.0 both.1 room.timer
sound_effect me (effects.CancelTimer timer) s sound deployed room is = sound_cancelled s (number_in timer) sound
sound_effect me (effects.Bind name activity) s sound deployed room is =
    let active = and_parts (is_active s.activities (number_in activity)) _ is in
    let free = and_parts (is_none (named_at s.names name)) _ active.1 in
    let some = and_parts (nat_lt 0 (length name)) (is_text name) free.1 in
    sound_bound s name (number_in activity) sound some.1 (passes_there (λ (row : Activity). not row.ending) (activity_at s.activities (number_in activity)) active.0)
sound_effect me (effects.Unbind name) s sound deployed room is = sound_unbound s name sound
sound_effect me (effects.Emit entity text) s sound deployed room is = sound
sound_effect me (effects.Usage entity name amount) s sound deployed room is = sound
sound_effect me (effects.Suspend activity until) s sound deployed room is =
    let both = and_parts (not (is_undelivered s.delivered (number_in activity))) _ is in
    sound_held s (number_in activity) until sound both.0 both.1
sound_effect me (effects.Resume activity) s sound deployed room is = sound_released s (number_in activity) sound
