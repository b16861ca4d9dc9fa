-- Numbers that come next never fall, so where they have room at the end they had it all along; and effects one after another keep every part sound.
use Rattle.deploy_model.specs.Deployed.{block_fields}
use Rattle.router_laws.proofs.KeptLemmas.{same_effect}
use Rattle.router_laws_sound.proofs.SoundApplied.{sound_effect}
use Rattle.router_laws_sound.proofs.SoundCreated.{fields_set_alone, setting}
use Rattle.router_laws_sound.proofs.SoundTrees.{removed_alone}
use Rattle.router_laws_sound.specs.Rooms.{HasRoom, IsDeployed, IsGrown}
use Rattle.router_state.specs.Changes.{after_change, after_changes}
use Rattle.router_state.specs.Contexts.{is_linked}
use Rattle.router_state.specs.Fits.{is_u64}
use Rattle.router_state.specs.State.{State}
use Rattle.router_state.specs.Trees.{tree_of}
use Rattle.router_state.specs.Well.{IsSound}
use Rattle.router_steps.specs.Applying.{applies, applying, done_effects}
use Rattle.router_steps.specs.Creating.{with_child}
use Rattle.router_steps.specs.Effects.{after_effect, after_effects, number_in, relation_at, resolved_in}
use Rattle.router_steps.specs.Going.{all_removed}
use Rattle.router_steps.specs.Moves.{attached}
use Rattle.script_types.specs.declared.codes.FieldCode.{FieldCode}
use Rattle.script_types.specs.declared.codes.RelationCode.{RelationCode}
use Rattle.slee_effect.specs.declared.effect.Effect.{Effect}
use Rattle.std.proofs.Common.{Bool, List, None, Option, Some, [], ap, arith, inl, inr, refl, subst, sym, true, ℕ, ◌<◌, ◌^◌, ◌∷◌, ◌≡◌, ◌≤◌}
use Rattle.std.proofs.lemmas.Bool.{cases_Bool, cond_both, lt-ltb, ltb-true}
use Rattle.std.specs.Option.{option_map_or}
use Rattle.std.specs.Prelude.{if◌then◌else◌, ℤ}
use Rattle.router_state.specs.declared.change.Change.TheVariants as changes
use Rattle.slee_effect.specs.declared.effect.Effect.TheVariants as effects

-- the second state has the next numbers of the first
abbrev pub SameNumbers : State → State → Type 0
SameNumbers s t = (t.next_entity ≡ s.next_entity) × (t.next_activity ≡ s.next_activity) × (t.next_timer ≡ s.next_timer) × (t.next_event ≡ s.next_event)

pub grown_same : (s t : State) → SameNumbers s t → IsGrown s t
grown_same s t same = record { entity = le s.next_entity t.next_entity same.0; activity = le s.next_activity t.next_activity same.1; timer = le s.next_timer t.next_timer same.2; event = le s.next_event t.next_event same.3 }
  where
    le : (n m : ℕ) → m ≡ n → n ≤ m
    le n m is = omega (arith, is)

pub grown_then : (s t u : State) → IsGrown s t → IsGrown t u → IsGrown s u
grown_then s t u one two = record {
  entity = le s.next_entity t.next_entity u.next_entity one.entity two.entity;
  activity = le s.next_activity t.next_activity u.next_activity one.activity two.activity;
  timer = le s.next_timer t.next_timer u.next_timer one.timer two.timer;
  event = le s.next_event t.next_event u.next_event one.event two.event;
}
  where
    le : (n m k : ℕ) → n ≤ m → m ≤ k → n ≤ k
    le n m k one two = omega (arith, one, two)

pub room_before : (s t : State) → IsGrown s t → HasRoom t → HasRoom s
room_before s t grown room = record {
  entity = lower s.next_entity t.next_entity grown.entity room.entity;
  activity = lower s.next_activity t.next_activity grown.activity room.activity;
  timer = lower s.next_timer t.next_timer grown.timer room.timer;
  event = lower s.next_event t.next_event grown.event room.event;
}
  where
    lower : (n m : ℕ) → n ≤ m → is_u64 m ≡ true → is_u64 n ≡ true
    lower n m le is = lt-ltb n (2 ^ 64) (under n m (2 ^ 64) le (ltb-true m (2 ^ 64) is))
      where
        under : (n m k : ℕ) → n ≤ m → m < k → n < k
        under n m k le less = omega (arith, le, less)

pub grown_if : (b : Bool) (s t u : State) → IsGrown s t → IsGrown s u → IsGrown s (if b then t else u)
grown_if b s t u one two = cond_both b t u (IsGrown s) (λ _. one) (λ _. two)

pub still_numbers : (s : State) → IsGrown s s
still_numbers s = grown_same s s (refl, refl, refl, refl)

pub grown_removed : (es : List ℕ) (s : State) → IsGrown s (all_removed es s)
grown_removed es s =
    let alone = removed_alone es s in
    grown_same s (all_removed es s) (ap (λ (t : State). t.next_entity) alone, ap (λ (t : State). t.next_activity) alone, ap (λ (t : State). t.next_timer) alone, ap (λ (t : State). t.next_event) alone)

pub grown_fields : (e : ℕ) (fields : List FieldCode) (s : State) → IsGrown s (after_changes (setting e fields) s)
grown_fields e fields s =
    let alone = fields_set_alone e fields s in
    grown_same s (after_changes (setting e fields) s) (ap (λ (t : State). t.next_entity) alone, ap (λ (t : State). t.next_activity) alone, ap (λ (t : State). t.next_timer) alone, ap (λ (t : State). t.next_event) alone)

grown_child : (parent : ℕ) (relation : List ℕ) (priority : ℤ) (s : State) (o : Option RelationCode) → IsGrown s (option_map_or (λ (r : RelationCode). with_child s parent relation r.block priority) o s)
grown_child parent relation priority s None = still_numbers s
grown_child parent relation priority s (Some r) =
    let t = after_change (changes.CreateChild (record { 0 = parent }) relation r.block priority) s in
    grown_then s t (with_child s parent relation r.block priority) (record { entity = omega arith; activity = omega arith; timer = omega arith; event = omega arith }) (grown_fields s.next_entity (block_fields s.deployment r.block) t)

pub grown_attached : (s : State) (e a : ℕ) → IsGrown s (attached s e a)
grown_attached s e a = cond_both (is_linked s.links e a) s _ (IsGrown s) (λ _. still_numbers s) (λ _. grown_same s _ (refl, refl, refl, refl))

pub grown_effect : (x : Effect) (s : State) → IsGrown s (after_effect x s)
grown_effect (effects.SetField entity name value) s = grown_same s _ (refl, refl, refl, refl)
grown_effect (effects.SetAttr activity key value) s = grown_same s _ (refl, refl, refl, refl)
grown_effect (effects.Create parent relation priority) s = grown_child (number_in parent) relation priority s (relation_at s (number_in parent) relation)
grown_effect (effects.Remove entity) s = grown_removed (tree_of s.entities (number_in entity)) s
grown_effect (effects.SetPriority entity priority) s = grown_same s _ (refl, refl, refl, refl)
grown_effect (effects.Attach entity activity) s = grown_attached s (number_in entity) (number_in activity)
grown_effect (effects.Detach entity activity) s = grown_same s _ (refl, refl, refl, refl)
grown_effect (effects.SetMask entity activity event on) s = grown_same s _ (refl, refl, refl, refl)
grown_effect (effects.Fire activity event service fields) s = record { entity = omega arith; activity = omega arith; timer = omega arith; event = omega arith }
grown_effect effects.NewNull s = record { entity = omega arith; activity = omega arith; timer = omega arith; event = omega arith }
grown_effect (effects.EndNull activity) s = record { entity = omega arith; activity = omega arith; timer = omega arith; event = omega arith }
grown_effect (effects.SetTimer activity start period times keep) s = record { entity = omega arith; activity = omega arith; timer = omega arith; event = omega arith }
grown_effect (effects.CancelTimer timer) s = grown_same s _ (refl, refl, refl, refl)
grown_effect (effects.Bind name activity) s = grown_same s _ (refl, refl, refl, refl)
grown_effect (effects.Unbind name) s = grown_same s _ (refl, refl, refl, refl)
grown_effect (effects.Emit entity text) s = still_numbers s
grown_effect (effects.Usage entity name amount) s = still_numbers s
grown_effect (effects.Suspend activity until) s = grown_same s _ (refl, refl, refl, refl)
grown_effect (effects.Resume activity) s = grown_same s _ (refl, refl, refl, refl)

pub grown_effects : (xs : List Effect) (s : State) → IsGrown s (after_effects xs s)
grown_effects [] s = still_numbers s
grown_effects (x ∷ xs) s = grown_then s (after_effect x s) (after_effects xs (after_effect x s)) (grown_effect x s) (grown_effects xs (after_effect x s))

-- effects one after another, of which those that apply are done

sound_applying : (me : ℕ) (xs : List Effect) (s : State) → IsSound s → IsDeployed s.deployment → HasRoom (after_effects (applying me xs s) s) → IsSound (after_effects (applying me xs s) s)
sound_applying me [] s sound deployed room = sound
sound_applying me (x ∷ xs) s sound deployed room = elim (cases_Bool (applies me x s)) [
  | inl is ↦
      let t = after_effect x s in
      let end : HasRoom (after_effects (applying me xs t) t) = rw is at room in
      let one = sound_effect me x s sound deployed (room_before t (after_effects (applying me xs t) t) (grown_effects (applying me xs t) t) end) is in
      rw is (sound_applying me xs t one (subst IsDeployed (sym (same_effect x s).0) deployed) end)
  | inr isnt ↦ (let end : HasRoom (after_effects (applying me xs s) s) = rw isnt at room in rw isnt (sound_applying me xs s sound deployed end))
]

pub sound_done : (me : ℕ) (xs : List Effect) (s : State) → IsSound s → IsDeployed s.deployment → HasRoom (done_effects me xs s) → IsSound (done_effects me xs s)
sound_done me xs s sound deployed room = sound_applying me (resolved_in s xs) s sound deployed room
