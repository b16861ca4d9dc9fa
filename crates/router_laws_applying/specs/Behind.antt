-- What is so in a state behind some effects of a delivery: what the run sees of its own effects is there.
use Rattle.std.specs.Prelude.{◌≡◌, ℕ, ◌+◌, ◌≤◌, ◌⊎◌, Bool, true, false, List, Some, option_and_then, option_map}
use Rattle.slee_effect.specs.Resolving.{resolved_ref}
use Rattle.slee_effect.specs.declared.effect.Effect.{Effect}
use Rattle.slee_effect.specs.declared.reference.Ref.{Ref}
use Rattle.script_meaning.specs.Answers.{flag_in, refers_in}
use Rattle.script_meaning.specs.Observing as read
use Rattle.script_meaning.specs.Overlay.{activities_by, activity_after, attached_after, count_of, entities_by, named_after, overlay, timers_by}
use Rattle.script_meaning.specs.declared.key.Key.TheVariants as keys
use Rattle.router_laws_applying.specs.Seen.{linked_in, name_in, numbered, numbers_of}
use Rattle.router_laws_applying.specs.Suited.{ChildrenAfter}
use Rattle.router_laws_effects.specs.Runs.{IsAmidst, IsOld, activity_seen}
use Rattle.router_state.specs.Fitting.{has_entity}
use Rattle.router_state.specs.Queues.{is_undelivered}
use Rattle.router_state.specs.State.{State}
use Rattle.router_state.specs.Trees.{children_under, entity_at}
use Rattle.router_state.specs.Well.{IsSound}
use Rattle.router_state.specs.declared.rows.Entity.{Entity}
use Rattle.router_steps.specs.Effects.{next_in, number_in}
use Rattle.router_steps.specs.Scripts.{answers_in}

-- an entity is there, or its number isn't drawn yet
abbrev pub IsHere : State → ℕ → Type 0
IsHere s p = (has_entity s.entities p ≡ true) ⊎ (s.next_entity ≤ p)

-- whether an entity was attached, as a state tells a run
abbrev pub attached_told : State → Ref → Ref → Bool
attached_told s e b = flag_in (option_and_then (answers_in s) (read.key_of_two (λ m n. keys.Attached (record { 0 = m }) (record { 0 = n })) e b))

-- The state t stands behind these effects of a delivery in the state s, on an activity, to the entity `me` of the block `own`. It is
-- sound, its clock and deployment are those of s, the event is still marked, the entity is there with its block, so many numbers
-- were drawn as the effects make things, and what the run sees of activities, names, children and attachments is there.
pub record IsBehind (s : State) (me own a : ℕ) (before : List Effect) (t : State) : Type 0 where
  pub sound : IsSound t
  pub deployment : t.deployment ≡ s.deployment
  pub clock : t.clock ≡ s.clock
  pub marked : is_undelivered t.delivered a ≡ false
  pub amidst : IsAmidst (next_in s) (count_of activities_by before) t
  pub drawn : t.next_entity ≡ s.next_entity + count_of entities_by before
  pub timers : t.next_timer ≡ s.next_timer + count_of timers_by before
  pub block : option_map (λ (row : Entity). row.block) (entity_at t.entities me) ≡ Some own
  pub seen : (r : Ref) → IsOld s.next_activity r → activity_seen (next_in s) t r ≡ overlay activities_by (activity_after r) before (activity_seen (next_in s) s r)
  pub names : (name : List ℕ) → name_in t name ≡ numbered (next_in s) (overlay activities_by (named_after name) before (refers_in (answers_in s (keys.Named name))))
  pub kids : (p : Ref) (relation : List ℕ) → IsOld s.next_entity p → IsHere t (number_in (resolved_ref s.next_entity p)) → children_under t.entities (number_in (resolved_ref s.next_entity p)) relation ≡ numbers_of (next_in s) (ChildrenAfter s before p relation)
  pub links : (e b : Ref) → IsOld s.next_entity e → IsOld s.next_activity b → IsHere t (number_in (resolved_ref s.next_entity e)) → linked_in (next_in s) t e b ≡ overlay activities_by (attached_after e b) before (attached_told s e b)
