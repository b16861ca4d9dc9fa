-- What effects leave: making a child, removing a tree and attaching change only some lists.
use Rattle.deploy_model.specs.Deployed.{block_fields}
use Rattle.router_laws_sound.proofs.SoundCreated.{fields_set_alone, with_fields}
use Rattle.router_laws_sound.proofs.SoundTrees.{removed_alone}
use Rattle.router_state.specs.Changes.{after_change, after_create}
use Rattle.router_state.specs.Contexts.{is_linked}
use Rattle.router_state.specs.Trees.{tree_of}
use Rattle.router_state.specs.State.{State}
use Rattle.router_state.specs.declared.change.Change.TheVariants as changes
use Rattle.router_state.specs.declared.rows.Stem.TheVariants as stems
use Rattle.router_steps.specs.Creating.{with_child}
use Rattle.router_steps.specs.Effects.{after_effect, number_in, relation_at}
use Rattle.router_steps.specs.Going.{all_removed}
use Rattle.router_steps.specs.Moves.{attached}
use Rattle.script_types.specs.declared.codes.RelationCode.{RelationCode}
use Rattle.slee_effect.specs.declared.effect.Effect.{Effect}
use Rattle.slee_effect.specs.declared.effect.Effect.TheVariants as effects
use Rattle.std.proofs.Common.{◌≡◌, ℕ, ℤ, List, Option, Some, None, refl, ap}
use Rattle.std.proofs.lemmas.Bool.{cond_both}
use Rattle.std.specs.Option.{option_map_or}

-- the same names, clock and marks of entities
pub record IsLeft (s t : State) : Type 0 where
  pub names : t.names ≡ s.names
  pub clock : t.clock ≡ s.clock
  pub delivered : t.delivered ≡ s.delivered

-- a state with a new child, as one record
abbrev pub child_state : State → ℕ → List ℕ → ℕ → ℤ → State
child_state s parent relation block priority =
    record (after_create s block (stems.Child (record { 0 = parent }) relation) priority) { fields = with_fields s.fields s.next_entity (block_fields s.deployment block) }

pub child_is : (s : State) (parent : ℕ) (relation : List ℕ) (block : ℕ) (priority : ℤ) → with_child s parent relation block priority ≡ child_state s parent relation block priority
child_is s parent relation block priority =
    fields_set_alone s.next_entity (block_fields s.deployment block) (after_change (changes.CreateChild (record { 0 = parent }) relation block priority) s)

left_child : (s : State) (parent : ℕ) (relation : List ℕ) (priority : ℤ) (o : Option RelationCode) → IsLeft s (option_map_or (λ (r : RelationCode). with_child s parent relation r.block priority) o s)
left_child s parent relation priority None = record { names = refl; clock = refl; delivered = refl }
left_child s parent relation priority (Some r) =
    let is = child_is s parent relation r.block priority in
    record { names = ap (λ (t : State). t.names) is; clock = ap (λ (t : State). t.clock) is; delivered = ap (λ (t : State). t.delivered) is }

left_removed : (es : List ℕ) (s : State) → IsLeft s (all_removed es s)
left_removed es s =
    let is = removed_alone es s in
    record { names = ap (λ (t : State). t.names) is; clock = ap (λ (t : State). t.clock) is; delivered = ap (λ (t : State). t.delivered) is }

left_attached : (s : State) (e a : ℕ) → IsLeft s (attached s e a)
left_attached s e a =
    cond_both (is_linked s.links e a) s _ (IsLeft s) (λ _. record { names = refl; clock = refl; delivered = refl }) (λ _. record { names = refl; clock = refl; delivered = refl })

-- an effect leaves the clock and the marks
pub record StaysTimed (s t : State) : Type 0 where
  pub clock : t.clock ≡ s.clock
  pub delivered : t.delivered ≡ s.delivered

timed : (s t : State) → IsLeft s t → StaysTimed s t
timed s t left = record { clock = left.clock; delivered = left.delivered }

pub left_created : (s : State) (parent : ℕ) (relation : List ℕ) (priority : ℤ) → IsLeft s (option_map_or (λ (r : RelationCode). with_child s parent relation r.block priority) (relation_at s parent relation) s)
left_created s parent relation priority = left_child s parent relation priority (relation_at s parent relation)

pub left_gone : (s : State) (e : ℕ) → IsLeft s (all_removed (tree_of s.entities e) s)
left_gone s e = left_removed (tree_of s.entities e) s

pub left_linked : (s : State) (e a : ℕ) → IsLeft s (attached s e a)
left_linked s e a = left_attached s e a

pub stays_timed : (x : Effect) (s : State) → StaysTimed s (after_effect x s)
stays_timed (effects.SetField entity field value) s = record { clock = refl; delivered = refl }
stays_timed (effects.SetAttr activity key value) s = record { clock = refl; delivered = refl }
stays_timed (effects.Create parent under priority) s = timed s (after_effect (effects.Create parent under priority) s) (left_created s (number_in parent) under priority)
stays_timed (effects.Remove entity) s = timed s (after_effect (effects.Remove entity) s) (left_gone s (number_in entity))
stays_timed (effects.SetPriority entity priority) s = record { clock = refl; delivered = refl }
stays_timed (effects.Attach entity activity) s = timed s (after_effect (effects.Attach entity activity) s) (left_linked s (number_in entity) (number_in activity))
stays_timed (effects.Detach entity activity) s = record { clock = refl; delivered = refl }
stays_timed (effects.SetMask entity activity event on) s = record { clock = refl; delivered = refl }
stays_timed (effects.Fire activity event service fields) s = record { clock = refl; delivered = refl }
stays_timed effects.NewNull s = record { clock = refl; delivered = refl }
stays_timed (effects.EndNull activity) s = record { clock = refl; delivered = refl }
stays_timed (effects.SetTimer activity start period times keep) s = record { clock = refl; delivered = refl }
stays_timed (effects.CancelTimer timer) s = record { clock = refl; delivered = refl }
stays_timed (effects.Bind word activity) s = record { clock = refl; delivered = refl }
stays_timed (effects.Unbind word) s = record { clock = refl; delivered = refl }
stays_timed (effects.Emit entity text) s = record { clock = refl; delivered = refl }
stays_timed (effects.Usage entity usage amount) s = record { clock = refl; delivered = refl }
stays_timed (effects.Suspend activity until) s = record { clock = refl; delivered = refl }
stays_timed (effects.Resume activity) s = record { clock = refl; delivered = refl }
