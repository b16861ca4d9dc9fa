-- What a run reads of a priority after its own effects is what is there once they are done, while the entity stays.
use Rattle.std.proofs.Common.{◌≡◌, ℕ, ℤ, ◌+◌, ◌<◌, ◌==◌, ◌&&◌, Bool, true, false, List, [], ◌∷◌, ◌++◌, refl, sym, ◌∙◌, ap, subst, inl, inr, arith, if◌then◌else◌, Option}
use Rattle.std.specs.Prelude.{is_some, nat_lt, pos}
use Rattle.std.specs.List.{AllByRecursion}
use Rattle.std.specs.Option.{option_map_or}
use Rattle.std.proofs.lemmas.Bool.{and_parts, cases_Bool, eqb-true, ltb-true}
use Rattle.std.proofs.lemmas.Bool.Decides.{nat_tests}
use Rattle.slee_effect.specs.Resolving.{resolved_effect, resolved_ref}
use Rattle.slee_effect.specs.declared.effect.Effect.{Effect}
use Rattle.slee_effect.specs.declared.effect.Effect.TheVariants as effects
use Rattle.slee_effect.specs.declared.next.Next.{Next}
use Rattle.slee_effect.specs.declared.reference.Ref.{Ref}
use Rattle.slee_effect.specs.declared.reference.Ref.TheVariants.{Fresh}
use Rattle.script_meaning.specs.Overlay.{priority_after, same_ref}
use Rattle.rows_sorted.specs.Orders.{are_below}
use Rattle.router_laws.proofs.Removal.{left_entities}
use Rattle.router_laws_applying.proofs.Kids.{attached_rows, made_rows}
use Rattle.router_laws_applying.proofs.References.{same_numbers}
use Rattle.router_laws_applying.specs.Behind.{IsHere}
use Rattle.router_laws_effects.specs.Runs.{IsOld}
use Rattle.router_laws_sound.proofs.SoundBase.{entities_drawn}
use Rattle.router_laws_sound.proofs.SoundCreated.{new_entity}
use Rattle.router_laws_sound.proofs.SoundRemoval.{entity_left}
use Rattle.router_laws_written.proofs.Blocks.{stays_out}
use Rattle.router_laws_written.specs.Held.{priority_held}
use Rattle.router_state.specs.Fits.{is_priority}
use Rattle.router_state.specs.Fitting.{has_entity}
use Rattle.router_state.specs.State.{State}
use Rattle.router_state.specs.Trees.{entity_at, tree_of, with_priority}
use Rattle.router_state.specs.Well.{IsSound}
use Rattle.router_state.specs.declared.rows.Entity.{Entity}
use Rattle.router_state.specs.declared.rows.Stem.{Stem}
use Rattle.router_state.specs.declared.rows.Stem.TheVariants as stems
use Rattle.router_steps.specs.Applying.{applies}
use Rattle.router_steps.specs.Effects.{after_effect, number_in, relation_at}

-- the priority of an entity, and 0 where it isn't there
abbrev rank_in : Option Entity → ℤ
rank_in o = option_map_or (λ (row : Entity). row.priority) o (pos 0)

rank_added : (rows : List Entity) (n k block : ℕ) (stem : Stem) (priority : ℤ) → AllByRecursion (λ (row : Entity). row.number.0 < n) rows
    → rank_in (entity_at (rows ++ new_entity n block stem priority ∷ []) k) ≡ (if n == k then priority else rank_in (entity_at rows k))
rank_added [] n k block stem priority below = elim (cases_Bool (n == k)) [
  | inl is ↦ rw is refl
  | inr isnt ↦ rw isnt refl
]
rank_added (row ∷ rows) n k block stem priority below = elim (cases_Bool (row.number.0 == k)) [
  | inl is ↦ (let other : (n == k) ≡ false = apart row.number.0 n k below.0 is in rw (is, other) refl)
  | inr isnt ↦ rw isnt (rank_added rows n k block stem priority below.1)
]
  where
    apart : (x n k : ℕ) → x < n → (x == k) ≡ true → (n == k) ≡ false
    apart x n k less is = grind (arith, nat_tests)

rank_set : (rows : List Entity) (b : ℕ) (priority : ℤ) (k : ℕ) → rank_in (entity_at (with_priority rows b priority) k) ≡ (if (b == k) && is_some (entity_at rows k) then priority else rank_in (entity_at rows k))
rank_set [] b priority k = by (b == k)
  where
    by : (c : Bool) → pos 0 ≡ (if c && false then priority else pos 0)
    by true = refl
    by false = refl
rank_set (row ∷ rows) b priority k = elim (cases_Bool (row.number.0 == k)) [
  | inl mine ↦ elim (cases_Bool (row.number.0 == b)) [
    | inl is ↦ (let same : (b == k) ≡ true = both row.number.0 b k is mine in rw (is, mine, same) refl)
    | inr isnt ↦ (let other : (b == k) ≡ false = apart row.number.0 b k isnt mine in rw (isnt, mine, other) refl)
  ]
  | inr isnt ↦ elim (cases_Bool (row.number.0 == b)) [
    | inl is ↦ rw (is, isnt) (rank_set rows b priority k)
    | inr other ↦ rw (other, isnt) (rank_set rows b priority k)
  ]
]
  where
    both : (x b k : ℕ) → (x == b) ≡ true → (x == k) ≡ true → (b == k) ≡ true
    both x b k one two = grind (arith, nat_tests)

    apart : (x b k : ℕ) → (x == b) ≡ false → (x == k) ≡ true → (b == k) ≡ false
    apart x b k one two = grind (arith, nat_tests)

pub entities_below : (s : State) → IsSound s → AllByRecursion (λ (row : Entity). row.number.0 < s.next_entity) s.entities
entities_below s sound = each s.entities (entities_drawn s.deployment s.entities s.next_entity sound.entities)
  where
    each : (rows : List Entity) → are_below (λ (row : Entity). row.number.0) s.next_entity rows ≡ true → AllByRecursion (λ (row : Entity). row.number.0 < s.next_entity) rows
    each [] all = tt
    each (row ∷ rows) all = let parts = and_parts (nat_lt row.number.0 s.next_entity) (are_below (λ (row : Entity). row.number.0) s.next_entity rows) all in (ltb-true row.number.0 s.next_entity parts.0, each rows parts.1)

-- an entity whose priority is set was drawn before the run, or is made by it
abbrev pub RanksOld : ℕ → Effect → Type 0
RanksOld next (effects.SetPriority entity priority) = IsOld next entity
RanksOld next _ = Unit {0}

left : (next : Next) (s t : State) (e : Ref) (base : ℤ) → t.entities ≡ s.entities → priority_held next s e ≡ base → priority_held next t e ≡ base
left next s t e base same is = ap (λ rows. rank_in (entity_at rows (number_in (resolved_ref next.entity e)))) same ∙ is

-- one effect that applies does to a priority what the overlay does, while the entity stays
pub priority_step : (me : ℕ) (next : Next) (n : ℕ) (x : Effect) (s : State) (e : Ref) (base : ℤ) → IsSound s → applies me (resolved_effect next x) s ≡ true → s.next_entity ≡ next.entity + n → RanksOld next.entity x → IsOld next.entity e
    → IsHere (after_effect (resolved_effect next x) s) (number_in (resolved_ref next.entity e)) → priority_held next s e ≡ base → priority_held next (after_effect (resolved_effect next x) s) e ≡ priority_after e n x base
priority_step me next n (effects.SetField entity field value) s e base sound apply drawn old mine here is = is
priority_step me next n (effects.SetAttr activity key value) s e base sound apply drawn old mine here is = is
priority_step me next n (effects.Create parent under priority) s e base sound apply drawn old mine here is =
    let p = number_in (resolved_ref next.entity parent) in
    let made = made_rows s p under priority (relation_at s p under) (and_parts (is_some (relation_at s p under)) (is_priority priority) apply).0 in
    ap (λ rows. rank_in (entity_at rows (number_in (resolved_ref next.entity e)))) made.2
    ∙ rank_added s.entities s.next_entity (number_in (resolved_ref next.entity e)) made.0.block (stems.Child (record { 0 = p }) under) priority (entities_below s sound)
    ∙ rw (drawn, same_numbers next.entity (Fresh n) e tt mine) (cases (same_ref (Fresh n) e) (priority_held next s e) base is)
  where
    cases : (b : Bool) (z base : ℤ) → z ≡ base → (if b then priority else z) ≡ (if b then priority else base)
    cases true z base is = refl
    cases false z base is = is
priority_step me next n (effects.Remove entity) s e base sound apply drawn old mine here is =
    let k = number_in (resolved_ref next.entity e) in
    let tree = tree_of s.entities (number_in (resolved_ref next.entity entity)) in
    ap (λ rows. rank_in (entity_at rows k)) (left_entities tree s) ∙ ap rank_in (entity_left tree s.entities k (stays_out me next entity s k sound apply here)) ∙ is
priority_step me next n (effects.SetPriority entity priority) s e base sound apply drawn old mine here is =
    rank_set s.entities (number_in (resolved_ref next.entity entity)) priority (number_in (resolved_ref next.entity e))
    ∙ elim (cases_Bool (number_in (resolved_ref next.entity entity) == number_in (resolved_ref next.entity e))) [
      | inl same ↦ (let there = subst (λ k. is_some (entity_at s.entities k) ≡ true) (eqb-true (number_in (resolved_ref next.entity entity)) (number_in (resolved_ref next.entity e)) same) (and_parts (has_entity s.entities (number_in (resolved_ref next.entity entity))) (is_priority priority) apply).0 in
          let own : same_ref entity e ≡ true = sym (same_numbers next.entity entity e old mine) ∙ same in rw (same, there, own) refl)
      | inr other ↦ (let own : same_ref entity e ≡ false = sym (same_numbers next.entity entity e old mine) ∙ other in rw (other, own) is)
    ]
priority_step me next n (effects.Attach entity activity) s e base sound apply drawn old mine here is =
    left next s (after_effect (resolved_effect next (effects.Attach entity activity)) s) e base (attached_rows s (number_in (resolved_ref next.entity entity)) (number_in (resolved_ref next.activity activity))) is
priority_step me next n (effects.Detach entity activity) s e base sound apply drawn old mine here is = is
priority_step me next n (effects.SetMask entity activity event on) s e base sound apply drawn old mine here is = is
priority_step me next n (effects.Fire activity event service fields) s e base sound apply drawn old mine here is = is
priority_step me next n effects.NewNull s e base sound apply drawn old mine here is = is
priority_step me next n (effects.EndNull activity) s e base sound apply drawn old mine here is = is
priority_step me next n (effects.SetTimer activity start period times keep) s e base sound apply drawn old mine here is = is
priority_step me next n (effects.CancelTimer timer) s e base sound apply drawn old mine here is = is
priority_step me next n (effects.Bind word activity) s e base sound apply drawn old mine here is = is
priority_step me next n (effects.Unbind word) s e base sound apply drawn old mine here is = is
priority_step me next n (effects.Emit entity text) s e base sound apply drawn old mine here is = is
priority_step me next n (effects.Usage entity usage amount) s e base sound apply drawn old mine here is = is
priority_step me next n (effects.Suspend activity until) s e base sound apply drawn old mine here is = is
priority_step me next n (effects.Resume activity) s e base sound apply drawn old mine here is = is
