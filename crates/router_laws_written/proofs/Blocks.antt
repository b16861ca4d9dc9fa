-- The blocks of entities that stay through an effect.
use Rattle.std.proofs.Common.{◌≡◌, ℕ, ℤ, ◌≤◌, inl, inr, ◌==◌, ◌∷◌, [], List, true, false, refl, ◌∙◌, ap, subst, Option, Some, None}
use Rattle.std.specs.Prelude.{is_some, option_map}
use Rattle.std.proofs.lemmas.Bool.{and_parts}
use Rattle.slee_effect.specs.Resolving.{resolved_effect, resolved_ref}
use Rattle.slee_effect.specs.declared.effect.Effect.{Effect}
use Rattle.slee_effect.specs.declared.effect.Effect.TheVariants as effects
use Rattle.slee_effect.specs.declared.next.Next.{Next}
use Rattle.slee_effect.specs.declared.reference.Ref.{Ref}
use Rattle.slee_effect.specs.declared.reference.Ref.TheVariants.{Known}
use Rattle.router_laws.proofs.Removal.{in_list, left_entities}
use Rattle.router_laws_applying.proofs.Behind.{out_here}
use Rattle.router_laws_applying.proofs.Kids.{attached_rows, block_ranked, made_rows}
use Rattle.router_laws_applying.proofs.Links.{out_of}
use Rattle.router_laws_applying.specs.Behind.{IsHere}
use Rattle.router_laws_sound.proofs.SoundBase.{found_more}
use Rattle.router_laws_sound.proofs.SoundCreated.{new_entity}
use Rattle.router_laws_sound.proofs.SoundRemoval.{entity_left}
use Rattle.router_laws_sound.proofs.SoundTrees.{removed_alone}
use Rattle.router_state.specs.Fits.{is_priority}
use Rattle.router_state.specs.Fitting.{has_entity}
use Rattle.router_state.specs.State.{State}
use Rattle.router_state.specs.Trees.{entity_at, tree_of}
use Rattle.router_state.specs.Well.{IsSound}
use Rattle.router_state.specs.declared.rows.Entity.{Entity}
use Rattle.router_state.specs.declared.rows.Stem.TheVariants as stems
use Rattle.router_steps.specs.Applying.{applies}
use Rattle.router_steps.specs.Effects.{after_effect, number_in, relation_at}
use Rattle.router_steps.specs.Going.{all_removed}

-- what is so of the block of an entity, where it is there
abbrev pub OfBlock : (ℕ → Type 0) → State → ℕ → Type 0
OfBlock P s e = (row : Entity) → entity_at s.entities e ≡ Some row → P row.block

-- what stays when a tree goes isn't in it
pub stays_out : (me : ℕ) (next : Next) (entity : Ref) (s : State) (k : ℕ) → IsSound s → applies me (resolved_effect next (effects.Remove entity)) s ≡ true → IsHere (after_effect (resolved_effect next (effects.Remove entity)) s) k
    → in_list k (tree_of s.entities (number_in (resolved_ref next.entity entity))) ≡ false
stays_out me next entity s k sound is here = by (and_parts (has_entity s.entities (number_in (resolved_ref next.entity entity))) _ is).0 here
  where
    by : has_entity s.entities (number_in (resolved_ref next.entity entity)) ≡ true → IsHere (all_removed (tree_of s.entities (number_in (resolved_ref next.entity entity))) s) k → in_list k (tree_of s.entities (number_in (resolved_ref next.entity entity))) ≡ false
    by there (inl stays) = out_of (tree_of s.entities (number_in (resolved_ref next.entity entity))) s k stays
    by there (inr le) = out_here s (number_in (resolved_ref next.entity entity)) k sound there (subst (λ (n : ℕ). n ≤ k) (ap (λ (t : State). t.next_entity) (removed_alone (tree_of s.entities (number_in (resolved_ref next.entity entity))) s)) le)

-- an entity with this block is there
abbrev HasBlock : State → ℕ → ℕ → Type 0
HasBlock s e block = option_map (λ (row : Entity). row.block) (entity_at s.entities e) ≡ Some block

created : (s : State) (parent : ℕ) (relation : List ℕ) (priority : ℤ) (k : ℕ) (row : Entity) → is_some (relation_at s parent relation) ≡ true → entity_at s.entities k ≡ Some row
    → HasBlock (after_effect (effects.Create (Known parent) relation priority) s) k row.block
created s parent relation priority k row some found =
    let made = made_rows s parent relation priority (relation_at s parent relation) some in
    let new = new_entity s.next_entity made.0.block (stems.Child (record { 0 = parent }) relation) priority in
    ap (λ rows. option_map (λ (r : Entity). r.block) (entity_at rows k)) made.2 ∙ ap (option_map (λ (r : Entity). r.block)) (found_more (λ (r : Entity). r.number.0 == k) s.entities (new ∷ []) row found)

gone : (s : State) (tree : List ℕ) (k : ℕ) (row : Entity) → in_list k tree ≡ false → entity_at s.entities k ≡ Some row → HasBlock (all_removed tree s) k row.block
gone s tree k row out found = ap (λ rows. option_map (λ (r : Entity). r.block) (entity_at rows k)) (left_entities tree s) ∙ ap (option_map (λ (r : Entity). r.block)) (entity_left tree s.entities k out ∙ found)

kept : (s : State) (k : ℕ) (row : Entity) → entity_at s.entities k ≡ Some row → HasBlock s k row.block
kept s k row found = ap (option_map (λ (r : Entity). r.block)) found

-- an entity that stays keeps its block
block_stays : (me : ℕ) (next : Next) (x : Effect) (s : State) (k : ℕ) (row : Entity) → IsSound s → applies me (resolved_effect next x) s ≡ true → IsHere (after_effect (resolved_effect next x) s) k → entity_at s.entities k ≡ Some row
    → HasBlock (after_effect (resolved_effect next x) s) k row.block
block_stays me next (effects.SetField entity field value) s k row sound is here found = kept s k row found
block_stays me next (effects.SetAttr activity key value) s k row sound is here found = kept s k row found
block_stays me next (effects.Create parent under priority) s k row sound is here found =
    created s (number_in (resolved_ref next.entity parent)) under priority k row (and_parts (is_some (relation_at s (number_in (resolved_ref next.entity parent)) under)) (is_priority priority) is).0 found
block_stays me next (effects.Remove entity) s k row sound is here found =
    gone s (tree_of s.entities (number_in (resolved_ref next.entity entity))) k row (stays_out me next entity s k sound is here) found
block_stays me next (effects.SetPriority entity priority) s k row sound is here found = block_ranked s.entities (number_in (resolved_ref next.entity entity)) priority k ∙ kept s k row found
block_stays me next (effects.Attach entity activity) s k row sound is here found =
    ap (λ rows. option_map (λ (r : Entity). r.block) (entity_at rows k)) (attached_rows s (number_in (resolved_ref next.entity entity)) (number_in (resolved_ref next.activity activity))) ∙ kept s k row found
block_stays me next (effects.Detach entity activity) s k row sound is here found = kept s k row found
block_stays me next (effects.SetMask entity activity event on) s k row sound is here found = kept s k row found
block_stays me next (effects.Fire activity event service fields) s k row sound is here found = kept s k row found
block_stays me next effects.NewNull s k row sound is here found = kept s k row found
block_stays me next (effects.EndNull activity) s k row sound is here found = kept s k row found
block_stays me next (effects.SetTimer activity start period times keep) s k row sound is here found = kept s k row found
block_stays me next (effects.CancelTimer timer) s k row sound is here found = kept s k row found
block_stays me next (effects.Bind word activity) s k row sound is here found = kept s k row found
block_stays me next (effects.Unbind word) s k row sound is here found = kept s k row found
block_stays me next (effects.Emit entity text) s k row sound is here found = kept s k row found
block_stays me next (effects.Usage entity usage amount) s k row sound is here found = kept s k row found
block_stays me next (effects.Suspend activity until) s k row sound is here found = kept s k row found
block_stays me next (effects.Resume activity) s k row sound is here found = kept s k row found

of_found : (P : ℕ → Type 0) (o : Option Entity) (block : ℕ) → option_map (λ (row : Entity). row.block) o ≡ Some block → ((row : Entity) → o ≡ Some row → P row.block) → P block
of_found P None block is all = absurd (cc)
of_found P (Some row) block is all = subst P (some_same is) (all row refl)
  where
    some_same : {x y : ℕ} → Some x ≡ Some y → x ≡ y
    some_same same = cc

-- what is so of the block of an entity after an effect was so before it, while the entity stays
pub of_block_before : (P : ℕ → Type 0) (me : ℕ) (next : Next) (x : Effect) (s : State) (k : ℕ) → IsSound s → applies me (resolved_effect next x) s ≡ true → IsHere (after_effect (resolved_effect next x) s) k
    → OfBlock P (after_effect (resolved_effect next x) s) k → OfBlock P s k
of_block_before P me next x s k sound is here all row found =
    of_found P (entity_at (after_effect (resolved_effect next x) s).entities k) row.block (block_stays me next x s k row sound is here found) all
