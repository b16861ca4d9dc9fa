-- The events that an entity masks where it is attached.
use Rattle.std.proofs.Common.{◌≡◌, ℕ, List, [], ◌∷◌, refl, ap, ◌∙◌, Some, None, Option}
use Rattle.std.specs.Prelude.{option_map}
use Rattle.std.specs.Option.{option_map_or}
use Rattle.deploy_model.specs.Deployed.{Deployed, masked_on_attach}
use Rattle.router_state.specs.State.{State}
use Rattle.router_state.specs.Trees.{entity_at}
use Rattle.router_state.specs.Changes.{after_change, after_changes}
use Rattle.router_state.specs.declared.change.Change.{Change}
use Rattle.router_state.specs.declared.change.Change.TheVariants as changes
use Rattle.router_state.specs.declared.rows.Entity.{Entity}
use Rattle.router_steps.specs.Moves.{first_masks}

-- no change changes what was deployed
kept : (c : Change) (s : State) → (after_change c s).deployment ≡ s.deployment
kept (changes.SetField e name value) s = refl
kept _ s = refl

pub deployment_laid : (cs : List Change) (s : State) → (after_changes cs s).deployment ≡ s.deployment
deployment_laid [] s = refl
deployment_laid (c ∷ cs) s = deployment_laid cs (after_change c s) ∙ kept c s

by_block : (d : Deployed) (o : Option Entity) (block : Option ℕ) → option_map (λ (row : Entity). row.block) o ≡ block
    → option_map_or (λ (row : Entity). masked_on_attach d row.block) o [] ≡ option_map_or (λ b. masked_on_attach d b) block []
by_block d None block is = ap (λ (b : Option ℕ). option_map_or (λ n. masked_on_attach d n) b []) is
by_block d (Some row) block is = ap (λ (b : Option ℕ). option_map_or (λ n. masked_on_attach d n) b []) is

pub masks_found : (cs : List Change) (s : State) (e block : ℕ) → option_map (λ (row : Entity). row.block) (entity_at (after_changes cs s).entities e) ≡ Some block
    → first_masks (after_changes cs s) e ≡ masked_on_attach s.deployment block
masks_found cs s e block is = by_block (after_changes cs s).deployment (entity_at (after_changes cs s).entities e) (Some block) is ∙ ap (λ d. masked_on_attach d block) (deployment_laid cs s)

pub masks_absent : (cs : List Change) (s : State) (e : ℕ) → option_map (λ (row : Entity). row.block) (entity_at (after_changes cs s).entities e) ≡ None
    → first_masks (after_changes cs s) e ≡ []
masks_absent cs s e is = by_block (after_changes cs s).deployment (entity_at (after_changes cs s).entities e) None is
