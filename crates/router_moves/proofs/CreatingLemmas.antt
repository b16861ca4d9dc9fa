-- The fields of new entities.
use Rattle.std.proofs.Common.{◌≡◌, ℕ, List, [], ◌∷◌, refl, ap, map}
use Rattle.script_types.specs.declared.codes.FieldCode.{FieldCode}
use Rattle.deploy_model.specs.Deployed.{Deployed, block_fields}
use Rattle.router_state.specs.State.{State}
use Rattle.router_state.specs.Changes.{after_changes}
use Rattle.router_state.specs.declared.change.Change.{Change}
use Rattle.router_steps.specs.Creating.{first_fields}
use Rattle.router_moves.proofs.LinkLemmas.{deployment_laid}
use Rattle.router_moves.specs.Cuts.{first_set}

pub one_set : (e : ℕ) (field : FieldCode) (fields : List FieldCode) (s : State)
    → after_changes (map (first_set e) fields) (after_changes (first_set e field ∷ []) s) ≡ after_changes (map (first_set e) (field ∷ fields)) s
one_set e field fields s = refl

pub fields_laid : (cs : List Change) (s : State) (block e : ℕ) → first_fields (after_changes cs s) block e ≡ map (first_set e) (block_fields s.deployment block)
fields_laid cs s block e = ap (λ (d : Deployed). map (first_set e) (block_fields d block)) (deployment_laid cs s)
