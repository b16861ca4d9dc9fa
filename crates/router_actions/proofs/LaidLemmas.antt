-- No change changes what was deployed.
use Rattle.std.proofs.Common.{◌≡◌, ℕ, List, [], ◌∷◌, refl, ap, ◌∙◌}
use Rattle.deploy_model.specs.Deployed.{Deployed, service_key}
use Rattle.router_state.specs.State.{State}
use Rattle.router_state.specs.Changes.{after_change, after_changes}
use Rattle.router_state.specs.declared.change.Change.{Change}
use Rattle.router_state.specs.declared.change.Change.TheVariants as changes

kept : (c : Change) (s : State) → (after_change c s).deployment ≡ s.deployment
kept (changes.SetField e name value) s = refl
kept _ s = refl

deployment_laid : (cs : List Change) (s : State) → (after_changes cs s).deployment ≡ s.deployment
deployment_laid [] s = refl
deployment_laid (c ∷ cs) s = deployment_laid cs (after_change c s) ∙ kept c s

pub key_laid : (cs : List Change) (s : State) (n : ℕ) → service_key (after_changes cs s).deployment n ≡ service_key s.deployment n
key_laid cs s n = ap (λ (d : Deployed). service_key d n) (deployment_laid cs s)
