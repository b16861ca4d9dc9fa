-- Changes one after another, and what is seen after them.
use Rattle.std.proofs.Common.{◌≡◌, List, [], ◌∷◌, ◌++◌, refl, ap, ◌∙◌}
use Rattle.std.specs.List.{fold}
use Rattle.router_state.specs.State.{State}
use Rattle.router_state.specs.Changes.{after_change, after_changes}
use Rattle.router_state.specs.declared.change.Change.{Change}

pub both : (cs ds : List Change) (s : State) → after_changes (cs ++ ds) s ≡ after_changes ds (after_changes cs s)
both [] ds s = refl
both (c ∷ cs) ds s = both cs ds (after_change c s)

pub one_more : (cs : List Change) (c : Change) (s : State) → after_changes (cs ++ c ∷ []) s ≡ after_change c (after_changes cs s)
one_more cs c s = both cs (c ∷ []) s

-- what is seen after changes, where a step says it for one
pub through : {A : Type 0} (see : State → A) (step : A → Change → A) → ((c : Change) (s : State) → see (after_change c s) ≡ step (see s) c)
    → (cs : List Change) (s : State) → see (after_changes cs s) ≡ fold step (see s) cs
through see step one [] s = refl
through see step one (c ∷ cs) s = through see step one cs (after_change c s) ∙ ap (λ was. fold step was cs) (one c s)
