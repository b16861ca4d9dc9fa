-- What a step leaves is as steady as what it found.
use Rattle.std.proofs.Common.{◌≡◌, ℕ, zero, suc, List, [], ◌∷◌, length, refl, sym, ◌∙◌, ap, subst, arith}
use Rattle.router_state.specs.State.{State}
use Rattle.router_state.specs.Changes.{after_change, after_changes}
use Rattle.router_state.specs.Services.{with_service}
use Rattle.router_state.specs.Well.{IsClosed}
use Rattle.router_state.specs.declared.change.Change.{Change}
use Rattle.router_state.specs.declared.change.Change.TheVariants as changes
use Rattle.router_state.specs.declared.rows.Service.{Service}
use Rattle.router_core.specs.States.{IsSteady}

-- a change leaves as many services

as_many : (rows : List Service) (n : ℕ) (state : _) (a : ℕ) → length (with_service rows n state a) ≡ length rows
as_many [] n state a = refl
as_many (row ∷ rows) zero state a = refl
as_many (row ∷ rows) (suc n) state a = ap (λ (m : ℕ). suc m) (as_many rows n state a)

counted : (c : Change) (s : State) → length (after_change c s).services ≡ length s.services
counted (changes.Service service state a) s = as_many s.services service state a.0
counted _ s = refl

all_counted : (cs : List Change) (s : State) → length (after_changes cs s).services ≡ length s.services
all_counted [] s = refl
all_counted (c ∷ cs) s = all_counted cs (after_change c s) ∙ counted c s

-- a closed state behind changes is steady
pub stays_steady : (cs : List Change) (s t u : State) → IsSteady s → t ≡ after_changes cs s → after_changes cs s ≡ u → IsClosed u → IsSteady t
stays_steady cs s t u steady is same closed = record {
  closed = subst IsClosed (sym (is ∙ same)) closed;
  few = omega (arith, ap (λ (x : State). length x.services) is ∙ all_counted cs s, steady.few);
}
