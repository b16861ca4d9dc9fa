-- A service is set at its place.
use Rattle.std.proofs.Common.{◌≡◌, ℕ, zero, suc, List, [], ◌∷◌, slice_set, refl, ap}
use Rattle.router_state.specs.declared.rows.Service.{Service}
use Rattle.router_state.specs.declared.rows.ServiceState.{ServiceState}
use Rattle.router_state.specs.Services.{with_service}

pub service_set : (rows : List Service) (n : ℕ) (state : ServiceState) (a : ℕ) → slice_set rows n (record { state = state; activity = record { 0 = a } }) ≡ with_service rows n state a
service_set [] n state a = refl
service_set (x ∷ xs) zero state a = refl
service_set (x ∷ xs) (suc n) state a = ap (λ rest. x ∷ rest) (service_set xs n state a)
