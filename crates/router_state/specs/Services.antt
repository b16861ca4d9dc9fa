-- Services: what is read of them, and how they change (JSR 240, chapter 9).
use Rattle.std.specs.Prelude.{ℕ, zero, suc, Bool, true, false, List, [], ◌∷◌, slice_get}
use Rattle.std.specs.Option.{option_map_or}
use Rattle.router_state.specs.declared.rows.Service.{Service}
use Rattle.router_state.specs.declared.rows.ServiceState.{ServiceState}
use Rattle.router_state.specs.declared.rows.ServiceState.TheVariants as states

-- the state is Inactive
abbrev pub is_inactive : ServiceState → Bool
is_inactive states.Inactive = true
is_inactive states.Active = false
is_inactive states.Stopping = false

-- the state is Active
abbrev pub is_active : ServiceState → Bool
is_active states.Inactive = false
is_active states.Active = true
is_active states.Stopping = false

-- the state is Stopping
abbrev pub is_stopping : ServiceState → Bool
is_stopping states.Inactive = false
is_stopping states.Active = false
is_stopping states.Stopping = true

-- the service of this number is there and Active
abbrev pub is_active_at : List Service → ℕ → Bool
is_active_at services n = option_map_or (λ row. is_active row.state) (slice_get services n) false

-- the service of this number has this state and this activity
abbrev pub with_service : List Service → ℕ → ServiceState → ℕ → List Service
with_service [] n state a = []
with_service (row ∷ rows) zero state a = record { state = state; activity = record { 0 = a } } ∷ rows
with_service (row ∷ rows) (suc n) state a = row ∷ with_service rows n state a
