-- Whether a service that an event may begin is to select for it.
use Rattle.std.specs.Prelude.{ℕ, Bool, not, ◌&&◌, List, Option}
use Rattle.router_state.specs.Next.{is_for}
use Rattle.router_state.specs.Queues.{is_done}
use Rattle.router_state.specs.Services.{is_active_at}
use Rattle.router_state.specs.declared.rows.Service.{Service}
use Rattle.router_state.specs.declared.rows.ServiceMark.{ServiceMark}

-- the service is Active, the event is for it, and it hasn't selected yet
abbrev pub selects : List Service → List ServiceMark → ℕ → Option ℕ → ℕ → Bool
selects services marks a target n = is_active_at services n && (is_for target n && not (is_done marks a n))
