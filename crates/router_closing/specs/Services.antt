-- Services after changes, and closing them one by one.
use Rattle.std.specs.Prelude.{ℕ, zero, suc, ◌+◌, ◌==◌, Bool, false, ◌&&◌, ◌||◌, if◌then◌else◌, List, [], ◌∷◌, ◌++◌, Option, option_map, slice_get, codes}
use Rattle.std.specs.Option.{option_map_or}
use Rattle.deploy_model.specs.Deployed.{service_key}
use Rattle.router_state.specs.State.{State}
use Rattle.router_state.specs.Closed.{is_stopped}
use Rattle.router_state.specs.declared.change.Change.{Change}
use Rattle.router_state.specs.declared.change.Change.TheVariants as changes
use Rattle.router_state.specs.declared.rows.Entity.{Entity}
use Rattle.router_state.specs.declared.rows.Service.{Service}
use Rattle.router_steps.specs.Closing.{close_service}
use Rattle.router_steps.specs.Lines.{service_line}
use Rattle.router_laws_closing.specs.TouchedRoots.{stands}

-- the row of a service
abbrev pub service_after : Change → ℕ → Option Service → Option Service
service_after (changes.Service m state a) n was = if m == n then option_map (λ row. record { state = state; activity = a }) was else was
service_after _ n was = was

-- the entity that the change removes
abbrev pub removed_by : Change → List ℕ
removed_by (changes.Remove e) = e.0 ∷ []
removed_by _ = []

-- how many entities the change makes
abbrev pub makes : Change → ℕ
makes (changes.CreateRoot block service priority) = 1
makes (changes.CreateChild parent relation block priority) = 1
makes _ = 0

-- the change makes a root of the service
abbrev pub makes_root : ℕ → Change → Bool
makes_root n (changes.CreateRoot block service priority) = service == n
makes_root n _ = false

-- a root of the service that the changes make, from this number on, stands among these
abbrev pub has_new_root : List Entity → ℕ → ℕ → List Change → Bool
has_new_root rows n next [] = false
has_new_root rows n next (c ∷ cs) = (makes_root n c && stands rows next) || has_new_root rows n (next + makes c) cs

-- the service of this number is Inactive where it is stopped
abbrev pub close_service_at : ℕ → State → State
close_service_at n s = option_map_or (λ row. close_service n row s) (slice_get s.services n) s

-- its line
abbrev pub lines_of_service_at : ℕ → State → List (List ℕ)
lines_of_service_at n s =
    option_map_or (λ row. if is_stopped s.entities n row then service_line (service_key s.deployment n) (codes "inactive") ∷ [] else []) (slice_get s.services n) []

-- the same of so many services from this number on
abbrev pub close_services_from : ℕ → ℕ → State → State
close_services_from n zero s = s
close_services_from n (suc k) s = close_services_from (n + 1) k (close_service_at n s)

-- their lines, each in the state where its turn comes
abbrev pub lines_of_services_from : ℕ → ℕ → State → List (List ℕ)
lines_of_services_from n zero s = []
lines_of_services_from n (suc k) s = lines_of_service_at n s ++ lines_of_services_from (n + 1) k (close_service_at n s)
