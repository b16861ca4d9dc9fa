-- The order in which the services of a deployment select, and which of them an event may begin.
use Rattle.std.specs.Prelude.{ℕ, ◌+◌, Bool, ◌||◌, ◌&&◌, not, int_lt, nat_lt, List, [], ◌∷◌, filter, map}
use Rattle.script_tree.specs.Tree.{Bytes}
use Rattle.rows_sorted.specs.Orders.{sorted}
use Rattle.deploy_model.specs.Deployed.{Deployed, DeployedService, is_initial}

-- A service with its number.
abbrev pub Numbered : Type 0
Numbered = ℕ × DeployedService

-- Services with their numbers, counted from n.
abbrev pub numbered : ℕ → List DeployedService → List Numbered
numbered n [] = []
numbered n (service ∷ services) = (n, service) ∷ numbered (n + 1) services

-- A service selects before another: higher priority first, then as deployed.
abbrev pub selects_before : Numbered → Numbered → Bool
selects_before x y = int_lt y.1.priority x.1.priority || (not (int_lt x.1.priority y.1.priority) && nat_lt x.0 y.0)

-- The services in the order of selection.
abbrev pub service_order : List DeployedService → List Numbered
service_order services = sorted selects_before (numbered 0 services)

-- The numbers of the services whose roots' blocks declare the event initial, in the order of selection.
abbrev pub starters_of : Deployed → Bytes → List ℕ
starters_of d event = map (λ x. x.0) (filter (λ x. is_initial d x.1.root event) (service_order d.services))
