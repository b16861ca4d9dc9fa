-- Which root a selection gives, as code has it and as it is defined; and what becomes of it.
use Rattle.std.specs.Prelude.{◌≡◌, ℕ, ℤ, IsTrue, List, [], ◌∷◌, Some, codes}
use Rattle.slee_value.specs.declared.convergence.ConvName.{ConvName}
use Rattle.deploy_model.specs.Deployed.{DeployedService, service_at}
use Rattle.router_state.specs.State.{State}
use Rattle.router_state.specs.Changes.{after_changes}
use Rattle.router_state.specs.Fitting.{has_entity}
use Rattle.router_state.specs.declared.change.Change.TheVariants as changes
use Rattle.router_steps.specs.Creating.{first_fields, with_root}
use Rattle.router_steps.specs.Lines.{initial_heading, initial_none_heading}
use Rattle.router_steps.specs.Moves.{attached, lines_of_attached}
use Rattle.router_steps.specs.Steps.{Root, NoRoot, OldRoot, NewRoot}
use Rattle.router_subjects.specs.declared.selecting.Root.{Root as RootInCode}
use Rattle.router_subjects.specs.declared.selecting.Root.TheVariants as roots

-- the root of a selection
abbrev pub root_in : RootInCode → Root
root_in roots.NotInitial = NoRoot
root_in (roots.Old e) = OldRoot e.0
root_in (roots.New block priority name) = NewRoot name

-- a new root of a service, of this block and priority
abbrev pub rooted : State → ℕ → ℕ → ℤ → ConvName → State
rooted s service block priority name =
    after_changes (changes.CreateRoot block service priority ∷ changes.Root (record { 0 = s.next_entity }) name ∷ first_fields s block s.next_entity) s

-- An old root is there, and a new one is of the block and has the priority that its service declares.
abbrev pub CanSelect : State → ℕ → RootInCode → Type 0
CanSelect s service roots.NotInitial = Unit {0}
CanSelect s service (roots.Old e) = IsTrue (has_entity s.entities e.0)
CanSelect s service (roots.New block priority name) =
    (row : DeployedService) × (service_at s.deployment service ≡ Some row) × (row.root ≡ block) × (row.priority ≡ priority)

-- the root is attached to the activity, new or old
abbrev pub root_attached : ℕ → ℕ → Root → State → State
root_attached a service NoRoot s = s
root_attached a service (OldRoot e) s = attached s e a
root_attached a service (NewRoot name) s = attached (with_root s service name) s.next_entity a

-- the line of an attachment
abbrev pub lines_of_root_attached : ℕ → ℕ → Root → State → List (List ℕ)
lines_of_root_attached a service NoRoot s = []
lines_of_root_attached a service (OldRoot e) s = lines_of_attached s e a
lines_of_root_attached a service (NewRoot name) s = lines_of_attached (with_root s service name) s.next_entity a

-- the line of a selection, for a service of this key
abbrev pub heading_of_root : ℕ → ℕ → List ℕ → Root → State → List ℕ
heading_of_root a v key NoRoot s = initial_none_heading a v key
heading_of_root a v key (OldRoot e) s = initial_heading a v key e (codes "old")
heading_of_root a v key (NewRoot name) s = initial_heading a v key s.next_entity (codes "new")
