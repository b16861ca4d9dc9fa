-- The root that an event selects, by what is found of it.
use Rattle.std.proofs.Common.{◌≡◌, ℕ, ℤ, Bool, true, false, List, [], ◌∷◌, Option, Some, None, IsSome, refl, sym, ◌∙◌, ap, subst, find, inl, inr, is_some}
use Rattle.std.specs.Prelude.{option_map, option_and_then}
use Rattle.std.specs.Option.{option_map_or}
use Rattle.std.proofs.lemmas.Bool.{cases_Bool, and_parts}
use Rattle.slee_value.specs.declared.convergence.ConvName.{ConvName}
use Rattle.script_meaning.specs.Same.{same_name}
use Rattle.deploy_model.specs.Deployed.{Deployed, DeployedService, Handling, block_event, service_at}
use Rattle.router_state.specs.State.{State}
use Rattle.router_state.specs.Fitting.{has_entity}
use Rattle.router_state.specs.Trees.{entity_at, is_root_of}
use Rattle.router_state.specs.declared.rows.Entity.{Entity}
use Rattle.router_state.specs.declared.rows.Event.{Event}
use Rattle.router_state.specs.declared.rows.RootName.{RootName}
use Rattle.router_steps.specs.Selection.{Candidate, is_root_named, name_by_handling, root_named, selected}
use Rattle.router_steps.specs.Steps.{NewRoot, NoRoot, OldRoot, Root, root_by_name, root_selected}

some_is : {A : Type 0} (x y : A) → Some x ≡ Some y → x ≡ y
some_is x y h = cc

-- the root of a service, by the convergence name that was found for it

abbrev root_of : State → ℕ → Option ConvName → Root
root_of s service found = option_map_or (λ name. root_by_name (root_named s service name) name) found NoRoot

pub selects_none : (s : State) (d : Deployed) (service a : ℕ) (v : Event) → d ≡ s.deployment → None ≡ selected d service (record { activity = a; event = v.id.0; name = v.name; fields = v.fields }) → NoRoot ≡ root_selected s service a v
selects_none s d service a v same is =
    ap (root_of s service) (is ∙ ap (λ (e : Deployed). selected e service (record { activity = a; event = v.id.0; name = v.name; fields = v.fields })) same)

pub selects_named : (s : State) (d : Deployed) (service a : ℕ) (v : Event) (name : ConvName) → d ≡ s.deployment → Some name ≡ selected d service (record { activity = a; event = v.id.0; name = v.name; fields = v.fields })
    → root_by_name (root_named s service name) name ≡ root_selected s service a v
selects_named s d service a v name same is =
    ap (root_of s service) (is ∙ ap (λ (e : Deployed). selected e service (record { activity = a; event = v.id.0; name = v.name; fields = v.fields })) same)

-- a service for which a name is selected is there
pub service_there : (d : Deployed) (service : ℕ) (x : Candidate) (name : ConvName) → Some name ≡ selected d service x → IsSome (service_at d service)
service_there d service x name is = by (service_at d service) is
  where
    by : (o : Option DeployedService) → Some name ≡ option_and_then (λ (h : Handling). name_by_handling h x) (option_and_then (λ (row : DeployedService). block_event d row.root x.name) o) → IsSome o
    by None none = absurd (let wrong : Some name ≡ None = none in cc)
    by (Some row) some = refl

-- an old root, which is there

pub old_root : (s : State) (service : ℕ) (name : ConvName) (e : ℕ) → Some e ≡ option_map (λ (row : RootName). row.entity.0) (root_named s service name) → OldRoot e ≡ root_by_name (root_named s service name) name
old_root s service name e is = by (root_named s service name) is
  where
    by : (o : Option RootName) → Some e ≡ option_map (λ (row : RootName). row.entity.0) o → OldRoot e ≡ root_by_name o name
    by None none = absurd (let wrong : Some e ≡ None = none in cc)
    by (Some row) some = ap OldRoot (some_is e row.entity.0 some)

passes_there : {X : Type 0} (p : X → Bool) (xs : List X) (x : X) → find p xs ≡ Some x → p x ≡ true
passes_there p [] x is = absurd cc
passes_there p (z ∷ zs) x is = elim (cases_Bool (p z)) [
  | inl own ↦ let found : Some z ≡ Some x = rw own at is in let same : z ≡ x = cc in subst (λ w. p w ≡ true) same own
  | inr other ↦ passes_there p zs x (rw other at is)
]

tells : (f : Entity → Bool) (o : Option Entity) → option_map_or f o false ≡ true → is_some o ≡ true
tells f None is = absurd cc
tells f (Some x) is = refl

pub old_there : (s : State) (service : ℕ) (name : ConvName) (e : ℕ) → Some e ≡ option_map (λ (row : RootName). row.entity.0) (root_named s service name) → has_entity s.entities e ≡ true
old_there s service name e is = by (root_named s service name) refl is
  where
    by : (o : Option RootName) → root_named s service name ≡ o → Some e ≡ option_map (λ (row : RootName). row.entity.0) o → has_entity s.entities e ≡ true
    by None none is = absurd (let wrong : Some e ≡ None = is in cc)
    by (Some row) some is =
        let same : e ≡ row.entity.0 = some_is e row.entity.0 is in
        let passes = passes_there (is_root_named s service name) s.root_names row some in
        let root = (and_parts (same_name row.name name) (option_map_or (λ (x : Entity). is_root_of service x.stem) (entity_at s.entities row.entity.0) false) passes).1 in
        subst (λ (n : ℕ). has_entity s.entities n ≡ true) (sym same) (tells (λ (x : Entity). is_root_of service x.stem) (entity_at s.entities row.entity.0) root)

-- a new root
pub new_root : (s : State) (service : ℕ) (name : ConvName) → None ≡ option_map (λ (row : RootName). row.entity.0) (root_named s service name) → NewRoot name ≡ root_by_name (root_named s service name) name
new_root s service name is = by (root_named s service name) is
  where
    by : (o : Option RootName) → None ≡ option_map (λ (row : RootName). row.entity.0) o → NewRoot name ≡ root_by_name o name
    by None none = refl
    by (Some row) some = absurd (let wrong : None ≡ Some row.entity.0 = some in cc)

-- the row of a service that is there

abbrev root_and_priority : ℕ → ℤ → ℕ × ℤ
root_and_priority block priority = (block, priority)

abbrev row_of : DeployedService → ℕ × ℤ
row_of row = (row.root, row.priority)

abbrev IsRowOf : Deployed → ℕ → ℕ → ℤ → Type 0
IsRowOf d service block priority = (row : DeployedService) × (service_at d service ≡ Some row) × (row.root ≡ block) × (row.priority ≡ priority)

pub row_there : (d e : Deployed) (service block : ℕ) (priority : ℤ) → d ≡ e → Some (root_and_priority block priority) ≡ option_map row_of (service_at d service) → IsRowOf e service block priority
row_there d e service block priority same is = subst (λ (x : Deployed). IsRowOf x service block priority) same (by (service_at d service) refl is)
  where
    by : (o : Option DeployedService) → service_at d service ≡ o → Some (root_and_priority block priority) ≡ option_map row_of o → IsRowOf d service block priority
    by None none is = absurd (let wrong : Some (root_and_priority block priority) ≡ None = is in cc)
    by (Some row) some is =
        let all : root_and_priority block priority ≡ row_of row = some_is (root_and_priority block priority) (row_of row) is in
        (row, some, sym (ap (λ x. x.0) all), sym (ap (λ x. x.1) all))

pub row_missing : (d e : Deployed) (service : ℕ) → d ≡ e → IsSome (service_at e service) → None ≡ option_map row_of (service_at d service) → ⊥
row_missing d e service same there none = by (service_at e service) there (none ∙ ap (λ (x : Deployed). option_map row_of (service_at x service)) same)
  where
    by : (o : Option DeployedService) → IsSome o → None ≡ option_map row_of o → ⊥
    by None there none = let wrong : false ≡ true = there in cc
    by (Some row) there none = let wrong : None ≡ Some (row_of row) = none in cc
