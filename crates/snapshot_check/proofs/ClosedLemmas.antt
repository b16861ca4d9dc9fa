-- Services with trees and activities in use, as numbers.
use Rattle.std.proofs.Common.{◌≡◌, ℕ, ◌+◌, ◌==◌, Bool, true, false, List, [], ◌∷◌, ◌++◌, map, refl, ap, ◌∙◌, inl, inr}
use Rattle.std.specs.Prelude.{◌&&◌, ◌||◌, not}
use Rattle.std.specs.List.{list_all, list_any}
use Rattle.std.proofs.lemmas.Bool.{cases_Bool}
use Rattle.router_state.specs.Closed.{are_nulls_in_use, has_tree, is_stopped}
use Rattle.router_state.specs.Contexts.{is_null}
use Rattle.router_state.specs.Queues.{is_waiting}
use Rattle.router_state.specs.Services.{is_stopping}
use Rattle.router_state.specs.Trees.{is_root_of}
use Rattle.router_state.specs.declared.rows.Activity.{Activity}
use Rattle.router_state.specs.declared.rows.Entity.{Entity}
use Rattle.router_state.specs.declared.rows.Link.{Link}
use Rattle.router_state.specs.declared.rows.Named.{Named}
use Rattle.router_state.specs.declared.rows.Queued.{Queued}
use Rattle.router_state.specs.declared.rows.Service.{Service}
use Rattle.router_state.specs.declared.rows.Stem.{Stem}
use Rattle.router_state.specs.declared.rows.Stem.TheVariants as stems
use Rattle.router_state.specs.declared.rows.Timer.{Timer}
use Rattle.snapshot_check.specs.Closing.{service_in, services_with_trees}

any_joined : (n : ℕ) (xs ys : List ℕ) → list_any (λ x. x == n) (xs ++ ys) ≡ (list_any (λ x. x == n) xs || list_any (λ x. x == n) ys)
any_joined n [] ys = refl
any_joined n (x ∷ xs) ys = elim (cases_Bool (x == n)) [
  | inl is ↦ rw is refl
  | inr other ↦ rw other (any_joined n xs ys)
]

of_stem : (n : ℕ) (stem : Stem) → list_any (λ x. x == n) (service_in stem) ≡ is_root_of n stem
of_stem n (stems.Root service) = last (service == n)
  where
    last : (b : Bool) → (b || false) ≡ b
    last true = refl
    last false = refl
of_stem n (stems.Child parent relation) = refl

-- a service is among those with trees where it has one
pub with_trees : (n : ℕ) (entities : List Entity) → list_any (λ x. x == n) (services_with_trees entities) ≡ has_tree entities n
with_trees n [] = refl
with_trees n (row ∷ rows) = any_joined n (service_in row.stem) (services_with_trees rows) ∙ (λ i. of_stem n row.stem i || with_trees n rows i)

-- what stops and has no tree is stopped
pub tree_there : (entities : List Entity) (sorted : List ℕ) (n : ℕ) (service : Service) → ((m : ℕ) → list_any (λ x. x == m) sorted ≡ list_any (λ x. x == m) (services_with_trees entities))
    → (is_stopping service.state && not (list_any (λ x. x == n) sorted)) ≡ is_stopped entities n service
tree_there entities sorted n service same = ap (λ b. is_stopping service.state && not b) (same n ∙ with_trees n entities)

any_map : {X : Type 0} (f : X → ℕ) (n : ℕ) (xs : List X) → list_any (λ x. x == n) (map f xs) ≡ list_any (λ x. f x == n) xs
any_map f n [] = refl
any_map f n (x ∷ xs) = ap (λ rest. (f x == n) || rest) (any_map f n xs)

grouped : (a b c : Bool) → ((a || b) || c) ≡ (a || (b || c))
grouped true b c = refl
grouped false b c = refl

pub nulls_are : (activities : List Activity) (links : List Link) (names : List Named) (timers : List Timer) (events : List Queued) (sorted : List ℕ)
    → ((n : ℕ) → list_any (λ x. x == n) sorted ≡ list_any (λ x. x == n) (map (λ (row : Named). row.activity.0) names ++ map (λ (row : Timer). row.activity.0) timers))
    → list_all (λ (row : Activity). not (is_null row.kind && (not row.ending && not (list_any (λ (l : Link). l.activity.0 == row.number.0) links || (list_any (λ x. x == row.number.0) sorted || is_waiting events row.number.0))))) activities
    ≡ are_nulls_in_use activities links names timers events
nulls_are activities links names timers events sorted same =
    λ i. list_all (λ (row : Activity). not (is_null row.kind && (not row.ending && not (list_any (λ (l : Link). l.activity.0 == row.number.0) links || in_use row.number.0 i)))) activities
  where
    in_use : (n : ℕ) → (list_any (λ x. x == n) sorted || is_waiting events n) ≡ (list_any (λ (row : Named). row.activity.0 == n) names || (list_any (λ (t : Timer). t.activity.0 == n) timers || is_waiting events n))
    in_use n =
        ap (λ b. b || is_waiting events n)
        (same n ∙ any_joined n (map (λ (row : Named). row.activity.0) names) (map (λ (row : Timer). row.activity.0) timers) ∙ (λ i. any_map (λ (row : Named). row.activity.0) n names i || any_map (λ (row : Timer). row.activity.0) n timers i))
        ∙ grouped (list_any (λ (row : Named). row.activity.0 == n) names) (list_any (λ (t : Timer). t.activity.0 == n) timers) (is_waiting events n)
