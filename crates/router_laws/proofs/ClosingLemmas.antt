-- Closing a closed state changes nothing and says nothing.
use Rattle.std.proofs.Common.{◌≡◌, ℕ, ◌+◌, ◌==◌, true, false, not, List, [], ◌∷◌, ◌++◌, refl, ◌∙◌, inl, inr, if◌then◌else◌}
use Rattle.std.specs.List.{list_all}
use Rattle.std.specs.Option.{option_map_or}
use Rattle.std.proofs.lemmas.Bool.{and_parts, cases_Bool, not-true}
use Rattle.router_state.specs.State.{State}
use Rattle.router_state.specs.Closed.{is_loose, is_stopped, are_stopping_with_trees}
use Rattle.router_state.specs.Contexts.{activity_at}
use Rattle.router_state.specs.Trees.{roots}
use Rattle.router_state.specs.Well.{IsClosed}
use Rattle.router_state.specs.declared.rows.Activity.{Activity}
use Rattle.router_state.specs.declared.rows.Service.{Service}
use Rattle.router_steps.specs.Closing.{close_roots, close_services, close_nulls, lines_of_roots, lines_of_services, lines_of_nulls, closing, lines_of_closing, is_idle, is_idle_at, activity_numbers}

roots_stay : (es : List ℕ) (s : State) → list_all (λ e. not (is_loose s.entities s.links e)) es ≡ true → close_roots es s ≡ s
roots_stay [] s held = refl
roots_stay (e ∷ es) s held =
    let parts = and_parts _ _ held in
    let one : is_loose s.entities s.links e ≡ false = not-true _ parts.0 in
    rw one (roots_stay es s parts.1)

roots_silent : (es : List ℕ) (s : State) → list_all (λ e. not (is_loose s.entities s.links e)) es ≡ true → lines_of_roots es s ≡ []
roots_silent [] s held = refl
roots_silent (e ∷ es) s held =
    let parts = and_parts _ _ held in
    let one : is_loose s.entities s.links e ≡ false = not-true _ parts.0 in
    rw one (roots_silent es s parts.1)

services_stay : (n : ℕ) (rows : List Service) (s : State) → are_stopping_with_trees s.entities n rows ≡ true → close_services n rows s ≡ s
services_stay n [] s some = refl
services_stay n (row ∷ rows) s some =
    let parts = and_parts _ _ some in
    let one : is_stopped s.entities n row ≡ false = not-true _ parts.0 in
    rw one (services_stay (n + 1) rows s parts.1)

services_silent : (n : ℕ) (rows : List Service) (s : State) → are_stopping_with_trees s.entities n rows ≡ true → lines_of_services n rows s ≡ []
services_silent n [] s some = refl
services_silent n (row ∷ rows) s some =
    let parts = and_parts _ _ some in
    let one : is_stopped s.entities n row ≡ false = not-true _ parts.0 in
    rw one (services_silent (n + 1) rows s parts.1)

-- where no row is idle, none is that is found by its number
never_idle : (rows : List Activity) (s : State) (a : ℕ) → list_all (λ row. not (is_idle s row)) rows ≡ true → option_map_or (is_idle s) (activity_at rows a) false ≡ false
never_idle [] s a used = refl
never_idle (row ∷ rows) s a used =
    let parts = and_parts _ _ used in
    elim (cases_Bool (row.number.0 == a)) [
      | inl own ↦ rw own (not-true _ parts.0)
      | inr other ↦ rw other (never_idle rows s a parts.1)
    ]

nulls_stay : (all : List ℕ) (s : State) → ((a : ℕ) → is_idle_at s a ≡ false) → close_nulls all s ≡ s
nulls_stay [] s used = refl
nulls_stay (a ∷ rest) s used = let one : is_idle_at s a ≡ false = used a in rw one (nulls_stay rest s used)

nulls_silent : (all : List ℕ) (s : State) → ((a : ℕ) → is_idle_at s a ≡ false) → lines_of_nulls all s ≡ []
nulls_silent [] s used = refl
nulls_silent (a ∷ rest) s used = let one : is_idle_at s a ≡ false = used a in rw one (nulls_silent rest s used)

pub closed_stays : (s : State) → IsClosed s → closing s ≡ s
closed_stays s closed =
    let loose = roots_stay (roots s.entities) s closed.roots in
    let stopped = services_stay 0 s.services s closed.services in
    rw (loose, stopped) (nulls_stay (activity_numbers s) s (λ a. never_idle s.activities s a closed.nulls))

pub closed_silent : (s : State) → IsClosed s → lines_of_closing s ≡ []
closed_silent s closed =
    let loose = roots_stay (roots s.entities) s closed.roots in
    let stopped = services_stay 0 s.services s closed.services in
    rw (roots_silent (roots s.entities) s closed.roots, loose, stopped, services_silent 0 s.services s closed.services) (nulls_silent (activity_numbers s) s (λ a. never_idle s.activities s a closed.nulls))
