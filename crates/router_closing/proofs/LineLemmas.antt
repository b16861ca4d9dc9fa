-- The lines of closing, one part behind another.
use Rattle.std.proofs.Common.{◌≡◌, ℕ, List, ◌++◌, map, ◌∙◌, ap}
use Rattle.router_state.specs.State.{State}
use Rattle.router_state.specs.Trees.{roots}
use Rattle.router_state.specs.declared.rows.Activity.{Activity}
use Rattle.router_steps.specs.Closing.{activity_numbers, lines_behind_roots, lines_of_closing, lines_of_nulls, lines_of_roots, lines_of_services, without_loose, without_stopped}
use Rattle.router_laws.proofs.ListRules.{append_joins}
use Rattle.router_laws_closing.proofs.ClosedLemmas.{services_keep}

pub told_behind : (s u : State) (lines more last : List (List ℕ)) → u ≡ without_stopped s → more ≡ lines ++ lines_of_services 0 s.services s → last ≡ more ++ lines_of_nulls (activity_numbers u) u → last ≡ lines ++ lines_behind_roots s
told_behind s u lines more last stopped one two =
    let keep = services_keep 0 s.services s in
    let numbers : activity_numbers (without_stopped s) ≡ activity_numbers s = ap (λ rows. map (λ (row : Activity). row.number.0) rows) keep.2 in
    two
    ∙ ap (λ (t : State). more ++ lines_of_nulls (activity_numbers t) t) stopped
    ∙ ap (λ ns. more ++ lines_of_nulls ns (without_stopped s)) numbers
    ∙ ap (λ xs. xs ++ lines_of_nulls (activity_numbers s) (without_stopped s)) one
    ∙ append_joins lines (lines_of_services 0 s.services s) (lines_of_nulls (activity_numbers s) (without_stopped s))

pub told_closing : (s t : State) (lines more last : List (List ℕ)) → t ≡ without_loose s → more ≡ lines ++ lines_of_roots (roots s.entities) s → last ≡ more ++ lines_behind_roots t → last ≡ lines ++ lines_of_closing s
told_closing s t lines more last loose one two =
    two
    ∙ ap (λ (u : State). more ++ lines_behind_roots u) loose
    ∙ ap (λ xs. xs ++ lines_behind_roots (without_loose s)) one
    ∙ append_joins lines (lines_of_roots (roots s.entities) s) (lines_behind_roots (without_loose s))
