-- The lines of services, and whether an activity is Active.
use Rattle.std.proofs.Common.{◌≡◌, ℕ, Bool, false, List, [], ◌∷◌, ◌++◌, Option, Some, None, append_assoc, codes, refl, ap, ◌∙◌}
use Rattle.std.specs.Prelude.{not, option_map}
use Rattle.built_in_events.specs.declared.built_in.BuiltInEvent.TheVariants as built_in_events
use Rattle.built_in_events.specs.BuiltIn.{name_of as built_in_name}
use Rattle.deploy_model.specs.Deployed.{service_key}
use Rattle.router_state.specs.State.{State}
use Rattle.router_state.specs.Changes.{after_change, after_changes}
use Rattle.router_state.specs.Contexts.{activity_at, is_active, is_null}
use Rattle.router_state.specs.declared.change.Change.{Change}
use Rattle.router_state.specs.declared.change.Change.TheVariants as changes
use Rattle.router_state.specs.declared.rows.AcKind.TheVariants as kinds
use Rattle.router_state.specs.declared.rows.Activity.{Activity}
use Rattle.router_state.specs.declared.rows.ServiceState.TheVariants as states
use Rattle.router_steps.specs.Lines.{service_line, started_line}
use Rattle.router_steps.specs.Moves.{lines_of_queued, with_service}
use Rattle.router_steps.specs.Taking.{lines_of_activated, lines_of_ended_if}

pub told_activated : (lines more last : List (List ℕ)) (one two first second : List ℕ) → more ≡ lines ++ one ∷ [] → last ≡ more ++ two ∷ [] → one ≡ first → two ≡ second → last ≡ lines ++ (first ∷ second ∷ [])
told_activated lines more last one two first second told more_told own other = more_told ∙ (rw (told, own, other) (append_assoc lines (first ∷ []) (second ∷ [])))

-- the line of a service that stops, and then those of its activity's end
pub lines_stopped : (lines more on last : List (List ℕ)) (before after : List Change) (s t : State) (n a : ℕ) → after ≡ before
    → more ≡ lines ++ service_line (service_key (after_changes before s).deployment n) (codes "stopping") ∷ []
    → t ≡ with_service (after_changes after s) n states.Stopping a → on ≡ more → last ≡ on ++ lines_of_ended_if a t
    → last ≡ lines ++ service_line (service_key (after_changes before s).deployment n) (codes "stopping") ∷ lines_of_ended_if a (after_changes before s)
lines_stopped lines more on last before after s t n a kept told stopped same ended =
    ended ∙ (rw (same, told, stopped, kept) (append_assoc lines (service_line (service_key (after_changes before s).deployment n) (codes "stopping") ∷ []) (lines_of_ended_if a (after_changes before s))))

-- the two lines and that of the event, in the words of the definition
pub lines_activated : (lines more on last : List (List ℕ)) (before after : List Change) (s t : State) (n a : ℕ) (name : List ℕ) → after ≡ before
    → a ≡ (after_changes before s).next_activity → name ≡ built_in_name built_in_events.ServiceStarted
    → more ≡ lines ++ (service_line (service_key (after_changes before s).deployment n) (codes "active") ∷ started_line a (codes "service " ++ service_key (after_changes before s).deployment n) ∷ [])
    → t ≡ with_service (after_change (changes.Start (kinds.Service n)) (after_changes after s)) n states.Active (after_changes after s).next_activity
    → on ≡ more → last ≡ on ++ lines_of_queued t a name → last ≡ lines ++ lines_of_activated n (after_changes before s)
lines_activated lines more on last before after s t n a name kept is named told opened same ended =
    ended ∙ (rw (same, told, opened, kept, is, named) (append_assoc lines (service_line (service_key (after_changes before s).deployment n) (codes "active") ∷ started_line (after_changes before s).next_activity (codes "service " ++ service_key (after_changes before s).deployment n) ∷ []) (lines_of_queued (after_changes before s) (after_changes before s).next_activity (built_in_name built_in_events.ServiceStarted))))

pub active_some : (rows : List Activity) (a : ℕ) (null ending : Bool) → ◌≡◌ {A = Option (Bool × Bool)} (Some (null, ending)) (option_map (λ (row : Activity). (is_null row.kind, row.ending)) (activity_at rows a)) → not ending ≡ is_active rows a
active_some rows a null ending is = by (activity_at rows a) refl is
  where
    by : (o : Option Activity) → activity_at rows a ≡ o → ◌≡◌ {A = Option (Bool × Bool)} (Some (null, ending)) (option_map (λ (row : Activity). (is_null row.kind, row.ending)) o) → not ending ≡ is_active rows a
    by None found none = absurd (cc)
    by (Some row) found some =
        let pair : ◌≡◌ {A = Bool × Bool} (null, ending) (is_null row.kind, row.ending) = cc in
        let own : ending ≡ row.ending = ap (λ (x : Bool × Bool). x.1) pair in
        rw (found, own) refl

pub active_none : (rows : List Activity) (a : ℕ) → ◌≡◌ {A = Option (Bool × Bool)} None (option_map (λ (row : Activity). (is_null row.kind, row.ending)) (activity_at rows a)) → false ≡ is_active rows a
active_none rows a is = by (activity_at rows a) refl is
  where
    by : (o : Option Activity) → activity_at rows a ≡ o → ◌≡◌ {A = Option (Bool × Bool)} None (option_map (λ (row : Activity). (is_null row.kind, row.ending)) o) → false ≡ is_active rows a
    by None found none = rw found refl
    by (Some row) found some = absurd (cc)
