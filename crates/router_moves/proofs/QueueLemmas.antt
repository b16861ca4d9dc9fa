-- The lines of events that wait, and of activities that end.
use Rattle.std.proofs.Common.{◌≡◌, ℕ, List, [], ◌∷◌, ◌++◌, append_assoc, ap, ◌∙◌}
use Rattle.router_state.specs.State.{State}
use Rattle.router_state.specs.Changes.{after_changes}
use Rattle.router_state.specs.declared.change.Change.TheVariants as changes
use Rattle.router_state.specs.Queues.{activity_end}
use Rattle.router_steps.specs.Lines.{ending_line, queued_line}
use Rattle.router_steps.specs.Moves.{lines_of_queued, lines_of_ended}

pub told_ended : (lines more last : List (List ℕ)) (s t : State) (a : ℕ) → t ≡ after_changes (changes.End (record { 0 = a }) ∷ changes.CancelAll (record { 0 = a }) ∷ []) s
    → more ≡ lines ++ ending_line a ∷ [] → last ≡ more ++ lines_of_queued t a activity_end → last ≡ lines ++ lines_of_ended s a
told_ended lines more last s t a after one two = two ∙ (rw (one, after) (simp append_assoc))

pub told_queued : (lines : List (List ℕ)) (s : State) (v a : ℕ) (name : List ℕ) → v ≡ s.next_event → lines ++ queued_line v name a ∷ [] ≡ lines ++ lines_of_queued s a name
told_queued lines s v a name is = ap (λ n. lines ++ queued_line n name a ∷ []) is
