-- The lines of a clock line are those of the state before it: the clock's moment and the timers that advance change none.
use Rattle.std.proofs.Common.{◌≡◌, ℕ, ◌+◌, List, [], ◌∷◌, ◌++◌, append_assoc, refl, ap, ◌∙◌}
use Rattle.router_state.specs.State.{State}
use Rattle.router_state.specs.Changes.{after_change}
use Rattle.router_state.specs.Queues.{without_suspension}
use Rattle.router_state.specs.Timing.{Occurrence}
use Rattle.router_state.specs.declared.change.Change.TheVariants as changes
use Rattle.router_state.specs.declared.rows.Suspension.{Suspension}
use Rattle.router_steps.specs.Moves.{lines_of_resumed, resumed}
use Rattle.router_steps.specs.Taking.{all_resumed, lines_of_all_occurred, lines_of_all_resumed, occurred}

pub resumed_same : (rows : List Suspension) (s t : State) → s.suspensions ≡ t.suspensions → s.events ≡ t.events → lines_of_all_resumed rows s ≡ lines_of_all_resumed rows t
resumed_same [] s t same events = refl
resumed_same (row ∷ rows) s t same events =
    let first : lines_of_resumed s row.activity.0 ≡ lines_of_resumed t row.activity.0 = rw (same, events) refl in
    let rest = resumed_same rows (resumed s row.activity.0) (resumed t row.activity.0) (ap (λ all. without_suspension all row.activity.0) same) events in
    rw (first, rest) refl

pub occurred_same : (xs : List Occurrence) (s t : State) → s.next_event ≡ t.next_event → lines_of_all_occurred xs s ≡ lines_of_all_occurred xs t
occurred_same [] s t same = refl
occurred_same (x ∷ xs) s t same =
    let rest = occurred_same xs (occurred x s) (occurred x t) (ap (λ n. n + 1) same) in
    rw (rest, same) refl

pub lines_resumed : (rows : List Suspension) (to : ℕ) (s : State) → lines_of_all_resumed rows (after_change (changes.Clock to) s) ≡ lines_of_all_resumed rows s
lines_resumed rows to s = resumed_same rows (after_change (changes.Clock to) s) s refl refl

next_stays : (rows : List Suspension) (s : State) → (all_resumed rows s).next_event ≡ s.next_event
next_stays [] s = refl
next_stays (row ∷ rows) s = next_stays rows (resumed s row.activity.0)

occurred_clocked : (rows : List Suspension) (xs : List Occurrence) (to : ℕ) (s : State)
    → lines_of_all_occurred xs (after_change (changes.Advance to) (all_resumed rows (after_change (changes.Clock to) s))) ≡ lines_of_all_occurred xs s
occurred_clocked rows xs to s = occurred_same xs (after_change (changes.Advance to) (all_resumed rows (after_change (changes.Clock to) s))) s (next_stays rows (after_change (changes.Clock to) s))

-- the lines of the suspensions with those of the occurrences behind them
pub lines_clocked : (lines more on last : List (List ℕ)) (rows : List Suspension) (xs : List Occurrence) (to : ℕ) (s r t : State)
    → r ≡ all_resumed rows (after_change (changes.Clock to) s) → more ≡ lines ++ lines_of_all_resumed rows s
    → t ≡ after_change (changes.Advance to) r → on ≡ more
    → last ≡ on ++ lines_of_all_occurred xs t → last ≡ lines ++ (lines_of_all_resumed rows s ++ lines_of_all_occurred xs s)
lines_clocked lines more on last rows xs to s r t ended told advanced same fired =
    fired ∙ (rw (same, told, advanced, ended, occurred_clocked rows xs to s) (append_assoc lines (lines_of_all_resumed rows s) (lines_of_all_occurred xs s)))
