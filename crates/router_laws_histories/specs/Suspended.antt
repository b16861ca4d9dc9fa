-- What lines say of suspensions.
use Rattle.std.specs.Prelude.{ℕ, ◌<◌, ◌≤◌, ◌^◌, Bool, true, false, ◌&&◌, ◌||◌, ◌≡◌, if◌then◌else◌, List, [], ◌∷◌, codes, Some, Result, Ok, Err}
use Rattle.std.specs.List.{AllByRecursion}
use Rattle.std.specs.Str.{bytes_eq}
use Rattle.slee_effect.specs.declared.effect.Effect.{Effect}
use Rattle.slee_effect.specs.declared.effect.Effect.TheVariants as effects
use Rattle.router_state.specs.State.{State}
use Rattle.router_state.specs.declared.rows.Suspension.{Suspension}
use Rattle.router_steps.specs.declared.refusal.Refusal.{Refusal}
use Rattle.router_steps.specs.Actions.{Action, SetClock}
use Rattle.router_steps.specs.Applying.{applied_in}
use Rattle.router_steps.specs.Effects.{number_in}
use Rattle.router_steps.specs.Steps.{Subject, Taking, Selecting, Delivering, Finishing, after, marked_entity, subject_of}
use Rattle.trace_history.specs.Reading.{activity_word, heading_of}
use Rattle.trace_history.specs.Words.{words_in}
use Rattle.trace_history.specs.declared.choice.Choice.{Choice}
use Rattle.trace_history.specs.declared.entry.Entry.{Entry}

-- the words of a line with this verb, an event and the activity
abbrev pub is_told_by : List ℕ → ℕ → List (List ℕ) → Bool
is_told_by wanted a ([] ∷ [] ∷ verb ∷ event ∷ activity ∷ words) = bytes_eq verb wanted && bytes_eq activity (activity_word a)
is_told_by wanted a words = false

-- whether the activity is suspended after the line: a line `suspended vV aA ..` says so, and `resumed vV aA` that it isn't
abbrev pub told_by : ℕ → Bool → List (List ℕ) → Bool
told_by a was words = if is_told_by (codes "suspended") a words then true else (if is_told_by (codes "resumed") a words then false else was)

-- whether it is, after these lines
abbrev pub told_suspended : ℕ → Bool → List (List ℕ) → Bool
told_suspended a was [] = was
told_suspended a was (line ∷ lines) = told_suspended a (told_by a was (words_in line)) lines

-- the heading of an initial selection, a delivery or a finish on the activity
abbrev pub names_activity : ℕ → List (List ℕ) → Bool
names_activity a (verb ∷ activity ∷ words) =
    (bytes_eq verb (codes "initial") || (bytes_eq verb (codes "deliver") || bytes_eq verb (codes "finish"))) && bytes_eq activity (activity_word a)
names_activity a words = false

-- while the activity is suspended, by the lines before, no heading names it
abbrev pub IsLeftAlone : ℕ → Bool → List Entry → Type 0
IsLeftAlone a was [] = Unit {0}
IsLeftAlone a was (e ∷ es) = (was ≡ true → names_activity a (words_in (heading_of e.lines)) ≡ false) × IsLeftAlone a (told_suspended a was e.lines) es

-- an effect whose line about a suspension is read as it was written
abbrev pub IsReadableHold : Effect → Type 0
IsReadableHold (effects.Suspend activity until) = number_in activity < 2 ^ 64
IsReadableHold (effects.Resume activity) = number_in activity < 2 ^ 64
IsReadableHold _ = Unit {0}

-- the suspensions that a line ends have activities whose numbers are read as they were written
abbrev pub AreReadableEnds : Result Action Refusal → Type 0
AreReadableEnds (Ok (SetClock to suspensions occurrences)) = AllByRecursion (λ (row : Suspension). row.activity.0 < 2 ^ 64) suspensions
AreReadableEnds _ = Unit {0}

-- the heading and the lines about suspensions of a step are read as they were written
abbrev pub AreReadableHolds : Subject → State → Type 0
AreReadableHolds (Taking signal action) s = AreReadableEnds action
AreReadableHolds (Selecting x) s = x.activity < 2 ^ 64
AreReadableHolds (Delivering x) s = (x.activity < 2 ^ 64) × AllByRecursion IsReadableHold (applied_in x.entity.number.0 (marked_entity x s) x.delivered.effects)
AreReadableHolds (Finishing x) s = x.activity < 2 ^ 64

-- the choice is about something, what its step says of suspensions is read from its lines, and events' numbers have 64 bits
abbrev pub IsHoldTold : State → Choice → Type 0
IsHoldTold s c = (x : Subject) × (subject_of s c ≡ Some x) × AreReadableHolds x s × ((after s c).next_event ≤ 2 ^ 64)

-- so it is with each choice of a history, where it stands
abbrev pub AreHoldsTold : State → List Entry → Type 0
AreHoldsTold s [] = Unit {0}
AreHoldsTold s (e ∷ es) = IsHoldTold s e.choice × AreHoldsTold (after s e.choice) es
