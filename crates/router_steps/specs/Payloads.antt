-- What the journal keeps of a step, in formats 1 and 2, and the choice that is read back from it.
use Rattle.std.specs.Prelude.{ℕ, ◌+◌, ◌==◌, ◌&&◌, nat_le, Bool, true, false, if◌then◌else◌, List, [], ◌∷◌, ◌++◌, length, take, drop, Some, None, Option, option_map, Result, Ok, Err}
use Rattle.std.specs.Option.{option_map_or}
use Rattle.std.specs.Int.{w32, w64, from_le_bytes}
use Rattle.slee_value.specs.Bytes.{spelled_u64, spelled_text}
use Rattle.slee_value.specs.Reading.{Fault}
use Rattle.slee_value.specs.declared.ids.ActivityId.{ActivityId}
use Rattle.signal_script.specs.Signals.{spelled, signal_unbounded}
use Rattle.signal_script.specs.declared.fault.SignalBad.{SignalBad}
use Rattle.signal_script.specs.declared.signal.Signal.{Signal}
use Rattle.slee_effect.specs.Bytes.{spelling_of_effects}
use Rattle.slee_effect.specs.Reading.{list_of}
use Rattle.slee_effect.specs.declared.effect.Effect.{Effect}
use Rattle.trace_history.specs.declared.choice.Choice.{Choice}
use Rattle.trace_history.specs.declared.choice.Choice.TheVariants as choices
use Rattle.router_state.specs.State.{State}
use Rattle.router_steps.specs.Outcomes.{outcome_byte}
use Rattle.router_steps.specs.Steps.{Subject, Taking, Selecting, Delivering, Finishing, subject_of, after}

-- the bytes of what a step is about: its kind, then a line, or an activity and for a delivery what it comes to
abbrev pub bytes_of_subject : Subject → List ℕ
bytes_of_subject (Taking signal action) = 1 ∷ spelled_text (spelled signal)
bytes_of_subject (Selecting x) = 2 ∷ spelled_u64 x.activity
bytes_of_subject (Delivering x) = 3 ∷ (spelled_u64 x.activity ++ outcome_byte x.delivered.outcome ∷ spelling_of_effects x.delivered.effects)
bytes_of_subject (Finishing x) = 4 ∷ spelled_u64 x.activity

-- the bytes of a step, without the clock
abbrev pub bytes_of_step : State → Choice → List ℕ
bytes_of_step s c = option_map_or bytes_of_subject (subject_of s c) []

-- the payload of a step in a format, 1 or 2; in format 2 the clock stands before it
abbrev pub payload : ℕ → State → Choice → List ℕ
payload format s c = if format == 2 then spelled_u64 s.clock ++ bytes_of_step s c else bytes_of_step s c

-- the payloads of steps, one after another
abbrev pub payloads : ℕ → State → List Choice → List (List ℕ)
payloads format s [] = []
payloads format s (c ∷ cs) = payload format s c ∷ payloads format (after s c) cs

-- the choice of a line that says something, perhaps too long a line
abbrev pub input_of_line : Result Signal SignalBad → Option Choice
input_of_line (Ok signal) = Some (choices.Input signal)
input_of_line (Err bad) = None

-- the line of a text, behind which nothing stands
abbrev pub input_in : List ℕ → Option Choice
input_in bytes =
    if nat_le 4 (length bytes) && (from_le_bytes w32 (take 4 bytes) == length (drop 4 bytes))
    then input_of_line (signal_unbounded (drop 4 bytes)) else None

-- the activity whose number the first eight bytes are
abbrev pub activity_in : List ℕ → ActivityId
activity_in bytes = record { 0 = from_le_bytes w64 (take 8 bytes) }

-- the effects are read whole
abbrev pub is_read : Result (List Effect) Fault → Bool
is_read (Ok effects) = true
is_read (Err fault) = false

-- the byte of an outcome, and behind it a list of effects
abbrev pub is_delivered : List ℕ → Bool
is_delivered [] = false
is_delivered (outcome ∷ bytes) = nat_le outcome 17 && is_read (list_of bytes)

-- The choice of these bytes, if they are of this grammar. A line that is too long gives a choice too, but none that can be made.
abbrev pub choice_of_bytes : List ℕ → Option Choice
choice_of_bytes [] = None
choice_of_bytes (kind ∷ bytes) =
    if kind == 1 then input_in bytes
    else (if kind == 2 then (if length bytes == 8 then Some (choices.Initial (activity_in bytes)) else None)
    else (if kind == 3 then (if nat_le 8 (length bytes) && is_delivered (drop 8 bytes) then Some (choices.Deliver (activity_in bytes)) else None)
    else (if kind == 4 then (if length bytes == 8 then Some (choices.Finish (activity_in bytes)) else None)
    else None)))

-- the choice of a payload in a format, if it is one
abbrev pub choice_in : ℕ → List ℕ → Option Choice
choice_in format bytes =
    if format == 2 then (if nat_le 8 (length bytes) then choice_of_bytes (drop 8 bytes) else None) else choice_of_bytes bytes
