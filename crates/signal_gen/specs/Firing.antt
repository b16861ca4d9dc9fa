-- A line that fires an event of a deployment.
use Rattle.std.specs.Prelude.{ℕ, ◌%◌, ◌==◌, if◌then◌else◌, List, ◌++◌, length, filter_map, slice_get, codes, decimal, Some, None, Option, option_map, option_and_then}
use Rattle.slee_value.specs.declared.kind.Kind.{Kind}
use Rattle.slee_value.specs.declared.kind.Kind.TheVariants as kinds
use Rattle.script_types.specs.declared.codes.FieldCode.{FieldCode}
use Rattle.script_types.specs.declared.codes.EventCode.{EventCode}
use Rattle.signal_script.specs.Signals.{is_signal}
use Rattle.signal_script.specs.declared.signal.Signal.{Signal}
use Rattle.signal_script.specs.declared.signal.Signal.TheVariants as signals

-- the value that a field of this type gets; one of an activity or a timer gets none
abbrev pub value_by : ℕ → Kind → Option (List ℕ)
value_by rest kinds.Int = Some (decimal (rest % 1000))
value_by rest kinds.Text = Some (codes "tel:" ++ decimal (rest % 100))
value_by rest kinds.Bool = Some (if rest % 2 == 1 then codes "true" else codes "false")
value_by rest kinds.Activity = None
value_by rest kinds.Timer = None

-- a field with its value, if it gets one
abbrev pub field_by : ℕ → FieldCode → Option (List ℕ × List ℕ)
field_by rest field = option_map (λ value. (field.name, value)) (value_by rest field.kind)

-- the event is fired on the activity of this name
abbrev pub fired : List ℕ → ℕ → EventCode → Signal
fired name rest event = signals.Fire name event.name None (filter_map (field_by rest) event.fields)

-- a signal that a line can give, which is none where the line would be too long
abbrev pub if_given : Signal → Option Signal
if_given signal = if is_signal signal then Some signal else None

-- an event is fired, if there is one and the line isn't too long
abbrev pub fire_by : List EventCode → List ℕ → ℕ → Option Signal
fire_by events name rest = option_and_then (λ event. if_given (fired name rest event)) (slice_get events (rest % length events))
