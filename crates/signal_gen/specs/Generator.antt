-- The lines that a seed gives.
use Rattle.std.specs.Prelude.{ℕ, zero, suc, ◌+◌, ◌==◌, if◌then◌else◌, List, [], ◌∷◌, ◌++◌, set, slice_get, codes, decimal, Some, None, Option, option_and_then}
use Rattle.std.specs.Option.{option_map_or}
use Rattle.script_types.specs.declared.codes.EventCode.{EventCode}
use Rattle.signal_script.specs.declared.signal.Signal.{Signal}
use Rattle.signal_script.specs.declared.signal.Signal.TheVariants as signals
use Rattle.deploy_model.specs.Deployed.{Deployed}
use Rattle.signal_gen.specs.Draws.{next_number, drawn}
use Rattle.signal_gen.specs.Firing.{fire_by}
use Rattle.signal_gen.specs.declared.course.Course.{Course}
use Rattle.signal_gen.specs.declared.draw.Draw.{Draw}

-- before the first line all four slots are closed
abbrev pub first_course : ℕ → Course
first_course seed = record { number = seed; held = None ∷ None ∷ None ∷ None ∷ []; started = 0; clock = 0 }

-- the activity that was started as this one is called so
abbrev pub activity_name : ℕ → List ℕ
activity_name n = codes "g" ++ decimal n

-- the activity that the slot of a draw holds, where the slot isn't closed
abbrev pub held_at : Course → ℕ → Option ℕ
held_at course slot = option_and_then (λ held. held) (slice_get course.held slot)

-- an activity is started, and the slot holds it
abbrev pub with_start : Course → ℕ → Course
with_start course slot = record course { started = course.started + 1; held = set course.held slot (Some (course.started + 1)) }

-- the slot is closed
abbrev pub with_end : Course → ℕ → Course
with_end course slot = record course { held = set course.held slot None }

-- the clock goes on by a second
abbrev pub with_clock : Course → Course
with_clock course = record course { clock = course.clock + 1000 }

-- a line that fires an event, or else one of the clock
abbrev pub fire_or_clock : Course → Option Signal → Signal × Course
fire_or_clock course (Some signal) = (signal, course)
fire_or_clock course None = (signals.Clock (course.clock + 1000), with_clock course)

-- the line of a draw whose slot holds this activity: at the turn 0 it ends, at the turn 1 the clock goes on
abbrev pub line_at : List EventCode → Course → Draw → ℕ → Signal × Course
line_at events course draw n =
    if draw.turn == 0 then (signals.End (activity_name n), with_end course draw.slot)
    else fire_or_clock course (if draw.turn == 1 then None else fire_by events (activity_name n) draw.rest)

-- the line of a draw, and what it leaves
abbrev pub line_by : List EventCode → Course → Draw → Signal × Course
line_by events course draw =
    option_map_or (line_at events course draw) (held_at course draw.slot)
    (signals.Start (activity_name (course.started + 1)), with_start course draw.slot)

-- the next line, and what it leaves
abbrev pub next_line : List EventCode → Course → Signal × Course
next_line events course = line_by events (record course { number = next_number course.number }) (drawn (next_number course.number))

-- so many lines behind a course
abbrev pub lines_behind : ℕ → List EventCode → Course → List Signal
lines_behind zero events course = []
lines_behind (suc count) events course = (next_line events course).0 ∷ lines_behind count events (next_line events course).1

-- the lines that a seed gives
abbrev pub generated : ℕ → ℕ → Deployed → List Signal
generated seed count deployment = lines_behind count deployment.events (first_course seed)
