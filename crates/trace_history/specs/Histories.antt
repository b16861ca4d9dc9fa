-- What a history says of itself.
use Rattle.std.specs.Prelude.{List, [], ◌∷◌, ◌++◌, map}
use Rattle.signal_script.specs.declared.signal.Signal.{Signal}
use Rattle.trace_history.specs.declared.choice.Choice.{Choice}
use Rattle.trace_history.specs.declared.choice.Choice.TheVariants.{Input, Initial, Deliver, Finish}
use Rattle.trace_history.specs.declared.entry.Entry.{Entry}

-- the choices that were made
abbrev pub choices_of : List Entry → List Choice
choices_of history = map (λ (e : Entry). e.choice) history

-- the line that a choice takes, if it takes one
abbrev pub input_of : Choice → List Signal
input_of (Input signal) = signal ∷ []
input_of (Initial activity) = []
input_of (Deliver activity) = []
input_of (Finish activity) = []

-- the lines that were taken
abbrev pub inputs_of : List Entry → List Signal
inputs_of [] = []
inputs_of (e ∷ es) = input_of e.choice ++ inputs_of es
