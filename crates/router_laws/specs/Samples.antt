-- Small deployments and states on which the definitions are computed.
use Rattle.std.specs.Prelude.{ℕ, ℤ, pos, negsuc, true, false, List, [], ◌∷◌, codes, Some, None, Ok}
use Rattle.script_types.specs.Program.{Program, Nothing}
use Rattle.signal_script.specs.declared.signal.Signal.{Signal}
use Rattle.signal_script.specs.declared.signal.Signal.TheVariants as signals
use Rattle.deploy_model.specs.Deployed.{Deployed}
use Rattle.deploy_model.specs.declared.choice.Variable.TheVariants as variables
use Rattle.router_state.specs.State.{State}
use Rattle.router_state.specs.Initial.{initial}
use Rattle.router_state.specs.declared.rows.Timer.{Timer}
use Rattle.router_steps.specs.Actions.{action_of}
use Rattle.router_steps.specs.Steps.{after}
use Rattle.router_steps.specs.Taking.{taken}
use Rattle.trace_history.specs.declared.choice.Choice.TheVariants as choices
use Rattle.slee_value.specs.declared.keep.Keep.{Keep}
use Rattle.slee_value.specs.declared.keep.Keep.TheVariants as keeps

-- Two services of one block that handles ping, which is initial by the activity; the second selects before the first.
abbrev pub low_and_high : Deployed
low_and_high = record {
  events = record { name = codes "ping"; fields = [] } ∷ [];
  profiles = [];
  tables = [];
  blocks = record {
    key = codes "b";
    fields = [];
    attributes = [];
    relations = [];
    events = record { event = codes "ping"; initial = Some (variables.Activity ∷ []); custom = None; mask = false } ∷ [];
  } ∷ [];
  services =
      record { key = codes "low"; root = 0; priority = negsuc 127; active = true }
      ∷ record { key = codes "high"; root = 0; priority = pos 127; active = true } ∷ [];
}

-- the program of that block, whose handler does nothing
abbrev pub does_nothing : Program
does_nothing = record {
  masks = [];
  handlers = record { event = codes "ping"; steps = Nothing } ∷ [];
  methods = [];
  exception = None;
  rolled_back = None;
  remove = None;
} ∷ []

-- nothing has happened
abbrev pub at_first : State
at_first = initial low_and_high does_nothing

-- the line is taken
abbrev pub with_line : Signal → State → State
with_line signal s = taken (action_of s signal) s

-- `start c1`
abbrev pub started : State
started = with_line (signals.Start (codes "c1")) at_first

-- `fire c1 ping` behind it
abbrev pub fired_ping : State
fired_ping = with_line (signals.Fire (codes "c1") (codes "ping") None []) started

-- a timer at a moment every so often without end, on activity 1
abbrev pub periodic : ℕ → ℕ → ℕ → Keep → Timer
periodic t next period keep = record { number = record { 0 = t }; activity = record { 0 = 1 }; next = next; period = period; left = 0; keep = keep }

-- three timers at 1000 every 1000, which keep all missed occurrences, the last, and none
abbrev pub three_timers : List Timer
three_timers = periodic 1 1000 1000 keeps.All ∷ periodic 2 1000 1000 keeps.Last ∷ periodic 3 1000 1000 keeps.NoneMissed ∷ []

-- the service that is due selects on activity 1
abbrev pub selected : State → State
selected s = after s (choices.Initial (record { 0 = 1 }))
