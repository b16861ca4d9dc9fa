-- The faults of the calls, in their order.
use Rattle.std.specs.Prelude.{ℕ, List, Option, Some, None, if◌then◌else◌, is_some, Result, Ok, Err}
use Rattle.slee_value.specs.declared.ids.ActivityId.{ActivityId}
use Rattle.router_state.specs.Contexts.{activity_at, external, named_at}
use Rattle.router_state.specs.declared.rows.AcKind.{AcKind}
use Rattle.router_state.specs.declared.rows.AcKind.TheVariants as kinds
use Rattle.router_state.specs.declared.rows.Activity.{Activity}
use Rattle.router_state.specs.declared.rows.Named.{Named}
use Rattle.activity_context.specs.declared.fault.AcFault.{AcFault}
use Rattle.activity_context.specs.declared.fault.AcFault.TheVariants as faults

-- the fault that a call gave
abbrev pub fault_of : {X : Type 0} → Result X AcFault → Option AcFault
fault_of (Ok x) = None
fault_of (Err fault) = Some fault

-- an activity of this kind starts, unless its external name is in use
abbrev pub start_fault : List Activity → AcKind → Option AcFault
start_fault rows (kinds.External name) = if is_some (external rows name) then Some faults.Exists else None
start_fault rows kinds.Null = None
start_fault rows (kinds.Service service) = None
start_fault rows (kinds.Table table) = None

-- the activity is there and isn't Ending
abbrev pub found_fault : Option Activity → Option AcFault
found_fault None = Some faults.Unknown
found_fault (Some row) = if row.ending then Some faults.Ending else None

-- the fault of a call that wants an Active activity
abbrev pub active_fault : List Activity → ℕ → Option AcFault
active_fault rows a = found_fault (activity_at rows a)

-- the name stands for nothing
abbrev pub taken_fault : Option ActivityId → Option AcFault
taken_fault None = None
taken_fault (Some a) = Some (faults.Bound a)

-- the first of two faults
abbrev pub first_fault : Option AcFault → Option AcFault → Option AcFault
first_fault None second = second
first_fault (Some fault) second = Some fault

-- a name is bound to an Active activity, unless it stands for one
abbrev pub bind_fault : List Activity → List Named → List ℕ → ℕ → Option AcFault
bind_fault rows names name a = first_fault (active_fault rows a) (taken_fault (named_at names name))

-- a name that stands for an activity is given up
abbrev pub unbind_fault : List Named → List ℕ → Option AcFault
unbind_fault names name = if is_some (named_at names name) then None else Some faults.Unbound
