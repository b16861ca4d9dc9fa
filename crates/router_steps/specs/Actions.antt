-- What a line is about: everything that it names is looked up once, and the first reason for which it is refused stands in its place.
use Rattle.std.specs.Prelude.{ℕ, Bool, true, false, not, nat_lt, if◌then◌else◌, is_some, is_none, List, [], ◌∷◌, Some, None, Option, Result, Ok, Err, slice_get}
use Rattle.std.specs.List.{list_any}
use Rattle.std.specs.Option.{option_map_or}
use Rattle.built_in_events.specs.declared.built_in.BuiltInEvent.TheVariants as built_in_events
use Rattle.built_in_events.specs.BuiltIn.{name_of as built_in_name}
use Rattle.slee_value.specs.declared.value.Value.{Value}
use Rattle.script_types.specs.Codes.{named}
use Rattle.script_types.specs.declared.codes.EventCode.{EventCode}
use Rattle.script_types.specs.declared.codes.FieldCode.{FieldCode}
use Rattle.signal_script.specs.declared.signal.Signal.{Signal}
use Rattle.signal_script.specs.declared.signal.Signal.TheVariants as signals
use Rattle.deploy_model.specs.Deployed.{Deployed, service_named, table_named, table_attributes}
use Rattle.router_state.specs.State.{State}
use Rattle.router_state.specs.Contexts.{external}
use Rattle.router_state.specs.Profiles.{row_at, is_row, are_unique}
use Rattle.router_state.specs.Services.{is_inactive, is_active}
use Rattle.router_state.specs.declared.change.Change.{Change}
use Rattle.router_state.specs.declared.change.Change.TheVariants as changes
use Rattle.router_state.specs.declared.rows.Activity.{Activity}
use Rattle.router_state.specs.declared.rows.Service.{Service}
use Rattle.router_state.specs.declared.rows.Suspension.{Suspension}
use Rattle.router_steps.specs.declared.refusal.Refusal.{Refusal}
use Rattle.router_steps.specs.declared.refusal.Refusal.TheVariants as refusals
use Rattle.router_state.specs.Timing.{Occurrence, fired, fired_in_all, occurrence_limit, ending_suspensions}
use Rattle.router_steps.specs.Values.{fields_given}

-- How a row of a profile table changes.
pub data RowChange : Type 0 where
  -- it is new, with these attributes
  RowAdded : List (List ℕ × Value) → RowChange
  -- it has these attributes from now on
  RowUpdated : List (List ℕ × Value) → RowChange
  -- it is gone
  RowRemoved : RowChange

-- the change of the state by which the row of a table changes so
abbrev pub change_of_row : ℕ → List ℕ → RowChange → Change
change_of_row table row (RowAdded values) = changes.AddRow table row values
change_of_row table row (RowUpdated values) = changes.UpdateRow table row values
change_of_row table row RowRemoved = changes.RemoveRow table row

-- the event that tells it (JSR 240, chapter 10)
abbrev pub event_of_row : RowChange → List ℕ
event_of_row (RowAdded values) = built_in_name built_in_events.ProfileAdded
event_of_row (RowUpdated values) = built_in_name built_in_events.ProfileUpdated
event_of_row RowRemoved = built_in_name built_in_events.ProfileRemoved

-- What a line does.
pub data Action : Type 0 where
  -- an external activity of this name starts
  StartActivity : List ℕ → Action
  -- the activity of this number ends
  EndActivity : ℕ → Action
  -- on the activity an event of this name is fired, with these fields, for the service where there is one
  FireEvent : ℕ → List ℕ → List (List ℕ × Value) → Option ℕ → Action
  -- the clock comes to the moment; these suspensions end, and these occurrences are due
  SetClock : ℕ → List Suspension → List Occurrence → Action
  -- the service of this number becomes Active
  ActivateService : ℕ → Action
  -- the service of this number stops, and its activity ends where it is Active
  StopService : ℕ → ℕ → Action
  -- the row of this name of the table of this number changes
  ChangeRow : ℕ → List ℕ → RowChange → Action

-- what was looked up, and then what follows from it; the first refusal ends it
abbrev pub and_then : {A B : Type 0} → Result A Refusal → (A → Result B Refusal) → Result B Refusal
and_then (Ok x) f = f x
and_then (Err why) f = Err why

-- what is there, or else a refusal
abbrev pub there_or : {A : Type 0} → Refusal → Option A → Result A Refusal
there_or why None = Err why
there_or why (Some x) = Ok x

-- a refusal where a test says so, and else this
abbrev pub refused_if : {A : Type 0} → Bool → Refusal → A → Result A Refusal
refused_if test why x = if test then Err why else Ok x

-- the external activity of this name, which is there and isn't Ending (JSR 240, chapter 7)
abbrev pub open_activity : State → List ℕ → Result Activity Refusal
open_activity s name =
    and_then (there_or refusals.UnknownActivity (external s.activities name)) (λ row. refused_if row.ending refusals.Ending row)

-- the service for which an event is, where it is for one alone
abbrev pub target_of : Deployed → Option (List ℕ) → Result (Option ℕ) Refusal
target_of d None = Ok None
target_of d (Some key) = and_then (there_or refusals.UnknownService (service_named d key)) (λ n. Ok (Some n))

-- the values that the words give to the declared fields
abbrev pub values_of : List FieldCode → List (List ℕ × List ℕ) → Result (List (List ℕ × Value)) Refusal
values_of fields words = there_or refusals.BadFields (fields_given fields words)

-- an event type that is declared; nobody fires those that are built in
abbrev pub declared_event : Deployed → List ℕ → Result EventCode Refusal
declared_event d event = there_or refusals.UnknownEvent (named (λ (e : EventCode). e.name) event d.events)

-- an event that is fired
abbrev pub firing : State → ℕ → List ℕ → Option (List ℕ) → List (List ℕ × List ℕ) → Result Action Refusal
firing s a event service words =
    and_then (declared_event s.deployment event) (λ declared. and_then (target_of s.deployment service) (λ target. and_then (values_of declared.fields words) (λ values. Ok (FireEvent a event values target))))

-- the clock comes to a moment
abbrev pub clocking : State → ℕ → Result Action Refusal
clocking s to =
    if nat_lt to s.clock then Err refusals.ClockBack
    else (if nat_lt occurrence_limit (fired_in_all to s.timers) then Err refusals.TooMany
    else Ok (SetClock to (ending_suspensions to s.suspensions) (fired to s.timers)))

-- the service of this key, with its number
abbrev pub service_of_key : State → List ℕ → Result (ℕ × Service) Refusal
service_of_key s key =
    and_then (there_or refusals.UnknownService (service_named s.deployment key)) (λ n. and_then (there_or refusals.UnknownService (slice_get s.services n)) (λ row. Ok (n, row)))

-- some other row of its table has a value of this one that is to be unique
abbrev pub is_duplicate : State → ℕ → List ℕ → List (List ℕ × Value) → Bool
is_duplicate s table row values =
    list_any (λ other. if is_row table row other then false else not (are_unique s.deployment (record { table = table; row = row; attributes = values }) other)) s.rows

-- the values that the words give to a row, no other row having one that is to be unique
abbrev pub row_values : State → ℕ → List ℕ → List (List ℕ × List ℕ) → Result (List (List ℕ × Value)) Refusal
row_values s table row words =
    and_then (values_of (table_attributes s.deployment table) words) (λ values. refused_if (is_duplicate s table row values) refusals.Duplicate values)

-- the number of the table of this name
abbrev pub table_of_name : State → List ℕ → Result ℕ Refusal
table_of_name s name = there_or refusals.UnknownTable (table_named s.deployment name)

-- a new row
abbrev pub adding : State → ℕ → List ℕ → List (List ℕ × List ℕ) → Result Action Refusal
adding s table row words =
    if is_some (row_at s.rows table row) then Err refusals.RowExists
    else and_then (row_values s table row words) (λ values. Ok (ChangeRow table row (RowAdded values)))

-- other values for a row
abbrev pub updating : State → ℕ → List ℕ → List (List ℕ × List ℕ) → Result Action Refusal
updating s table row words =
    if is_none (row_at s.rows table row) then Err refusals.NoRow
    else and_then (row_values s table row words) (λ values. Ok (ChangeRow table row (RowUpdated values)))

-- a row that goes
abbrev pub removing : State → ℕ → List ℕ → Result Action Refusal
removing s table row =
    refused_if (is_none (row_at s.rows table row)) refusals.NoRow (ChangeRow table row RowRemoved)

-- what the line does, or the first reason for which it is refused
abbrev pub action_of : State → Signal → Result Action Refusal
action_of s (signals.Start name) = refused_if (is_some (external s.activities name)) refusals.Exists (StartActivity name)
action_of s (signals.End name) = and_then (open_activity s name) (λ row. Ok (EndActivity row.number.0))
action_of s (signals.Fire name event service words) = and_then (open_activity s name) (λ row. firing s row.number.0 event service words)
action_of s (signals.Clock to) = clocking s to
action_of s (signals.Activate service) =
    and_then (service_of_key s service) (λ x. refused_if (not (is_inactive x.1.state)) refusals.NotInactive (ActivateService x.0))
action_of s (signals.Deactivate service) =
    and_then (service_of_key s service) (λ x. refused_if (not (is_active x.1.state)) refusals.NotActive (StopService x.0 x.1.activity.0))
action_of s (signals.ProfileAdd table row words) = and_then (table_of_name s table) (λ n. adding s n row words)
action_of s (signals.ProfileUpdate table row words) = and_then (table_of_name s table) (λ n. updating s n row words)
action_of s (signals.ProfileRemove table row) = and_then (table_of_name s table) (λ n. removing s n row)
