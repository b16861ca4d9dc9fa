-- The events that every deployment has and none declares (JSR 240, 8.6, 10.7, 13.8): the end of an activity, a timer's, the start of a service, and what became of a row of a profile table.
use Rattle.std.specs.Prelude.{ℕ, Bool, List, [], ◌∷◌, Option, codes, find, bytes_eq, is_some, option_map}
use Rattle.slee_value.specs.declared.kind.Kind.{Kind}
use Rattle.slee_value.specs.declared.kind.Kind.TheVariants as kinds
use Rattle.built_in_events.specs.declared.built_in.BuiltInEvent.{BuiltInEvent}
use Rattle.built_in_events.specs.declared.built_in.BuiltInEvent.TheVariants as events

abbrev pub name_of : BuiltInEvent → List ℕ
name_of events.ActivityEnd = codes "activity-end"
name_of events.Timer = codes "timer"
name_of events.ServiceStarted = codes "service-started"
name_of events.ProfileAdded = codes "profile-added"
name_of events.ProfileUpdated = codes "profile-updated"
name_of events.ProfileRemoved = codes "profile-removed"

-- the key of a row of a profile table
abbrev pub row_field : List (List ℕ × Kind)
row_field = (codes "row", kinds.Text) ∷ []

-- its fields, each with its name and its type
abbrev pub fields_of : BuiltInEvent → List (List ℕ × Kind)
fields_of events.ActivityEnd = []
fields_of events.Timer = (codes "which", kinds.Timer) ∷ []
fields_of events.ServiceStarted = []
fields_of events.ProfileAdded = row_field
fields_of events.ProfileUpdated = row_field
fields_of events.ProfileRemoved = row_field

-- the type of its field of that name
abbrev pub kind_of_field : List ℕ → BuiltInEvent → Option Kind
kind_of_field name event = option_map (λ f. f.1) (find (λ f. bytes_eq f.0 name) (fields_of event))

abbrev pub all_events : List BuiltInEvent
all_events =
    events.ActivityEnd ∷ events.Timer ∷ events.ServiceStarted
    ∷ events.ProfileAdded ∷ events.ProfileUpdated ∷ events.ProfileRemoved ∷ []

abbrev pub event_named : List ℕ → Option BuiltInEvent
event_named name = find (λ e. bytes_eq (name_of e) name) all_events

abbrev pub is_built_in : List ℕ → Bool
is_built_in name = is_some (event_named name)
