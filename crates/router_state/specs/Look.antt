-- What is seen at each key.
use Rattle.std.specs.Prelude.{ℕ, pos, List, if◌then◌else◌, Option, Some, None, option_map, option_and_then}
use Rattle.std.specs.Option.{option_map_or}
use Rattle.slee_value.specs.declared.ids.EntityId.{EntityId}
use Rattle.slee_value.specs.declared.ids.EventId.{EventId}
use Rattle.slee_value.specs.declared.value.Value.{Value}
use Rattle.script_meaning.specs.declared.key.Key.{Key}
use Rattle.script_meaning.specs.declared.key.Key.TheVariants as keys
use Rattle.script_meaning.specs.declared.seen.AcSeen.{AcSeen}
use Rattle.script_meaning.specs.declared.seen.Seen.{Seen}
use Rattle.script_meaning.specs.declared.seen.Seen.TheVariants as seen
use Rattle.deploy_model.specs.Deployed.{table_named}
use Rattle.router_state.specs.State.{State}
use Rattle.router_state.specs.Fields.{field_at}
use Rattle.router_state.specs.Trees.{entity_at, children_under}
use Rattle.router_state.specs.Contexts.{activity_at, is_null, attribute_at, is_linked, activities_of, named_at}
use Rattle.router_state.specs.Masks.{masks_of}
use Rattle.router_state.specs.Timers.{timer_at}
use Rattle.router_state.specs.Profiles.{row_at}
use Rattle.router_state.specs.Next.{next, receives_at}
use Rattle.router_state.specs.declared.rows.Activity.{Activity}
use Rattle.router_state.specs.declared.kindred.Kindred.{Kindred}
use Rattle.router_state.specs.declared.kindred.Kindred.TheVariants as kindreds

-- the numbers of the head event and of the entity that receives it, where a delivery is what is next
abbrev pub delivery_if : State → ℕ → Kindred → Option (EventId × EntityId)
delivery_if s a kindreds.Initial = None
delivery_if s a kindreds.Deliver = option_map (λ x. (x.0.id, x.1.number)) (receives_at s a)
delivery_if s a kindreds.Finish = None

-- the delivery that is next on the activity, if one is
abbrev pub next_delivery : State → ℕ → Option (EventId × EntityId)
next_delivery s a = option_and_then (delivery_if s a) (next s a)

-- what is seen of an activity
abbrev pub seen_of : Activity → AcSeen
seen_of row = record { null = is_null row.kind; ending = row.ending }

-- the masks of an entity on an activity to which it is attached
abbrev pub masks_seen : State → ℕ → ℕ → Option (List (List ℕ))
masks_seen s e a = if is_linked s.links e a then Some (masks_of s.masks e a) else None

-- the row of a table by the table's name
abbrev pub row_seen : State → List ℕ → List ℕ → Option (List (List ℕ × Value))
row_seen s table row = option_and_then (λ n. row_at s.rows n row) (table_named s.deployment table)

-- What is seen at a key. The priority of an entity that isn't there is 0.
abbrev pub look : State → Key → Seen
look s (keys.Next a) = seen.Next (next_delivery s a.0)
look s (keys.Field e name) = seen.Held (field_at s.fields e.0 name)
look s (keys.Children e relation) = seen.Ids (children_under s.entities e.0 relation)
look s (keys.Priority e) = seen.Number (option_map_or (λ row. row.priority) (entity_at s.entities e.0) (pos 0))
look s (keys.AcState a) = seen.Ac (option_map seen_of (activity_at s.activities a.0))
look s (keys.Attr a key) = seen.Held (attribute_at s.attributes a.0 key)
look s (keys.Attached e a) = seen.Flag (is_linked s.links e.0 a.0)
look s (keys.Mask e a) = seen.Masks (masks_seen s e.0 a.0)
look s (keys.Named name) = seen.Refers (named_at s.names name)
look s (keys.Timer t) = seen.Refers (option_map (λ row. row.activity) (timer_at s.timers t.0))
look s (keys.Profile table row) = seen.Row (row_seen s table row)
look s keys.Now = seen.Number (pos s.clock)
look s (keys.Activities e) = seen.Ids (activities_of s.links e.0)
