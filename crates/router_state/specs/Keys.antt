-- The key by which the rows of each list of the state rise.
use Rattle.rows_sorted.specs.Keys.{Key, number_key, pair_key, text_key}
use Rattle.router_state.specs.declared.rows.Entity.{Entity}
use Rattle.router_state.specs.declared.rows.RootName.{RootName}
use Rattle.router_state.specs.declared.rows.Field.{Field}
use Rattle.router_state.specs.declared.rows.Activity.{Activity}
use Rattle.router_state.specs.declared.rows.Attribute.{Attribute}
use Rattle.router_state.specs.declared.rows.Link.{Link}
use Rattle.router_state.specs.declared.rows.Mask.{Mask}
use Rattle.router_state.specs.declared.rows.Named.{Named}
use Rattle.router_state.specs.declared.rows.Queued.{Queued}
use Rattle.router_state.specs.declared.rows.ServiceMark.{ServiceMark}
use Rattle.router_state.specs.declared.rows.EntityMark.{EntityMark}
use Rattle.router_state.specs.declared.rows.Suspension.{Suspension}
use Rattle.router_state.specs.declared.rows.Timer.{Timer}
use Rattle.router_state.specs.declared.rows.ProfileRow.{ProfileRow}

-- an entity's key: its number
abbrev pub entity_key : Entity → Key
entity_key row = number_key row.number.0

-- a convergence name's key: its root
abbrev pub root_name_key : RootName → Key
root_name_key row = number_key row.entity.0

-- a field's key: its entity and its name
abbrev pub field_key : Field → Key
field_key row = text_key row.entity.0 row.name

-- an activity's key: its number
abbrev pub activity_key : Activity → Key
activity_key row = number_key row.number.0

-- an attribute's key: its activity and the key under which blocks share it
abbrev pub attribute_key : Attribute → Key
attribute_key row = text_key row.activity.0 row.key

-- an attachment's key: its activity and its entity
abbrev pub link_key : Link → Key
link_key row = pair_key row.activity.0 row.entity.0

-- a mask's key: its activity, its entity and its event
abbrev pub mask_key : Mask → Key
mask_key row = record { first = row.activity.0; second = row.entity.0; text = row.event }

-- the key of a name of the naming facility: the name
abbrev pub named_key : Named → Key
named_key row = text_key 0 row.name

-- the key of an event that waits: its activity and its number
abbrev pub queued_key : Queued → Key
queued_key row = pair_key row.activity.0 row.event.id.0

-- the key of a service's mark: its activity and its service
abbrev pub service_mark_key : ServiceMark → Key
service_mark_key row = pair_key row.activity.0 row.service

-- the key of an entity's mark: its activity and its entity
abbrev pub entity_mark_key : EntityMark → Key
entity_mark_key row = pair_key row.activity.0 row.entity.0

-- a suspension's key: its activity
abbrev pub suspension_key : Suspension → Key
suspension_key row = number_key row.activity.0

-- a timer's key: its number
abbrev pub timer_key : Timer → Key
timer_key row = number_key row.number.0

-- the key of a row of a profile table: its table and its name
abbrev pub profile_row_key : ProfileRow → Key
profile_row_key row = text_key row.table row.row
