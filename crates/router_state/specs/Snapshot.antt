-- The bytes of a state, in formats 1 and 2. The count of a list has 8 bytes; a deployment has no bytes here.
use Rattle.std.specs.Prelude.{ℕ, ◌==◌, if◌then◌else◌, List, [], ◌∷◌, ◌++◌, flat_map, length}
use Rattle.std.specs.Option.{option_map_or}
use Rattle.slee_value.specs.Bytes.{spelled_u32, spelled_u64, spelled_i8, spelled_text, spelled_flag, spelled_option, spelling_of_value}
use Rattle.slee_value.specs.declared.convergence.ConvName.{ConvName}
use Rattle.slee_value.specs.declared.value.Value.{Value}
use Rattle.slee_effect.specs.Bytes.{spelled_keep}
use Rattle.deploy_model.specs.Deployed.{Deployed, block_key, service_key, table_name}
use Rattle.router_state.specs.State.{State}
use Rattle.router_state.specs.Fields.{fields_of}
use Rattle.router_state.specs.Trees.{root_name_at}
use Rattle.router_state.specs.Contexts.{attributes_of}
use Rattle.router_state.specs.Masks.{masks_of}
use Rattle.router_state.specs.Queues.{queue, done_on, delivered_on, suspended_until}
use Rattle.router_state.specs.declared.rows.ServiceState.{ServiceState}
use Rattle.router_state.specs.declared.rows.ServiceState.TheVariants as states
use Rattle.router_state.specs.declared.rows.Service.{Service}
use Rattle.router_state.specs.declared.rows.AcKind.{AcKind}
use Rattle.router_state.specs.declared.rows.AcKind.TheVariants as kinds
use Rattle.router_state.specs.declared.rows.Activity.{Activity}
use Rattle.router_state.specs.declared.rows.Stem.{Stem}
use Rattle.router_state.specs.declared.rows.Stem.TheVariants as stems
use Rattle.router_state.specs.declared.rows.Entity.{Entity}
use Rattle.router_state.specs.declared.rows.Event.{Event}
use Rattle.router_state.specs.declared.rows.Link.{Link}
use Rattle.router_state.specs.declared.rows.Named.{Named}
use Rattle.router_state.specs.declared.rows.Timer.{Timer}
use Rattle.router_state.specs.declared.rows.ProfileRow.{ProfileRow}
use Rattle.router_state.specs.declared.rows.Suspension.{Suspension}

-- a list: how many items, and then their bytes
abbrev pub listed : {A : Type 0} → (A → List ℕ) → List A → List ℕ
listed spelled items = spelled_u64 (length items) ++ flat_map spelled items

-- a name and its value
abbrev pub spelled_pair : List ℕ × Value → List ℕ
spelled_pair pair = spelled_text pair.0 ++ spelling_of_value pair.1

-- the byte for a state of a service
abbrev pub state_byte : ServiceState → ℕ
state_byte states.Inactive = 0
state_byte states.Active = 1
state_byte states.Stopping = 2

-- a service: its state and its activity
abbrev pub spelled_service : Service → List ℕ
spelled_service row = state_byte row.state ∷ spelled_u64 row.activity.0

-- the five options of a convergence name
abbrev pub spelled_conv : ConvName → List ℕ
spelled_conv name =
    spelled_option (λ a. spelled_u64 a.0) name.activity
    ++ (spelled_option spelled_text name.address
    ++ (spelled_option spelled_text name.event_type
    ++ (spelled_option (λ v. spelled_u64 v.0) name.event
    ++ spelled_option spelled_text name.custom)))

-- the parent or 0, the relation or the service
abbrev pub spelled_stem : Deployed → Stem → List ℕ
spelled_stem d (stems.Root service) = spelled_u64 0 ++ spelled_text (service_key d service)
spelled_stem d (stems.Child parent relation) = spelled_u64 parent.0 ++ spelled_text relation

-- a root has its convergence name besides
abbrev pub spelled_name_of : State → Entity → Stem → List ℕ
spelled_name_of s row (stems.Root service) = option_map_or spelled_conv (root_name_at s.root_names row.number.0) []
spelled_name_of s row (stems.Child parent relation) = []

-- an entity with its convergence name and its fields
abbrev pub spelled_entity : State → Entity → List ℕ
spelled_entity s row =
    spelled_u64 row.number.0
    ++ (spelled_text (block_key s.deployment row.block)
    ++ (spelled_stem s.deployment row.stem
    ++ (spelled_i8 row.priority
    ++ (spelled_name_of s row row.stem
    ++ listed spelled_pair (fields_of s.fields row.number.0)))))

-- the byte of a kind, and its name or key
abbrev pub spelled_kind : Deployed → AcKind → List ℕ
spelled_kind d (kinds.External name) = 0 ∷ spelled_text name
spelled_kind d kinds.Null = 1 ∷ []
spelled_kind d (kinds.Service service) = 2 ∷ spelled_text (service_key d service)
spelled_kind d (kinds.Table table) = 3 ∷ spelled_text (table_name d table)

-- an event that waits
abbrev pub spelled_event : Deployed → Event → List ℕ
spelled_event d event =
    spelled_u64 event.id.0
    ++ (spelled_text event.name
    ++ (spelled_option (λ service. spelled_text (service_key d service)) event.target
    ++ listed spelled_pair event.fields))

-- an activity in format 1: with its attributes, its queue and the marks of its head event
abbrev pub spelled_activity : State → Activity → List ℕ
spelled_activity s row =
    spelled_u64 row.number.0
    ++ (spelled_kind s.deployment row.kind
    ++ (spelled_flag row.ending
    ++ (listed spelled_pair (attributes_of s.attributes row.number.0)
    ++ (listed (spelled_event s.deployment) (queue s.events row.number.0)
    ++ (listed spelled_u32 (done_on s.services_done row.number.0)
    ++ listed spelled_u64 (delivered_on s.delivered row.number.0))))))

-- in format 2 with its suspension besides
abbrev pub spelled_activity_2 : State → Activity → List ℕ
spelled_activity_2 s row = spelled_activity s row ++ spelled_option spelled_u64 (suspended_until s.suspensions row.number.0)

-- an attachment with its masks
abbrev pub spelled_link : State → Link → List ℕ
spelled_link s l =
    spelled_u64 l.activity.0 ++ (spelled_u64 l.entity.0 ++ listed spelled_text (masks_of s.masks l.entity.0 l.activity.0))

-- a name and its activity
abbrev pub spelled_name : Named → List ℕ
spelled_name row = spelled_text row.name ++ spelled_u64 row.activity.0

-- a timer
abbrev pub spelled_timer : Timer → List ℕ
spelled_timer t =
    spelled_u64 t.number.0
    ++ (spelled_u64 t.activity.0
    ++ (spelled_u64 t.next
    ++ (spelled_u64 t.period
    ++ (spelled_u64 t.left ++ spelled_keep t.keep))))

-- a row of a profile table
abbrev pub spelled_row : Deployed → ProfileRow → List ℕ
spelled_row d row =
    spelled_text (table_name d row.table) ++ (spelled_text row.row ++ listed spelled_pair row.attributes)

-- a suspension as format 1 has it
abbrev pub spelled_suspension : Suspension → List ℕ
spelled_suspension row = spelled_u64 row.activity.0 ++ spelled_u64 row.until

-- the clock, the count of inputs and the next numbers
abbrev pub spelled_counts : State → List ℕ
spelled_counts s =
    flat_map spelled_u64 (s.clock ∷ s.inputs ∷ s.next_entity ∷ s.next_activity ∷ s.next_timer ∷ s.next_event ∷ [])

-- what stands before the activities
abbrev pub spelled_before : State → List ℕ
spelled_before s =
    spelled_counts s ++ (listed spelled_service s.services ++ listed (spelled_entity s) s.entities)

-- what stands behind the activities
abbrev pub spelled_behind : State → List ℕ
spelled_behind s =
    listed (spelled_link s) s.links
    ++ (listed spelled_name s.names
    ++ (listed spelled_timer s.timers
    ++ listed (spelled_row s.deployment) s.rows))

-- format 1 has a list of suspensions at its end, where there are any
abbrev pub spelled_suspensions : List Suspension → List ℕ
spelled_suspensions [] = []
spelled_suspensions (row ∷ rows) = listed spelled_suspension (row ∷ rows)

-- the bytes of a state in format 1
abbrev pub spelled_state_1 : State → List ℕ
spelled_state_1 s =
    spelled_before s ++ (listed (spelled_activity s) s.activities ++ (spelled_behind s ++ spelled_suspensions s.suspensions))

-- the bytes of a state in format 2
abbrev pub spelled_state_2 : State → List ℕ
spelled_state_2 s = spelled_before s ++ (listed (spelled_activity_2 s) s.activities ++ spelled_behind s)

-- the bytes of a state in a format, 1 or 2
abbrev pub spelled_state : ℕ → State → List ℕ
spelled_state format s = if format == 2 then spelled_state_2 s else spelled_state_1 s
