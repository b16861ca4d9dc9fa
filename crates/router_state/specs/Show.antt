-- What the show command prints of a state.
use Rattle.std.specs.Prelude.{ℕ, ◌+◌, ◌==◌, nat_lt, Bool, true, false, if◌then◌else◌, List, [], ◌∷◌, ◌++◌, map, flat_map, codes, decimal}
use Rattle.std.specs.Option.{option_map_or}
use Rattle.std.specs.Fmt.{signed_decimal}
use Rattle.slee_value.specs.Escape.{escaped}
use Rattle.slee_value.specs.declared.value.Value.{Value}
use Rattle.slee_value.specs.declared.value.Value.TheVariants as values
use Rattle.deploy_model.specs.Deployed.{Deployed, block_key, service_key, table_name}
use Rattle.router_state.specs.State.{State}
use Rattle.rows_sorted.specs.Orders.{sorted}
use Rattle.router_state.specs.Fields.{fields_of}
use Rattle.router_state.specs.Masks.{masks_of}
use Rattle.router_state.specs.Queues.{head_event, suspended_until}
use Rattle.router_state.specs.declared.rows.ServiceState.{ServiceState}
use Rattle.router_state.specs.declared.rows.ServiceState.TheVariants as states
use Rattle.router_state.specs.declared.rows.Service.{Service}
use Rattle.router_state.specs.declared.rows.AcKind.{AcKind}
use Rattle.router_state.specs.declared.rows.AcKind.TheVariants as kinds
use Rattle.router_state.specs.declared.rows.Activity.{Activity}
use Rattle.router_state.specs.declared.rows.Stem.{Stem}
use Rattle.router_state.specs.declared.rows.Stem.TheVariants as stems
use Rattle.router_state.specs.declared.rows.Entity.{Entity}
use Rattle.router_state.specs.declared.rows.Link.{Link}
use Rattle.router_state.specs.declared.rows.Queued.{Queued}
use Rattle.router_state.specs.declared.rows.Named.{Named}
use Rattle.router_state.specs.declared.rows.Timer.{Timer}
use Rattle.router_state.specs.declared.rows.ProfileRow.{ProfileRow}

-- a letter and a number, and none for 0
abbrev pub reference : List ℕ → ℕ → List ℕ
reference letter n = if n == 0 then codes "none" else letter ++ decimal n

-- a value as it is printed
abbrev pub printed : Value → List ℕ
printed (values.Int n) = signed_decimal n
printed (values.Text text) = escaped true text
printed (values.Bool b) = if b then codes "true" else codes "false"
printed (values.Activity a) = reference (codes "a") a.0
printed (values.Timer t) = reference (codes "t") t.0

-- words with a space before each
abbrev pub spaced : List (List ℕ) → List ℕ
spaced words = flat_map (λ word. codes " " ++ word) words

-- the word for a state of a service
abbrev pub state_word : ServiceState → List ℕ
state_word states.Inactive = codes "inactive"
state_word states.Active = codes "active"
state_word states.Stopping = codes "stopping"

-- the services as deployed, numbered from n on
abbrev pub service_lines : Deployed → ℕ → List Service → List (List ℕ)
service_lines d n [] = []
service_lines d n (row ∷ rows) =
    (codes "service" ++ spaced (service_key d n ∷ state_word row.state ∷ [])) ∷ service_lines d (n + 1) rows

-- what an activity stands for
abbrev pub kind_words : Deployed → AcKind → List ℕ
kind_words d (kinds.External name) = codes "external " ++ name
kind_words d kinds.Null = codes "null"
kind_words d (kinds.Service service) = codes "service " ++ service_key d service
kind_words d (kinds.Table table) = codes "table " ++ table_name d table

-- an activity
abbrev pub activity_line : Deployed → Activity → List ℕ
activity_line d row =
    codes "activity a" ++ (decimal row.number.0 ++ spaced ((if row.ending then codes "ending" else codes "active") ∷ kind_words d row.kind ∷ []))

-- where an entity stands
abbrev pub stem_words : Deployed → Stem → List ℕ
stem_words d (stems.Root service) = codes "root " ++ service_key d service
stem_words d (stems.Child parent relation) = codes "child e" ++ (decimal parent.0 ++ (codes " " ++ relation))

-- an entity without its fields
abbrev pub entity_line : Deployed → Entity → List ℕ
entity_line d row =
    codes "entity e" ++ (decimal row.number.0 ++ spaced (block_key d row.block ∷ stem_words d row.stem ∷ signed_decimal row.priority ∷ []))

-- a field of an entity
abbrev pub field_line : List ℕ × Value → List ℕ
field_line field = codes "  field" ++ spaced (field.0 ∷ printed field.1 ∷ [])

-- an entity with its fields
abbrev pub entity_lines : State → Entity → List (List ℕ)
entity_lines s row = entity_line s.deployment row ∷ map field_line (fields_of s.fields row.number.0)

-- the masks of an attachment, where there are any
abbrev pub mask_words : List (List ℕ) → List ℕ
mask_words [] = []
mask_words (event ∷ events) = codes " masked" ++ spaced (event ∷ events)

-- an attachment
abbrev pub link_line : State → Link → List ℕ
link_line s l =
    codes "attached e" ++ (decimal l.entity.0 ++ (codes " a" ++ (decimal l.activity.0 ++ mask_words (masks_of s.masks l.entity.0 l.activity.0))))

-- the event of this number is the head event of the activity
abbrev pub is_head : List Queued → ℕ → ℕ → Bool
is_head events a v = option_map_or (λ event. event.id.0 == v) (head_event events a) false

-- the moment until which the event is suspended, where it is
abbrev pub suspended_words : State → Queued → List ℕ
suspended_words s q =
    if is_head s.events q.activity.0 q.event.id.0
    then option_map_or (λ until. codes " suspended " ++ decimal until) (suspended_until s.suspensions q.activity.0) []
    else []

-- an event that waits
abbrev pub pending_line : State → Queued → List ℕ
pending_line s q =
    codes "pending v" ++ (decimal q.event.id.0 ++ (codes " " ++ (q.event.name ++ (codes " a" ++ (decimal q.activity.0 ++ suspended_words s q)))))

-- the events that wait, by number over all activities
abbrev pub by_number : List Queued → List Queued
by_number events = sorted (λ x y. nat_lt x.event.id.0 y.event.id.0) events

-- a name
abbrev pub name_line : Named → List ℕ
name_line row = codes "name " ++ (escaped true row.name ++ (codes " a" ++ decimal row.activity.0))

-- a timer
abbrev pub timer_line : Timer → List ℕ
timer_line t = codes "timer t" ++ (decimal t.number.0 ++ (codes " a" ++ (decimal t.activity.0 ++ (codes " next " ++ decimal t.next))))

-- an attribute of a row
abbrev pub attribute_word : List ℕ × Value → List ℕ
attribute_word attribute = attribute.0 ++ (codes "=" ++ printed attribute.1)

-- a row of a profile table
abbrev pub row_line : Deployed → ProfileRow → List ℕ
row_line d row = codes "row" ++ spaced (table_name d row.table ∷ escaped true row.row ∷ map attribute_word row.attributes)

-- all lines, without their newlines
abbrev pub show_lines : State → List (List ℕ)
show_lines s =
    (codes "clock " ++ decimal s.clock) ∷ (codes "inputs " ++ decimal s.inputs)
    ∷ (service_lines s.deployment 0 s.services
    ++ (map (activity_line s.deployment) s.activities
    ++ (flat_map (entity_lines s) s.entities
    ++ (map (link_line s) s.links
    ++ (map (pending_line s) (by_number s.events)
    ++ (map name_line s.names
    ++ (map timer_line s.timers
    ++ map (row_line s.deployment) s.rows)))))))

-- the lines, each with its newline
abbrev pub show_text : State → List ℕ
show_text s = flat_map (λ line. line ++ codes "\n") (show_lines s)
