-- Reading the bytes of a state from left to right. What is read is only a state that may have these bytes; Restoring tests it.
use Rattle.std.specs.Prelude.{ℕ, zero, suc, ◌==◌, ℤ, Bool, List, [], ◌∷◌, Option, Some, None, option_map, Ok, if◌then◌else◌}
use Rattle.std.specs.Int.{w32, w64}
use Rattle.slee_effect.specs.Reading.{keep_at}
use Rattle.slee_value.specs.Reading.{Part, ◌>>=◌, mapped, pair, refuse, ended, number_at, flag_at, option_at, i8_at, text_at, value_at}
use Rattle.slee_value.specs.declared.fault.ValueBad.TheVariants as bad
use Rattle.slee_value.specs.declared.convergence.ConvName.{ConvName}
use Rattle.slee_value.specs.declared.ids.ActivityId.{ActivityId}
use Rattle.slee_value.specs.declared.ids.EventId.{EventId}
use Rattle.slee_value.specs.declared.value.Value.{Value}
use Rattle.deploy_model.specs.Deployed.{Deployed, service_named, table_named, block_named}
use Rattle.router_state.specs.declared.rows.ServiceState.{ServiceState}
use Rattle.router_state.specs.declared.rows.ServiceState.TheVariants as states
use Rattle.router_state.specs.declared.rows.Service.{Service}
use Rattle.router_state.specs.declared.rows.AcKind.{AcKind}
use Rattle.router_state.specs.declared.rows.AcKind.TheVariants as kinds
use Rattle.router_state.specs.declared.rows.Stem.{Stem}
use Rattle.router_state.specs.declared.rows.Stem.TheVariants as stems
use Rattle.router_state.specs.declared.rows.Event.{Event}
use Rattle.router_state.specs.declared.rows.Named.{Named}
use Rattle.router_state.specs.declared.rows.Suspension.{Suspension}
use Rattle.router_state.specs.declared.rows.Timer.{Timer}
use Rattle.router_state.specs.declared.rows.ProfileRow.{ProfileRow}

-- nothing has these bytes
abbrev pub stray : {A : Type 0} → List ℕ → Part A
stray bytes = refuse bytes bad.Tag

-- so many items
abbrev pub items_at : {A : Type 0} → (List ℕ → Part A) → ℕ → List ℕ → Part (List A)
items_at item_at zero bytes = Ok ([], bytes)
items_at item_at (suc n) bytes = item_at bytes >>= λ x. items_at item_at n x.1 >>= λ xs. Ok (x.0 ∷ xs.0, xs.1)

-- a list: how many items, and then their bytes
abbrev pub list_at : {A : Type 0} → (List ℕ → Part A) → List ℕ → Part (List A)
list_at item_at bytes = number_at w64 bytes >>= λ n. items_at item_at n.0 n.1

-- a number of 32 bits
abbrev pub u32_at : List ℕ → Part ℕ
u32_at = number_at w32

-- a number of 64 bits
abbrev pub u64_at : List ℕ → Part ℕ
u64_at = number_at w64

-- what was found, where it was found
abbrev pub found : {A : Type 0} → Option A → List ℕ → Part A
found None rest = stray rest
found (Some x) rest = Ok (x, rest)

-- the number of what has a name
abbrev pub keyed_at : (List ℕ → Option ℕ) → List ℕ → Part ℕ
keyed_at number_named bytes = text_at bytes >>= λ name. found (number_named name.0) name.1

-- the number of a service by its key
abbrev pub service_number_at : Deployed → List ℕ → Part ℕ
service_number_at d = keyed_at (service_named d)

-- the number of a table by its name
abbrev pub table_number_at : Deployed → List ℕ → Part ℕ
table_number_at d = keyed_at (table_named d)

-- the number of a block by its key
abbrev pub block_number_at : Deployed → List ℕ → Part ℕ
block_number_at d = keyed_at (block_named d)

-- a name and its value
abbrev pub pair_at : List ℕ → Part (List ℕ × Value)
pair_at = pair text_at value_at

-- a list of names and their values
abbrev pub pairs_at : List ℕ → Part (List (List ℕ × Value))
pairs_at = list_at pair_at

-- the state of a service
abbrev pub state_at : List ℕ → Part ServiceState
state_at [] = ended
state_at (zero ∷ rest) = Ok (states.Inactive, rest)
state_at (suc zero ∷ rest) = Ok (states.Active, rest)
state_at (suc (suc zero) ∷ rest) = Ok (states.Stopping, rest)
state_at (suc (suc (suc b)) ∷ rest) = stray (suc (suc (suc b)) ∷ rest)

-- a service: its state and its activity
abbrev pub service_at : List ℕ → Part Service
service_at bytes =
    state_at bytes >>= λ state. u64_at state.1 >>= λ a. Ok (record { state = state.0; activity = record { 0 = a.0 } }, a.1)

-- a number as that of an activity
abbrev pub activity_of : Option ℕ → Option ActivityId
activity_of n = option_map (λ x. record { 0 = x }) n

-- a number as that of an event
abbrev pub event_of : Option ℕ → Option EventId
event_of n = option_map (λ x. record { 0 = x }) n

-- the five options of a convergence name
abbrev pub conv_at : List ℕ → Part ConvName
conv_at bytes =
    option_at u64_at bytes >>= λ a. option_at text_at a.1 >>= λ address. option_at text_at address.1 >>= λ event_type. option_at u64_at event_type.1 >>= λ v. option_at text_at v.1 >>= λ custom.
    Ok (record { activity = activity_of a.0; address = address.0; event_type = event_type.0; event = event_of v.0; custom = custom.0 }, custom.1)

-- an entity as it is spelled: the parent or 0 decides what follows
pub record EntityPart : Type 0 where
  pub number : ℕ
  pub block : ℕ
  pub stem : Stem
  pub priority : ℤ
  pub name : Option ConvName
  pub fields : List (List ℕ × Value)

-- a root's service, a child's relation
abbrev pub stem_at : Deployed → ℕ → List ℕ → Part Stem
stem_at d zero bytes = mapped (λ service. stems.Root service) (service_number_at d) bytes
stem_at d (suc parent) bytes = mapped (λ relation. stems.Child (record { 0 = suc parent }) relation) text_at bytes

-- a root's convergence name; a child has none
abbrev pub name_at : Stem → List ℕ → Part (Option ConvName)
name_at (stems.Root service) bytes = mapped (λ name. Some name) conv_at bytes
name_at (stems.Child parent relation) bytes = Ok (None, bytes)

-- an entity with its name and fields
abbrev pub entity_at : Deployed → List ℕ → Part EntityPart
entity_at d bytes =
    u64_at bytes >>= λ n. block_number_at d n.1 >>= λ block. u64_at block.1 >>= λ parent. stem_at d parent.0 parent.1 >>= λ stem. i8_at stem.1 >>= λ priority. name_at stem.0 priority.1 >>= λ name. pairs_at name.1 >>= λ fields.
    Ok (record { number = n.0; block = block.0; stem = stem.0; priority = priority.0; name = name.0; fields = fields.0 }, fields.1)

-- what an activity stands for
abbrev pub kind_at : Deployed → List ℕ → Part AcKind
kind_at d [] = ended
kind_at d (zero ∷ rest) = mapped (λ name. kinds.External name) text_at rest
kind_at d (suc zero ∷ rest) = Ok (kinds.Null, rest)
kind_at d (suc (suc zero) ∷ rest) = mapped (λ service. kinds.Service service) (service_number_at d) rest
kind_at d (suc (suc (suc zero)) ∷ rest) = mapped (λ table. kinds.Table table) (table_number_at d) rest
kind_at d (suc (suc (suc (suc b))) ∷ rest) = stray (suc (suc (suc (suc b))) ∷ rest)

-- an event that waits
abbrev pub event_at : Deployed → List ℕ → Part Event
event_at d bytes =
    u64_at bytes >>= λ v. text_at v.1 >>= λ name. option_at (service_number_at d) name.1 >>= λ target. pairs_at target.1 >>= λ fields.
    Ok (record { id = record { 0 = v.0 }; name = name.0; fields = fields.0; target = target.0 }, fields.1)

-- an activity as it is spelled; in format 1 it has no suspension
pub record ActivityPart : Type 0 where
  pub number : ℕ
  pub kind : AcKind
  pub ending : Bool
  pub attributes : List (List ℕ × Value)
  pub events : List Event
  pub services_done : List ℕ
  pub delivered : List ℕ
  pub until : Option ℕ

-- the suspension of format 2
abbrev pub until_at : ℕ → List ℕ → Part (Option ℕ)
until_at format bytes = if format == 2 then option_at u64_at bytes else Ok (None, bytes)

-- an activity with all that belongs to it, in a format
abbrev pub activity_at : ℕ → Deployed → List ℕ → Part ActivityPart
activity_at format d bytes =
    u64_at bytes >>= λ n. kind_at d n.1 >>= λ kind. flag_at kind.1 >>= λ ending. pairs_at ending.1 >>= λ attributes. list_at (event_at d) attributes.1 >>= λ events. list_at u32_at events.1 >>= λ done. list_at u64_at done.1 >>= λ delivered. until_at format delivered.1 >>= λ until.
    Ok (record { number = n.0; kind = kind.0; ending = ending.0; attributes = attributes.0; events = events.0; services_done = done.0; delivered = delivered.0; until = until.0 }, until.1)

-- an attachment with its masks
pub record LinkPart : Type 0 where
  pub activity : ℕ
  pub entity : ℕ
  pub masks : List (List ℕ)

-- an attachment with its masks
abbrev pub link_at : List ℕ → Part LinkPart
link_at bytes =
    u64_at bytes >>= λ a. u64_at a.1 >>= λ e. list_at text_at e.1 >>= λ masks.
    Ok (record { activity = a.0; entity = e.0; masks = masks.0 }, masks.1)

-- a name and its activity
abbrev pub named_at : List ℕ → Part Named
named_at bytes = text_at bytes >>= λ name. u64_at name.1 >>= λ a. Ok (record { name = name.0; activity = record { 0 = a.0 } }, a.1)

-- a timer
abbrev pub timer_at : List ℕ → Part Timer
timer_at bytes =
    u64_at bytes >>= λ n. u64_at n.1 >>= λ a. u64_at a.1 >>= λ next. u64_at next.1 >>= λ period. u64_at period.1 >>= λ left. keep_at left.1 >>= λ keep.
    Ok (record { number = record { 0 = n.0 }; activity = record { 0 = a.0 }; next = next.0; period = period.0; left = left.0; keep = keep.0 }, keep.1)

-- a row of a profile table
abbrev pub row_at : Deployed → List ℕ → Part ProfileRow
row_at d bytes =
    table_number_at d bytes >>= λ table. text_at table.1 >>= λ row. pairs_at row.1 >>= λ attributes.
    Ok (record { table = table.0; row = row.0; attributes = attributes.0 }, attributes.1)

-- a suspension as format 1 has it
abbrev pub suspension_at : List ℕ → Part Suspension
suspension_at bytes = u64_at bytes >>= λ a. u64_at a.1 >>= λ until. Ok (record { activity = record { 0 = a.0 }; until = until.0 }, until.1)

-- a list that is spelled only where it has items
abbrev pub filled : {A : Type 0} → List A → List ℕ → Part (List A)
filled [] rest = stray rest
filled (x ∷ xs) rest = Ok (x ∷ xs, rest)

-- the suspensions that stand at the end in format 1, where there are any
abbrev pub suspensions_at : ℕ → List ℕ → Part (List Suspension)
suspensions_at format [] = Ok ([], [])
suspensions_at format (b ∷ rest) =
    if format == 2 then stray (b ∷ rest) else (list_at suspension_at (b ∷ rest) >>= λ rows. filled rows.0 rows.1)
