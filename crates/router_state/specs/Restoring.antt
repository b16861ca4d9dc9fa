-- The well-formed state that has these bytes, if there is one.
use Rattle.std.specs.Prelude.{◌≡◌, ℕ, ◌==◌, ◌&&◌, if◌then◌else◌, List, [], ◌∷◌, map, filter_map, flat_map, Option, Some, None, option_map, Result, Ok, Err}
use Rattle.std.specs.Str.{bytes_eq}
use Rattle.slee_value.specs.Reading.{Fault, Part, ◌>>=◌}
use Rattle.script_types.specs.Program.{Program}
use Rattle.deploy_model.specs.Deployed.{Deployed}
use Rattle.router_state.specs.State.{State}
use Rattle.router_state.specs.Parsing.{EntityPart, ActivityPart, LinkPart, list_at, u64_at, service_at, entity_at, activity_at, link_at, named_at, timer_at, row_at, suspensions_at}
use Rattle.router_state.specs.Initial.{initial}
use Rattle.router_state.specs.Snapshot.{spelled_state}
use Rattle.router_state.specs.Well.{IsWell, is_well}
use Rattle.router_state.specs.declared.rows.Entity.{Entity}
use Rattle.router_state.specs.declared.rows.RootName.{RootName}
use Rattle.router_state.specs.declared.rows.Field.{Field}
use Rattle.router_state.specs.declared.rows.Activity.{Activity}
use Rattle.router_state.specs.declared.rows.Attribute.{Attribute}
use Rattle.router_state.specs.declared.rows.Link.{Link}
use Rattle.router_state.specs.declared.rows.Mask.{Mask}
use Rattle.router_state.specs.declared.rows.Queued.{Queued}
use Rattle.router_state.specs.declared.rows.ServiceMark.{ServiceMark}
use Rattle.router_state.specs.declared.rows.EntityMark.{EntityMark}
use Rattle.router_state.specs.declared.rows.Suspension.{Suspension}

-- the row of an entity
abbrev pub entity_of : EntityPart → Entity
entity_of x = record { number = record { 0 = x.number }; block = x.block; stem = x.stem; priority = x.priority }

-- the convergence name of an entity, where it has one
abbrev pub root_name_of : EntityPart → Option RootName
root_name_of x = option_map (λ name. record { entity = record { 0 = x.number }; name = name }) x.name

-- the fields of an entity
abbrev pub fields_of : EntityPart → List Field
fields_of x = map (λ f. record { entity = record { 0 = x.number }; name = f.0; value = f.1 }) x.fields

-- the row of an activity
abbrev pub activity_of : ActivityPart → Activity
activity_of x = record { number = record { 0 = x.number }; kind = x.kind; ending = x.ending }

-- the attributes of an activity
abbrev pub attributes_of : ActivityPart → List Attribute
attributes_of x = map (λ f. record { activity = record { 0 = x.number }; key = f.0; value = f.1 }) x.attributes

-- the events that wait on an activity
abbrev pub events_of : ActivityPart → List Queued
events_of x = map (λ event. record { activity = record { 0 = x.number }; event = event }) x.events

-- the services that were marked on an activity
abbrev pub services_done_of : ActivityPart → List ServiceMark
services_done_of x = map (λ n. record { activity = record { 0 = x.number }; service = n }) x.services_done

-- the entities that were marked on an activity
abbrev pub delivered_of : ActivityPart → List EntityMark
delivered_of x = map (λ n. record { activity = record { 0 = x.number }; entity = record { 0 = n } }) x.delivered

-- the suspension of an activity, where it has one
abbrev pub suspension_of : ActivityPart → Option Suspension
suspension_of x = option_map (λ moment. record { activity = record { 0 = x.number }; until = moment }) x.until

-- the row of an attachment
abbrev pub link_of : LinkPart → Link
link_of x = record { entity = record { 0 = x.entity }; activity = record { 0 = x.activity } }

-- the masks of an attachment
abbrev pub masks_of : LinkPart → List Mask
masks_of x = map (λ event. record { entity = record { 0 = x.entity }; activity = record { 0 = x.activity }; event = event }) x.masks

-- a state that may have these bytes
abbrev pub parsed : ℕ → Deployed → Program → List ℕ → Part State
parsed format d program bytes =
    u64_at bytes >>= λ clock. u64_at clock.1 >>= λ inputs. u64_at inputs.1 >>= λ next_entity. u64_at next_entity.1 >>= λ next_activity. u64_at next_activity.1 >>= λ next_timer. u64_at next_timer.1 >>= λ next_event.
    list_at service_at next_event.1 >>= λ services. list_at (entity_at d) services.1 >>= λ entities. list_at (activity_at format d) entities.1 >>= λ activities. list_at link_at activities.1 >>= λ links.
    list_at named_at links.1 >>= λ names. list_at timer_at names.1 >>= λ timers. list_at (row_at d) timers.1 >>= λ rows. suspensions_at format rows.1 >>= λ suspensions.
    let s : State = record {
      deployment = d;
      program = program;
      clock = clock.0;
      inputs = inputs.0;
      next_entity = next_entity.0;
      next_activity = next_activity.0;
      next_timer = next_timer.0;
      next_event = next_event.0;
      services = services.0;
      entities = map entity_of entities.0;
      root_names = filter_map root_name_of entities.0;
      fields = flat_map fields_of entities.0;
      activities = map activity_of activities.0;
      attributes = flat_map attributes_of activities.0;
      links = map link_of links.0;
      masks = flat_map masks_of links.0;
      names = names.0;
      events = flat_map events_of activities.0;
      services_done = flat_map services_done_of activities.0;
      delivered = flat_map delivered_of activities.0;
      suspensions = if format == 2 then filter_map suspension_of activities.0 else suspensions.0;
      timers = timers.0;
      rows = rows.0;
    } in
    Ok (s, suspensions.1)

-- a state that was read, where it is well formed and has just these bytes
abbrev pub tested : ℕ → List ℕ → Result (State × List ℕ) Fault → Option State
tested format bytes (Err fault) = None
tested format bytes (Ok x) = if bytes_eq (spelled_state format x.0) bytes && is_well x.0 then Some x.0 else None

-- the well-formed state of the deployment that has these bytes
abbrev pub restored : ℕ → Deployed → Program → List ℕ → Option State
restored format d program bytes = tested format bytes (parsed format d program bytes)

-- the snapshot text of a state in a journal: the empty text for the first state of the deployment, else its bytes
abbrev pub snapshot_text : ℕ → State → List ℕ
snapshot_text format s =
    if bytes_eq (spelled_state format s) (spelled_state format (initial s.deployment s.program)) then [] else spelled_state format s

-- the state for which a snapshot text stands; the first state may also be written out
abbrev pub state_of_snapshot : ℕ → Deployed → Program → List ℕ → Option State
state_of_snapshot format d program [] = Some (initial d program)
state_of_snapshot format d program (b ∷ bytes) = restored format d program (b ∷ bytes)

-- these are the bytes of the well-formed state
pub record IsSnapshot (format : ℕ) (d : Deployed) (p : Program) (bytes : List ℕ) (s : State) : Type 0 where
  pub deployment : s.deployment ≡ d
  pub program : s.program ≡ p
  pub spelled : spelled_state format s ≡ bytes
  pub well : IsWell s
