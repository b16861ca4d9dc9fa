-- What was read of a state's bytes stood in them: its counts and its lists, one behind another.
use Rattle.std.proofs.Common.{◌≡◌, ℕ, ◌==◌, List, [], ◌∷◌, ◌++◌, map, refl, sym, ap, ◌∙◌, subst}
use Rattle.std.specs.Prelude.{Ok, filter_map, flat_map, if◌then◌else◌}
use Rattle.slee_value.specs.Bytes.{spelled_u64}
use Rattle.slee_value.specs.Reading.{Part, ◌>>=◌}
use Rattle.slee_value.proofs.ReadLemmas.{AreBytes, Takes, Takes-then, ok_is}
use Rattle.script_types.specs.Program.{Program}
use Rattle.deploy_model.specs.Deployed.{Deployed}
use Rattle.router_state.specs.State.{State}
use Rattle.router_state.specs.Parsing.{ActivityPart, EntityPart, LinkPart, activity_at, entity_at, link_at, list_at, named_at, row_at, service_at, suspensions_at, timer_at, u64_at}
use Rattle.router_state.specs.Restoring.{activity_of, attributes_of, delivered_of, entity_of, events_of, fields_of, link_of, masks_of, parsed, root_name_of, services_done_of, suspension_of}
use Rattle.router_state.specs.Snapshot.{listed, spelled_name, spelled_row, spelled_service, spelled_timer}
use Rattle.router_state.specs.declared.rows.Named.{Named}
use Rattle.router_state.specs.declared.rows.ProfileRow.{ProfileRow}
use Rattle.router_state.specs.declared.rows.Service.{Service}
use Rattle.router_state.specs.declared.rows.Suspension.{Suspension}
use Rattle.router_state.specs.declared.rows.Timer.{Timer}
use Rattle.router_laws_reading.proofs.Taken.{first_part, spells_list, spells_u64, takes_none}
use Rattle.router_laws_reading.proofs.TakenEntities.{spelled_entity_part, spells_entity, spells_service}
use Rattle.router_laws_reading.proofs.TakenActivities.{spelled_activity_part, spells_activity}
use Rattle.router_laws_reading.proofs.TakenOthers.{spelled_end, spelled_link_part, spells_link, spells_named, spells_row, spells_suspensions, spells_timer}

-- the counts and the lists of a state as they were read
pub record StateParts : Type 0 where
  pub clock : ℕ
  pub inputs : ℕ
  pub next_entity : ℕ
  pub next_activity : ℕ
  pub next_timer : ℕ
  pub next_event : ℕ
  pub services : List Service
  pub entities : List EntityPart
  pub activities : List ActivityPart
  pub links : List LinkPart
  pub names : List Named
  pub timers : List Timer
  pub rows : List ProfileRow
  pub suspensions : List Suspension

-- the state that they are
abbrev pub state_made : ℕ → Deployed → Program → StateParts → State
state_made format d program x = record {
  deployment = d;
  program = program;
  clock = x.clock;
  inputs = x.inputs;
  next_entity = x.next_entity;
  next_activity = x.next_activity;
  next_timer = x.next_timer;
  next_event = x.next_event;
  services = x.services;
  entities = map entity_of x.entities;
  root_names = filter_map root_name_of x.entities;
  fields = flat_map fields_of x.entities;
  activities = map activity_of x.activities;
  attributes = flat_map attributes_of x.activities;
  links = map link_of x.links;
  masks = flat_map masks_of x.links;
  names = x.names;
  events = flat_map events_of x.activities;
  services_done = flat_map services_done_of x.activities;
  delivered = flat_map delivered_of x.activities;
  suspensions = if format == 2 then filter_map suspension_of x.activities else x.suspensions;
  timers = x.timers;
  rows = x.rows;
}

-- their bytes: the counts, what stands before the activities, and what stands behind them
abbrev pub counts_spelled : StateParts → List ℕ
counts_spelled x =
    flat_map spelled_u64 (x.clock ∷ x.inputs ∷ x.next_entity ∷ x.next_activity ∷ x.next_timer ∷ x.next_event ∷ [])

abbrev pub before_spelled : Deployed → StateParts → List ℕ
before_spelled d x =
    counts_spelled x ++ (listed spelled_service x.services ++ listed (spelled_entity_part d) x.entities)

abbrev pub behind_spelled : Deployed → StateParts → List ℕ
behind_spelled d x =
    listed spelled_link_part x.links
    ++ (listed spelled_name x.names
    ++ (listed spelled_timer x.timers
    ++ listed (spelled_row d) x.rows))

abbrev pub parts_spelled : ℕ → Deployed → StateParts → List ℕ
parts_spelled format d x =
    before_spelled d x ++ (listed (spelled_activity_part format d) x.activities ++ (behind_spelled d x ++ spelled_end format x.suspensions))

-- the state that was read is made of parts whose bytes stood at the front
pub record IsMadeOf (format : ℕ) (d : Deployed) (p : Program) (bytes : List ℕ) (y : State × List ℕ) : Type 0 where
  pub parts : StateParts
  pub state : state_made format d p parts ≡ y.0
  pub takes : Takes bytes (parts_spelled format d parts) y.1

pub parsed_took : (format : ℕ) (d : Deployed) (p : Program) (bytes : List ℕ) (y : State × List ℕ) → AreBytes bytes → parsed format d p bytes ≡ Ok y → IsMadeOf format d p bytes y
parsed_took format d p bytes y are is =
    first_part spelled_u64 u64_at _ bytes y spells_u64 are is (λ clock t1 e1.
    first_part spelled_u64 u64_at _ clock.1 y spells_u64 t1.rest_bytes e1 (λ inputs t2 e2.
    first_part spelled_u64 u64_at _ inputs.1 y spells_u64 t2.rest_bytes e2 (λ entity t3 e3.
    first_part spelled_u64 u64_at _ entity.1 y spells_u64 t3.rest_bytes e3 (λ activity t4 e4.
    first_part spelled_u64 u64_at _ activity.1 y spells_u64 t4.rest_bytes e4 (λ timer t5 e5.
    first_part spelled_u64 u64_at _ timer.1 y spells_u64 t5.rest_bytes e5 (λ event t6 e6.
    first_part (listed spelled_service) (list_at service_at) _ event.1 y (spells_list spelled_service service_at spells_service) t6.rest_bytes e6 (λ services t7 e7.
    first_part (listed (spelled_entity_part d)) (list_at (entity_at d)) _ services.1 y (spells_list (spelled_entity_part d) (entity_at d) (spells_entity d)) t7.rest_bytes e7 (λ entities t8 e8.
    first_part (listed (spelled_activity_part format d)) (list_at (activity_at format d)) _ entities.1 y (spells_list (spelled_activity_part format d) (activity_at format d) (spells_activity format d)) t8.rest_bytes e8 (λ activities t9 e9.
    first_part (listed spelled_link_part) (list_at link_at) _ activities.1 y (spells_list spelled_link_part link_at spells_link) t9.rest_bytes e9 (λ links t10 e10.
    first_part (listed spelled_name) (list_at named_at) _ links.1 y (spells_list spelled_name named_at spells_named) t10.rest_bytes e10 (λ names t11 e11.
    first_part (listed spelled_timer) (list_at timer_at) _ names.1 y (spells_list spelled_timer timer_at spells_timer) t11.rest_bytes e11 (λ timers t12 e12.
    first_part (listed (spelled_row d)) (list_at (row_at d)) _ timers.1 y (spells_list (spelled_row d) (row_at d) (spells_row d)) t12.rest_bytes e12 (λ rows t13 e13.
    first_part (spelled_end format) (suspensions_at format) _ rows.1 y (spells_suspensions format) t13.rest_bytes e13 (λ suspensions t14 e14.
    (let parts : StateParts = record {
      clock = clock.0;
      inputs = inputs.0;
      next_entity = entity.0;
      next_activity = activity.0;
      next_timer = timer.0;
      next_event = event.0;
      services = services.0;
      entities = entities.0;
      activities = activities.0;
      links = links.0;
      names = names.0;
      timers = timers.0;
      rows = rows.0;
      suspensions = suspensions.0;
    } in
    let c6 = spelled_u64 event.0 ++ [] in
    let c5 = spelled_u64 timer.0 ++ c6 in
    let c4 = spelled_u64 activity.0 ++ c5 in
    let c3 = spelled_u64 entity.0 ++ c4 in
    let c2 = spelled_u64 inputs.0 ++ c3 in
    let s6 = Takes-then timer.1 (spelled_u64 event.0) event.1 [] event.1 t6 (takes_none event.1 t6.rest_bytes) in
    let s5 = Takes-then activity.1 (spelled_u64 timer.0) timer.1 c6 event.1 t5 s6 in
    let s4 = Takes-then entity.1 (spelled_u64 activity.0) activity.1 c5 event.1 t4 s5 in
    let s3 = Takes-then inputs.1 (spelled_u64 entity.0) entity.1 c4 event.1 t3 s4 in
    let s2 = Takes-then clock.1 (spelled_u64 inputs.0) inputs.1 c3 event.1 t2 s3 in
    let counts = Takes-then bytes (spelled_u64 clock.0) clock.1 c2 event.1 t1 s2 in
    let b7 = listed spelled_service services.0 in
    let b8 = listed (spelled_entity_part d) entities.0 in
    let b9 = listed (spelled_activity_part format d) activities.0 in
    let b13 = listed (spelled_row d) rows.0 in
    let b12 = listed spelled_timer timers.0 ++ b13 in
    let b11 = listed spelled_name names.0 ++ b12 in
    let b10 = listed spelled_link_part links.0 ++ b11 in
    let b14 = spelled_end format suspensions.0 in
    let lists = Takes-then event.1 b7 services.1 b8 entities.1 t7 t8 in
    let before = Takes-then bytes (counts_spelled parts) event.1 (b7 ++ b8) entities.1 counts lists in
    let j12 = Takes-then names.1 (listed spelled_timer timers.0) timers.1 b13 rows.1 t12 t13 in
    let j11 = Takes-then links.1 (listed spelled_name names.0) names.1 b12 rows.1 t11 j12 in
    let behind = Takes-then activities.1 (listed spelled_link_part links.0) links.1 b11 rows.1 t10 j11 in
    let last = Takes-then activities.1 b10 rows.1 b14 suspensions.1 behind t14 in
    let after = Takes-then entities.1 b9 activities.1 (b10 ++ b14) suspensions.1 t9 last in
    let whole = Takes-then bytes (before_spelled d parts) entities.1 (b9 ++ (b10 ++ b14)) suspensions.1 before after in
    subst (λ (z : State × List ℕ). IsMadeOf format d p bytes z) (ok_is (state_made format d p parts, suspensions.1) y e14) (record { parts = parts; state = refl; takes = whole }))))))))))))))))
