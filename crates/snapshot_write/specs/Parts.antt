-- Parts of the bytes of a state that one call writes.
use Rattle.std.specs.Prelude.{ℕ, List, ◌++◌}
use Rattle.slee_value.specs.Bytes.{spelled_flag, spelled_i8, spelled_option, spelled_text, spelled_u32, spelled_u64}
use Rattle.deploy_model.specs.Deployed.{Deployed, block_key}
use Rattle.router_state.specs.Queues.{queue, done_on, delivered_on, suspended_until}
use Rattle.router_state.specs.Snapshot.{listed, spelled_event, spelled_kind, spelled_stem}
use Rattle.router_state.specs.State.{State}
use Rattle.router_state.specs.declared.rows.Activity.{Activity}
use Rattle.router_state.specs.declared.rows.Entity.{Entity}

-- an entity without its convergence name and its fields
abbrev pub spelled_entity_row : Deployed → Entity → List ℕ
spelled_entity_row d row =
    spelled_u64 row.number.0 ++ (spelled_text (block_key d row.block) ++ (spelled_stem d row.stem ++ spelled_i8 row.priority))

-- an activity without its rows in other lists
abbrev pub spelled_activity_row : Deployed → Activity → List ℕ
spelled_activity_row d row = spelled_u64 row.number.0 ++ (spelled_kind d row.kind ++ spelled_flag row.ending)

-- the queue of an activity, the marks of its head event and its suspension
abbrev pub spelled_waiting : State → ℕ → List ℕ
spelled_waiting s a =
    listed (spelled_event s.deployment) (queue s.events a)
    ++ (listed spelled_u32 (done_on s.services_done a)
    ++ (listed spelled_u64 (delivered_on s.delivered a)
    ++ spelled_option spelled_u64 (suspended_until s.suspensions a)))
