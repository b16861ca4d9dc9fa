-- A container may pass to a thread, where its disk may.
use denote.Param.Send.{AllSend, IsSend, recorded_send, sendable, struct_send, view_send}
use denote.RattleType.{RattleType}
use denote.Ref.{NamedLft}
use denote.Struct.Declared.{fields, shape}
use Rattle.std.proofs.Crossing.{crosses}
use Rattle.std.proofs.alloc.Global.TheSendSync as global
use Rattle.slee_value.proofs.ids.ActivityId.TheSendSync as activity_id
use Rattle.signal_script.proofs.signals.Signals.TheSendSync as signals
use Rattle.trace_history.specs.contracts.history.History as History
use Rattle.trace_history.specs.contracts.history.History.TheInside as history
use Rattle.slee_disk.specs.declared.disk.Disk as Disk
use Rattle.commit_journal.proofs.journal.Journal.TheSendSync as journal
use Rattle.router_state.proofs.rows.RootName.TheSendSync as root_name
use Rattle.router_state.proofs.rows.Service.TheSendSync as service
use Rattle.rows_leaves.proofs.leaves.Leaves.TheSendSync as leaves
use Rattle.cmp_store.proofs.fields.Fields.TheSendSync as cmp_fields
use Rattle.event_mask.proofs.masks.Masks.TheSendSync as masks
use Rattle.event_queue.proofs.queues.Queues.TheSendSync as queues
use Rattle.entity_tree.proofs.tree.Tree.TheSendSync as tree
use Rattle.timer_facility.proofs.timers.Timers.TheSendSync as timers
use Rattle.activity_context.proofs.contexts.Contexts.TheSendSync as contexts
use Rattle.profile_tables.proofs.profiles.Profiles.TheSendSync as profiles
use Rattle.router_order.proofs.order.Order.TheSendSync as order
use Rattle.router_stores.proofs.ready.Ready.TheSendSync as ready
use Rattle.router_stores.specs.contracts.stores.Stores as Stores
use Rattle.router_stores.specs.contracts.stores.Stores.TheInside as stores
use Rattle.router_roots.proofs.roots.Roots.TheSendSync as roots
use Rattle.router_core.specs.contracts.state.State as State
use Rattle.router_core.specs.contracts.state.State.TheInside as state
use Rattle.router_durable.proofs.fault.Stop.TheSendSync as stop
use Rattle.router_durable.specs.contracts.stepping.Core as Core
use Rattle.router_durable.specs.contracts.stepping.Core.TheInside as core
use Rattle.slee_container.specs.contracts.container.Container as Container
use Rattle.slee_container.specs.contracts.container.Container.TheInside as container
use Rattle.tx_attempt.proofs.ticket.Ticket.TheSendSync as ticket
use Rattle.worker_gate.proofs.SharingLemmas.{deployment_sync}

history_send : IsSend History.the_row
history_send = view_send history.the_row _ _ _ _ (recorded_send (history.the_field).row _ _ (history.the_type).to_one (struct_send (shape history.the_type) (search (crosses, sendable) depth 60 fits 20000)))

stores_send : IsSend Stores.the_row
stores_send = view_send stores.the_row _ _ _ _ (recorded_send (stores.the_field).row _ _ (stores.the_type).to_one (struct_send (shape stores.the_type)
    (search (cmp_fields.the_send, tree.the_send, contexts.the_send, masks.the_send, queues.the_send, timers.the_send, profiles.the_send, order.the_send, leaves.the_send, ready.the_send, root_name.the_send, service.the_send, crosses, sendable) depth 60 fits 20000)))

state_send : IsSend State.the_row
state_send = view_send state.the_row _ _ _ _ (recorded_send (state.the_field).row _ _ (state.the_type).to_one (struct_send (shape state.the_type) (search (stores_send, roots.the_send, crosses, sendable) depth 60 fits 20000)))

module _ (κ : NamedLft) (D : RattleType) (g : Disk.Ghosts D.Denot) where
  core_fields_send : IsSend D → AllSend (fields (core.the_type κ D g))
  core_fields_send s = search (s, journal.the_send, deployment_sync, state_send, history_send, stop.the_send, global.the_field_send, crosses, sendable) depth 60 fits 20000

  core_send : IsSend D → IsSend (Core.the_row κ D g)
  core_send s = view_send (core.the_row κ D g) _ _ _ _ (recorded_send (core.the_field κ D g).row _ _ (core.the_type κ D g).to_one (struct_send (shape (core.the_type κ D g)) (core_fields_send s)))

  fields_send : IsSend D → AllSend (fields (container.the_type κ D g))
  fields_send s = (
    global.the_field_send,
    (
      core_send s,
      (
        search (signals.the_sync, sendable),
        (search sendable, (search sendable, (search sendable, (search (ticket.the_send, crosses), (search (activity_id.the_send, crosses), tt))))),
      ),
    ),
  )

  pub container_send : IsSend D → IsSend (Container.the_row κ D g)
  container_send s = view_send (container.the_row κ D g) _ _ _ _ (recorded_send (container.the_field κ D g).row _ _ (container.the_type κ D g).to_one (struct_send (shape (container.the_type κ D g)) (fields_send s)))
