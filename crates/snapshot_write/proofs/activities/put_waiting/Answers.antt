-- the queue, the marks, and then the suspension
use Rattle.std.proofs.Common.{◌==◌, List, ap, ◌∙◌}
use Rattle.std.specs.Prelude.{filter}
use Rattle.std.proofs.lemmas.Result.{on_ok_weaker}
use Rattle.deploy_model.specs.Resolving.{deployed_of}
use Rattle.router_state.specs.Queues.{suspended_until}
use Rattle.router_state.specs.declared.rows.EntityMark.{EntityMark}
use Rattle.router_state.specs.declared.rows.Queued.{Queued}
use Rattle.router_state.specs.declared.rows.ServiceMark.{ServiceMark}
use Rattle.router_state.specs.declared.rows.Suspension.{Suspension}
use Rattle.snapshot_write.proofs.WholeLemmas.{waiting_put}
use Rattle.snapshot_write.proofs.activities.put_waiting.Goals as goal

pub returns : goal.returns
returns c =
    on_ok_weaker c.put_suspension.result
    (λ last. waiting_put c.args.stores.now.state (deployed_of c.args.deployment.now.parts) c.args.activity.0 c.events_on.result c.services_done.result c.delivered.result c.suspended_until.result _ _ _ _ _ c.requires
    (c.events_on.ensures ∙ ap (filter (λ (q : Queued). q.activity.0 == c.args.activity.0)) c.queues-queues.ensures.events)
    (c.services_done.ensures ∙ ap (filter (λ (m : ServiceMark). m.activity.0 == c.args.activity.0)) c.queues-queues.ensures.services_done)
    (c.delivered.ensures ∙ ap (filter (λ (m : EntityMark). m.activity.0 == c.args.activity.0)) c.queues-queues.ensures.delivered)
    (c.suspended_until.ensures ∙ ap (λ (rows : List Suspension). suspended_until rows c.args.activity.0) c.queues-queues.ensures.suspensions)
    c.in_ok-put_queue.ensures c.in_ok-put_services_done.ensures c.in_ok-put_delivered.ensures last)
    c.put_suspension.ensures
