-- the mark is put in its place
use Rattle.std.proofs.Common.{refl, ◌∙◌}
use Rattle.router_state.proofs.AgreeLemmas.{service_mark_put}
use Rattle.event_queue.proofs.queues.Queues.mark_service.Goals as goal

pub returns-clause-rows : goal.returns-clause-rows
returns-clause-rows c =
    let made = c.put_row.ensures.rows ∙ service_mark_put (record { activity = c.args.activity; service = c.args.service }) c.self.inside.services_done.rows in
    rw (← c.self.view_is, made) refl
