-- the event is put in its place
use Rattle.std.proofs.Common.{refl, ◌∙◌}
use Rattle.router_state.proofs.AgreeLemmas.{queued_put}
use Rattle.event_queue.proofs.queues.Queues.restore.Goals as goal

pub returns-clause-rows : goal.returns-clause-rows
returns-clause-rows c =
    let made = c.put_row.ensures.rows ∙ queued_put c.args.item c.self.inside.events.rows in
    rw (← c.self.view_is, made) refl
