-- the mark is put in its place
use Rattle.std.proofs.Common.{refl, ◌∙◌}
use Rattle.router_state.proofs.AgreeLemmas.{entity_mark_put}
use Rattle.event_queue.proofs.queues.Queues.mark_entity.Goals as goal

pub returns-clause-rows : goal.returns-clause-rows
returns-clause-rows c =
    let made = c.put_row.ensures.rows ∙ entity_mark_put (record { activity = c.args.activity; entity = c.args.entity }) c.self.inside.delivered.rows in
    rw (← c.self.view_is, made) refl
