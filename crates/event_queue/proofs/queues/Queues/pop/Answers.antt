-- the head event goes, and so do the marks
use Rattle.std.proofs.Common.{refl, ◌∙◌}
use Rattle.event_queue.proofs.HeadLemmas.{head_cut}
use Rattle.event_queue.proofs.queues.Queues.pop.Goals as goal

pub returns-clause-rows : goal.returns-clause-rows
returns-clause-rows c =
    let head = c.cut_first_of.ensures.rows ∙ head_cut c.args.activity.0 c.self.inside.events.rows in
    rw (← c.self.view_is, head, c.cut_rows_of.ensures.rows, c.cut_rows_of-2.ensures.rows) refl
