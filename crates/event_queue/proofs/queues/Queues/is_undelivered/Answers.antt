-- no mark is for the activity
use Rattle.std.proofs.Common.{ap, ◌∙◌}
use Rattle.std.specs.Prelude.{not}
use Rattle.event_queue.proofs.HeadLemmas.{none_marked}
use Rattle.event_queue.proofs.queues.Queues.is_undelivered.Goals as goal

pub returns : goal.returns
returns c = rw (← c.self.view_is) (ap not c.has_row_of.ensures ∙ none_marked c.self.inside.delivered.rows c.args.activity.0)
