-- event by event
use Rattle.std.proofs.Common.{◌∙◌}
use Rattle.snapshot_check_rows.proofs.QueueLemmas.{none_ends}
use Rattle.snapshot_check_rows.proofs.queues.has_no_end.Goals as goal

pub returns : goal.returns
returns c = c.are_no_ends.ensures ∙ none_ends c.args.events.now
