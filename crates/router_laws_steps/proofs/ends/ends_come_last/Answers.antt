use Rattle.router_laws_steps.proofs.EndLemmas.{end_last, gone_behind_end, gone_for_good}
use Rattle.router_laws_steps.proofs.ends.ends_come_last.Goals as goal

pub returns-clause-last : goal.returns-clause-last
returns-clause-last c = end_last

pub returns-clause-finished : goal.returns-clause-finished
returns-clause-finished c = gone_behind_end

pub returns-clause-gone : goal.returns-clause-gone
returns-clause-gone c = gone_for_good
