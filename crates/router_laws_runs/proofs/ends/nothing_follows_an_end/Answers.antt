use Rattle.router_laws_runs.proofs.EndLemmas.{end_is_last}
use Rattle.router_laws_runs.proofs.ends.nothing_follows_an_end.Goals as goal

pub returns : goal.returns
returns c = end_is_last
