use Rattle.router_laws_restarts.proofs.OrderlyRuns.{restarted_ordered}
use Rattle.router_laws_restarts.proofs.runs.runs_over_restarts_keep_the_laws.Goals as goal

pub returns : goal.returns
returns c bytes d sides s h = restarted_ordered bytes d sides s h
