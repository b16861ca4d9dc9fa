use Rattle.router_laws_restarts.proofs.Reaching.{history_restarted, kept_restarted, read_restarted, well_restarted}
use Rattle.router_laws_restarts.proofs.restarts.restarts_are_well_formed.Goals as goal

pub returns-clause-history : goal.returns-clause-history
returns-clause-history c = history_restarted

pub returns-clause-well : goal.returns-clause-well
returns-clause-well c bytes d sides s = well_restarted bytes d sides s

pub returns-clause-read : goal.returns-clause-read
returns-clause-read c = read_restarted

pub returns-clause-kept : goal.returns-clause-kept
returns-clause-kept c = kept_restarted
