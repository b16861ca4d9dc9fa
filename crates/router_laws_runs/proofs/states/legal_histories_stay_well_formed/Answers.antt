use Rattle.router_laws_runs.proofs.Runs.{legal_as_read, legal_well}
use Rattle.router_laws_runs.proofs.states.legal_histories_stay_well_formed.Goals as goal

pub returns-clause-well : goal.returns-clause-well
returns-clause-well c = legal_well

pub returns-clause-read : goal.returns-clause-read
returns-clause-read c = legal_as_read
