use Rattle.router_stores.proofs.MakingLemmas.{fit_can, fits_can}
use Rattle.router_stores.proofs.laws.fitting_changes_can_be_made.Goals as goal

pub returns-clause-one : goal.returns-clause-one
returns-clause-one c = λ change s fits. fits_can change s fits

pub returns-clause-each : goal.returns-clause-each
returns-clause-each c = λ cs s fits. fit_can cs s fits
