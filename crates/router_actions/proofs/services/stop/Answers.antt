-- the line of the service, and then those of its activity's end
use Rattle.router_actions.proofs.ServiceLemmas.{lines_stopped}
use Rattle.router_actions.proofs.services.stop.Goals as goal

pub returns-clause-lines : goal.returns-clause-lines
returns-clause-lines g c =
    lines_stopped _ _ _ _ _ _ _ _ _ _ c.in_ok-tell_stopping.ensures.changes c.in_ok-tell_stopping.ensures.lines c.in_ok-set_service.ensures.state c.in_ok-set_service.ensures.lines c.in_ok-end_if.ensures.lines
