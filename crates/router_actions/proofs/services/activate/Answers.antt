-- the lines of the service and of its activity, and then that of its start
use Rattle.router_actions.proofs.ServiceLemmas.{lines_activated}
use Rattle.router_actions.proofs.services.activate.Goals as goal

pub returns-clause-lines : goal.returns-clause-lines
returns-clause-lines g c =
    lines_activated c.args.draft.now.lines _ _ _ c.args.draft.now.changes _ (g.K.Base.state c.args.keys.now) _ c.args.service _ _ c.in_ok-tell_activated.ensures.changes c.next_activity-activity.ensures.number (cc (c.in_ok-name.ensures.same, c.name.ensures)) c.in_ok-tell_activated.ensures.lines c.in_ok-open.ensures.state c.in_ok-open.ensures.lines c.in_ok-queue.ensures.lines
