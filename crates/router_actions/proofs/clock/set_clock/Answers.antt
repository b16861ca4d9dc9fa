-- the lines are those of the suspensions and then those of the occurrences
use Rattle.router_draft.specs.Drafts.{laid}
use Rattle.router_actions.proofs.ClockLemmas.{lines_clocked}
use Rattle.router_actions.proofs.clock.set_clock.Goals as goal

pub returns-clause-lines : goal.returns-clause-lines
returns-clause-lines g c =
    lines_clocked c.args.draft.now.lines _ _ _ c.args.suspensions.now _ _ (laid (g.B.Base.state c.args.base.now) c.args.draft.now) _ _ c.in_ok-end_suspensions.ensures.state c.in_ok-end_suspensions.ensures.lines c.in_ok-change.ensures.state c.in_ok-change.ensures.lines c.in_ok-fire_all.ensures.lines
