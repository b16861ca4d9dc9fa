use Rattle.router_draft.specs.Drafts.{laid}
use Rattle.router_subjects.proofs.DropLemmas.{services_left}
use Rattle.router_subjects.proofs.dropping.leave_service.Goals as goal

pub returns-clause-services : goal.returns-clause-services
returns-clause-services g c =
    let s = g.B.Base.state c.args.base.now in
    services_left (laid s c.args.draft.now) (laid s c.change.new.draft) c.args.service c.args.row.state (record { 0 = 0 }) c.in_ok-change.ensures.state
