use Rattle.std.proofs.Common.{◌<◌, ◌++◌, arith}
use Rattle.std.proofs.lemmas.Bool.Decides.{nat_tests}
use Rattle.router_draft.specs.Drafts.{laid}
use Rattle.router_closing.specs.Services.{close_services_from, lines_of_services_from}
use Rattle.router_closing.proofs.ServiceLemmas.{lines_on, services_on}
use Rattle.router_closing.proofs.services.close_all.Goals as goal

pub services-preserved : goal.services-preserved
services-preserved g c =
    let s = g.C.Base.state c.args.setting.now in
    let low : c.services.service < c.args.count = grind (arith, nat_tests, c.services-test.true) in
    record {
      state = services_on c.services.service c.args.count (laid s c.services.draft) (laid s c.close_service.new.draft) (close_services_from 0 c.args.count (laid s c.args.draft.now)) low c.in_ok-close_service.ensures.state c.services.invariant.state;
      lines = lines_on c.services.service c.args.count (laid s c.services.draft) (laid s c.close_service.new.draft) c.services.draft.lines c.close_service.new.draft.lines (c.args.draft.now.lines ++ lines_of_services_from 0 c.args.count (laid s c.args.draft.now)) low c.in_ok-close_service.ensures.state c.in_ok-close_service.ensures.lines c.services.invariant.lines;
      made = c.in_ok-close_service.ensures.made;
    }
