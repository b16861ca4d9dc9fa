use Rattle.std.proofs.Common.{◌≡◌, ◌++◌, ◌-◌}
use Rattle.router_draft.specs.Drafts.{laid, CanBeMade}
use Rattle.router_closing.specs.Services.{close_services_from, lines_of_services_from}
use Rattle.router_closing.proofs.services.close_all.Given as goal

abbrev pub invariant-services : goal.invariant-services
invariant-services g l = record {
  state : close_services_from l.service (l.count - l.service) (laid (g.C.Base.state l.setting) l.draft) ≡ close_services_from 0 l.count (laid (g.C.Base.state l.setting) l.initial.draft);
  lines : l.draft.lines ++ lines_of_services_from l.service (l.count - l.service) (laid (g.C.Base.state l.setting) l.draft) ≡ l.initial.draft.lines ++ lines_of_services_from 0 l.count (laid (g.C.Base.state l.setting) l.initial.draft);
  made : CanBeMade (g.C.Base.state l.setting) l.draft;
}
