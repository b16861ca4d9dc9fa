use Rattle.std.proofs.Common.{◌≡◌, drop, length}
use Rattle.router_state.specs.Changes.{after_changes}
use Rattle.router_steps.specs.Moves.{changes_of_services}
use Rattle.router_draft.specs.Drafts.{CanBeMade, laid}
use Rattle.router_subjects.proofs.dropping.leave_services.Given as goal

-- what is left to do leads to what all of it leads to
abbrev pub invariant-services : goal.invariant-services
invariant-services g l = record {
  state : after_changes (changes_of_services l.activity.0 l.service (drop l.service (g.C.Base.state l.closing).services)) (laid (g.C.Base.state l.closing) l.draft)
      ≡ after_changes (changes_of_services l.activity.0 0 (g.C.Base.state l.closing).services) (laid (g.C.Base.state l.closing) l.initial.draft);
  services : length (laid (g.C.Base.state l.closing) l.draft).services ≡ length (laid (g.C.Base.state l.closing) l.initial.draft).services;
  lines : l.draft.lines ≡ l.initial.draft.lines;
  made : CanBeMade (g.C.Base.state l.closing) l.draft;
}
