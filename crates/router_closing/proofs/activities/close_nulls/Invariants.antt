use Rattle.std.proofs.Common.{◌≡◌, ◌++◌, drop}
use Rattle.router_draft.specs.Drafts.{laid, CanBeMade}
use Rattle.router_steps.specs.Closing.{close_nulls, lines_of_nulls}
use Rattle.router_closing.proofs.activities.close_nulls.Given as goal

abbrev pub invariant-activities : goal.invariant-activities
invariant-activities g l = record {
  state : close_nulls (drop l.activity-index l.activities) (laid (g.C.Base.state l.setting) l.draft) ≡ close_nulls l.activities (laid (g.C.Base.state l.setting) l.initial.draft);
  lines : l.draft.lines ++ lines_of_nulls (drop l.activity-index l.activities) (laid (g.C.Base.state l.setting) l.draft) ≡ l.initial.draft.lines ++ lines_of_nulls l.activities (laid (g.C.Base.state l.setting) l.initial.draft);
  made : CanBeMade (g.C.Base.state l.setting) l.draft;
}
