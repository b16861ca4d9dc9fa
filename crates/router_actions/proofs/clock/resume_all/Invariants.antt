-- what the ends of the suspensions so far and of the others do is what all of them do
use Rattle.std.proofs.Common.{◌≡◌, ◌++◌, drop}
use Rattle.router_steps.specs.Taking.{all_resumed, lines_of_all_resumed}
use Rattle.router_draft.specs.Drafts.{CanBeMade, laid}
use Rattle.router_actions.proofs.clock.resume_all.Given as goal

abbrev pub invariant-suspensions : goal.invariant-suspensions
invariant-suspensions g l = record {
  state : all_resumed (drop l.row-index l.suspensions) (laid (g.B.Base.state l.base) l.draft)
      ≡ all_resumed l.suspensions (laid (g.B.Base.state l.base) l.initial.draft);
  lines : l.draft.lines ++ lines_of_all_resumed (drop l.row-index l.suspensions) (laid (g.B.Base.state l.base) l.draft)
      ≡ l.initial.draft.lines ++ lines_of_all_resumed l.suspensions (laid (g.B.Base.state l.base) l.initial.draft);
  made : CanBeMade (g.B.Base.state l.base) l.draft;
}
