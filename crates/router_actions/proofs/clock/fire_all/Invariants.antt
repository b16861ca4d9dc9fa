-- what the occurrences so far and the others do is what all of them do
use Rattle.std.proofs.Common.{◌≡◌, ◌++◌, drop, map}
use Rattle.router_steps.specs.Taking.{all_occurred, lines_of_all_occurred}
use Rattle.timer_facility.specs.Occurrences.{occurrence}
use Rattle.router_draft.specs.Drafts.{CanBeMade, laid}
use Rattle.router_actions.proofs.clock.fire_all.Given as goal

abbrev pub invariant-occurrences : goal.invariant-occurrences
invariant-occurrences g l = record {
  state : all_occurred (map occurrence (drop l.due-index l.occurrences)) (laid (g.B.Base.state l.base) l.draft)
      ≡ all_occurred (map occurrence l.occurrences) (laid (g.B.Base.state l.base) l.initial.draft);
  lines : l.draft.lines ++ lines_of_all_occurred (map occurrence (drop l.due-index l.occurrences)) (laid (g.B.Base.state l.base) l.draft)
      ≡ l.initial.draft.lines ++ lines_of_all_occurred (map occurrence l.occurrences) (laid (g.B.Base.state l.base) l.initial.draft);
  made : CanBeMade (g.B.Base.state l.base) l.draft;
}
