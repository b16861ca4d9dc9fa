use Rattle.std.proofs.Common.{◌≡◌, ◌++◌, drop}
use Rattle.router_stores.specs.Making.{CanMakeAll}
use Rattle.router_steps.specs.Going.{all_removed, changes_of_all_removed, lines_of_all_removed}
use Rattle.router_draft.specs.Drafts.{laid, CanBeMade}
use Rattle.router_moves.proofs.removing.remove_all.Given as goal

abbrev pub invariant-members : goal.invariant-members
invariant-members g l = record {
  state : all_removed (drop l.member-index l.members) (laid (g.S.Base.state l.setting) l.draft)
      ≡ all_removed l.members (laid (g.S.Base.state l.setting) l.initial.draft);
  lines : l.draft.lines ++ lines_of_all_removed (drop l.member-index l.members) (laid (g.S.Base.state l.setting) l.draft)
      ≡ l.initial.draft.lines ++ lines_of_all_removed l.members (laid (g.S.Base.state l.setting) l.initial.draft);
  made : CanBeMade (g.S.Base.state l.setting) l.draft;
  can : CanMakeAll (changes_of_all_removed (drop l.member-index l.members) (laid (g.S.Base.state l.setting) l.draft)) (laid (g.S.Base.state l.setting) l.draft);
}
