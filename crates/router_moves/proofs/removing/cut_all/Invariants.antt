use Rattle.std.proofs.Common.{◌≡◌, drop}
use Rattle.router_state.specs.Changes.{after_changes}
use Rattle.router_draft.specs.Drafts.{laid, CanBeMade}
use Rattle.router_moves.specs.Cuts.{detachings}
use Rattle.router_moves.proofs.removing.cut_all.Given as goal

abbrev pub invariant-activities : goal.invariant-activities
invariant-activities g l = record {
  state : after_changes (detachings l.entity.0 (drop l.activity-index l.activities)) (laid (g.S.Base.state l.setting) l.draft)
      ≡ after_changes (detachings l.entity.0 l.activities) (laid (g.S.Base.state l.setting) l.initial.draft);
  lines : l.draft.lines ≡ l.initial.draft.lines;
  made : CanBeMade (g.S.Base.state l.setting) l.draft;
}
