use Rattle.std.proofs.Common.{◌≡◌, drop, map}
use Rattle.router_state.specs.Changes.{after_changes}
use Rattle.router_draft.specs.Drafts.{laid, CanBeMade}
use Rattle.router_moves.specs.Cuts.{first_set}
use Rattle.router_moves.proofs.creating.set_all.Given as goal

abbrev pub invariant-fields : goal.invariant-fields
invariant-fields g l = record {
  state : after_changes (map (first_set l.entity.0) (drop l.field-index l.fields)) (laid (g.B.Base.state l.base) l.draft)
      ≡ after_changes (map (first_set l.entity.0) l.fields) (laid (g.B.Base.state l.base) l.initial.draft);
  lines : l.draft.lines ≡ l.initial.draft.lines;
  made : CanBeMade (g.B.Base.state l.base) l.draft;
}
