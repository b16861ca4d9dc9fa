use Rattle.std.proofs.Common.{◌≡◌, drop, map}
use Rattle.router_state.specs.Changes.{after_changes}
use Rattle.router_draft.specs.Drafts.{CanBeMade, laid}
use Rattle.router_subjects.specs.Drops.{forgetting}
use Rattle.router_subjects.proofs.dropping.forget_masks.Given as goal

-- what is left to do leads to what all of it leads to
abbrev pub invariant-entities : goal.invariant-entities
invariant-entities g l = record {
  state : after_changes (map (forgetting l.activity) (drop l.entity-index l.entities)) (laid (g.B.Base.state l.base) l.draft)
      ≡ after_changes (map (forgetting l.activity) l.entities) (laid (g.B.Base.state l.base) l.initial.draft);
  lines : l.draft.lines ≡ l.initial.draft.lines;
  made : CanBeMade (g.B.Base.state l.base) l.draft;
}
