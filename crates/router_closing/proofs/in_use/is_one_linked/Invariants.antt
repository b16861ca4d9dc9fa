use Rattle.std.proofs.Common.{◌≡◌, drop}
use Rattle.std.specs.List.{list_any}
use Rattle.router_state.specs.Contexts.{is_linked}
use Rattle.router_draft.specs.Drafts.{laid}
use Rattle.router_closing.proofs.in_use.is_one_linked.Given as goal

abbrev pub invariant-entities : goal.invariant-entities
invariant-entities g l = list_any (λ e. is_linked (laid (g.B.Base.state l.base) l.draft).links e l.activity.0) (drop l.entity-index l.entities) ≡ list_any (λ e. is_linked (laid (g.B.Base.state l.base) l.draft).links e l.activity.0) l.entities
