use Rattle.std.proofs.Common.{◌≡◌, drop}
use Rattle.std.specs.List.{list_any}
use Rattle.router_state.specs.Contexts.{named_at}
use Rattle.router_draft.specs.Drafts.{laid}
use Rattle.router_closing.specs.Naming.{stands_for}
use Rattle.router_closing.proofs.in_use.does_one_stand_for.Given as goal

abbrev pub invariant-names : goal.invariant-names
invariant-names g l = list_any (λ name. stands_for l.activity.0 (named_at (laid (g.B.Base.state l.base) l.draft).names name)) (drop l.name-index l.names)
    ≡ list_any (λ name. stands_for l.activity.0 (named_at (laid (g.B.Base.state l.base) l.draft).names name)) l.names
