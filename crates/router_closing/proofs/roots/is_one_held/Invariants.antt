use Rattle.std.proofs.Common.{◌≡◌, drop}
use Rattle.std.specs.List.{list_any}
use Rattle.router_draft.specs.Drafts.{laid}
use Rattle.router_closing.specs.Held.{is_held}
use Rattle.router_closing.proofs.roots.is_one_held.Given as goal

abbrev pub invariant-members : goal.invariant-members
invariant-members g l = list_any (is_held (laid (g.B.Base.state l.base) l.draft).links) (drop l.member-index l.members) ≡ list_any (is_held (laid (g.B.Base.state l.base) l.draft).links) l.members
