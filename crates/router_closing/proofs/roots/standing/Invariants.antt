use Rattle.std.proofs.Common.{◌≡◌, ◌++◌, drop, filter}
use Rattle.router_draft.specs.Drafts.{laid}
use Rattle.router_laws_closing.specs.TouchedRoots.{stands}
use Rattle.router_closing.proofs.roots.standing.Given as goal

abbrev pub invariant-numbers : goal.invariant-numbers
invariant-numbers g l = l.all.items ++ filter (stands (laid (g.B.Base.state l.base) l.draft).entities) (drop l.number-index l.numbers) ≡ filter (stands (laid (g.B.Base.state l.base) l.draft).entities) l.numbers
