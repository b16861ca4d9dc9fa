use Rattle.std.proofs.Common.{◌≡◌, ◌++◌, drop}
use Rattle.router_laws_closing.specs.TouchedRoots.{births}
use Rattle.router_closing.proofs.births.births.Given as goal

abbrev pub invariant-changes : goal.invariant-changes
invariant-changes l = l.all.items ++ births (drop l.change-index l.changes) ≡ births l.changes
