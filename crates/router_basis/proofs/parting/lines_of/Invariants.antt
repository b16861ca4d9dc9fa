use Rattle.std.proofs.Common.{◌≡◌, ◌++◌, drop, map}
use Rattle.script_meaning.specs.Removal.{said}
use Rattle.router_basis.proofs.parting.lines_of.Given as goal

-- the lines so far, and those of the texts that are left
abbrev pub invariant-texts : goal.invariant-texts
invariant-texts l = l.lines.items ++ map (said l.fn.entity) (drop l.text-index l.texts) ≡ map (said l.fn.entity) l.fn.texts
