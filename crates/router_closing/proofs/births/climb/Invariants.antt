use Rattle.std.proofs.Common.{◌≡◌, ◌-◌}
use Rattle.router_laws_closing.specs.TouchedRoots.{climbed, first_parent}
use Rattle.router_closing.proofs.births.climb.Given as goal

abbrev pub invariant-steps : goal.invariant-steps
invariant-steps g l = climbed (first_parent (g.B.Base.state l.base) l.made) (l.entity - l.step) l.at ≡ climbed (first_parent (g.B.Base.state l.base) l.made) l.entity l.entity
