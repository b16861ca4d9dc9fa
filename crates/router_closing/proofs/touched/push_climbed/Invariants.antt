use Rattle.std.proofs.Common.{◌≡◌, ◌++◌, drop, map}
use Rattle.router_laws_closing.specs.TouchedRoots.{climbed, first_parent}
use Rattle.router_closing.proofs.touched.push_climbed.Given as goal

abbrev pub invariant-entities : goal.invariant-entities
invariant-entities g l = l.all.items ++ map (λ e. climbed (first_parent (g.B.Base.state l.base) l.made) e e) (drop l.entity-index l.entities)
    ≡ l.initial.all.items ++ map (λ e. climbed (first_parent (g.B.Base.state l.base) l.made) e e) l.entities
