-- the numbers so far and those of the others
use Rattle.std.proofs.Common.{◌≡◌, ◌++◌, drop, map}
use Rattle.router_look.proofs.copying.numbers.Given as goal

abbrev pub invariant-entities : goal.invariant-entities
invariant-entities l = l.ids ++ map (λ e. e.0) (drop l.entity-index l.entities) ≡ map (λ e. e.0) l.entities
