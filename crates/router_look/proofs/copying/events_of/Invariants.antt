-- the events so far and those of the others
use Rattle.std.proofs.Common.{◌≡◌, ◌++◌, map}
use Rattle.router_look.proofs.copying.events_of.Given as goal

abbrev pub invariant-masks : goal.invariant-masks
invariant-masks l = l.events.items ++ map (λ m. m.event) l.mask-iterator ≡ map (λ m. m.event) l.fn.masks
