-- the numbers so far and those of the others
use Rattle.std.proofs.Common.{◌≡◌, ◌++◌, map}
use Rattle.router_look.proofs.copying.numbers_in.Given as goal

abbrev pub invariant-entries : goal.invariant-entries
invariant-entries l = l.ids ++ map (λ entry. entry.number) l.entry-iterator ≡ map (λ entry. entry.number) l.fn.entries
