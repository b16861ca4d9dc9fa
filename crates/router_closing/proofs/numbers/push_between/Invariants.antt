use Rattle.std.proofs.Common.{◌≡◌, ◌++◌}
use Rattle.router_laws_closing.specs.TouchedRoots.{numbers_between}
use Rattle.router_closing.proofs.numbers.push_between.Given as goal

abbrev pub invariant-numbers : goal.invariant-numbers
invariant-numbers l = l.all.items ++ numbers_between l.number l.last ≡ l.initial.all.items ++ numbers_between l.first l.last
