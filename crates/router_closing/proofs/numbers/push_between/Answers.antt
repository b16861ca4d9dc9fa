use Rattle.std.proofs.Common.{◌++◌, ◌<◌, arith}
use Rattle.std.proofs.lemmas.Bool.Decides.{nat_tests}
use Rattle.router_laws_closing.specs.TouchedRoots.{numbers_between}
use Rattle.router_closing.proofs.NumberLemmas.{between_on}
use Rattle.router_closing.proofs.numbers.push_between.Goals as goal

pub numbers-preserved : goal.numbers-preserved
numbers-preserved c =
    let low : c.numbers.number < c.args.last = grind (arith, nat_tests, c.numbers-test.true) in
    between_on c.numbers.all.items c.push.new.self.items (c.args.all.now.items ++ numbers_between c.args.first c.args.last) c.numbers.number c.args.last low c.in_ok-push.ensures.items c.numbers.invariant
