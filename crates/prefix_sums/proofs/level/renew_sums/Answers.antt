-- at the end all blocks have their sums
use Rattle.std.proofs.Common.{arith}
use Rattle.prefix_sums.proofs.SumLemmas.{all_sums}
use Rattle.prefix_sums.proofs.level.renew_sums.Goals as goal

pub returns-clause-stand : goal.returns-clause-stand
returns-clause-stand c =
    all_sums c.args.level.now.numbers.items c.sums.sums.items c.sums.sums.len c.sums.sums.ok.0 c.sums.invariant.stand (omega (arith, c.sums.sums.ok.0, c.args.level.now.numbers.ok.0, c.len.ensures, c.len-in-sums.ensures, c.sums-test.false))
