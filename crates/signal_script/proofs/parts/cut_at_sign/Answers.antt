use Rattle.std.proofs.Common.{arith}
use Rattle.signal_script.proofs.WordLemmas.{once_cut}
use Rattle.signal_script.proofs.parts.cut_at_sign.Goals as goal

pub returns : goal.returns
returns c = once_cut 64 c.args.word.now c.split_once.result (omega arith) c.split_once.ensures.cases
