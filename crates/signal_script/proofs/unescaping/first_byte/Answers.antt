use Rattle.std.proofs.Common.{arith}
use Rattle.std.proofs.lemmas.Bool.Decides.{nat_tests}
use Rattle.signal_script.proofs.WordTextLemmas.{escape_cut}
use Rattle.signal_script.proofs.unescaping.first_byte.Goals as goal

pub returns-clause-some : goal.returns-clause-some
returns-clause-some c =
    escape_cut c.args.word c.args.text.now c.in_ok-escaped.escaped (grind (arith, nat_tests)) (grind (arith, nat_tests)) c.in_ok-escaped.ensures
