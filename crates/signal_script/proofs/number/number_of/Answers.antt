use Rattle.std.proofs.Common.{◌≡◌, true, Ok}
use Rattle.std.proofs.lemmas.Fmt.{parse-decimal}
use Rattle.signal_script.proofs.NumberLemmas.{number_other}
use Rattle.signal_script.proofs.number.number_of.Goals as goal

pub returns-in_default : goal.returns-in_default
returns-in_default c n small spelled =
    let same : c.parse.result ≡ Ok n = parse-decimal 64 n c.args.word.now c.parse.result small small spelled c.parse.ensures.value.0 in cc

pub returns-else-is_spelling : goal.returns-else-is_spelling
returns-else-is_spelling c =
    number_other c.args.word.now c.in-Ok.number c.parse.result c.parse.ensures.value.0 c.in-Ok.is (λ e. let holds : c.is_spelling.result ≡ true = c.is_spelling.ensures.1 e in cc)
