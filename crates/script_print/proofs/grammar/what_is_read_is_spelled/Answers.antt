use Rattle.script_print.proofs.GrammarScripts.{script_spelled}
use Rattle.script_print.proofs.grammar.what_is_read_is_spelled.Goals as goal

pub returns : goal.returns
returns c = λ tokens script good h. script_spelled tokens script good h
