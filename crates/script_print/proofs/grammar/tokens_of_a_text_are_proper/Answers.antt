use Rattle.script_print.proofs.Tokens.{tokens_proper}
use Rattle.script_print.proofs.grammar.tokens_of_a_text_are_proper.Goals as goal

pub returns : goal.returns
returns c = λ text. tokens_proper text
