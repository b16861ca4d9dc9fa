use Rattle.script_print.proofs.Texts.{printed_tokens}
use Rattle.script_print.proofs.laws.printed_is_read_as_spelled.Goals as goal

pub returns : goal.returns
returns c = λ script h. printed_tokens script h
