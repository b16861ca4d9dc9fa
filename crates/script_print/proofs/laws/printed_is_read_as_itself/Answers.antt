use Rattle.script_print.proofs.Texts.{printed_again}
use Rattle.script_print.proofs.laws.printed_is_read_as_itself.Goals as goal

pub returns : goal.returns
returns c = λ script h. printed_again script h
