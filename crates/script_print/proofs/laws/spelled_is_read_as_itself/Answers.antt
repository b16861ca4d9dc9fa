use Rattle.script_print.proofs.Texts.{text_again}
use Rattle.script_print.proofs.laws.spelled_is_read_as_itself.Goals as goal

pub returns : goal.returns
returns c = λ text script h e. text_again text script h e
