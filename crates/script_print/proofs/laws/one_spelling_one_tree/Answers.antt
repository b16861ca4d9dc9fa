use Rattle.script_print.proofs.Texts.{one_script}
use Rattle.script_print.proofs.laws.one_spelling_one_tree.Goals as goal

pub returns : goal.returns
returns c = λ a b h k e. one_script a b h k e
