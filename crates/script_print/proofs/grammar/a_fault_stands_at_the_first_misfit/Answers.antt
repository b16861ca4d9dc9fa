use Rattle.script_print.proofs.Misfits.{first_misfit}
use Rattle.script_print.proofs.grammar.a_fault_stands_at_the_first_misfit.Goals as goal

pub returns : goal.returns
returns c = λ text line column kind h. first_misfit text line column kind h
