use Rattle.script_print.proofs.Viable.{continued}
use Rattle.script_print.proofs.grammar.what_stands_before_a_fault_can_be_continued.Goals as goal

pub returns : goal.returns
returns c = λ front rest kind good few h. continued front rest kind good few h
