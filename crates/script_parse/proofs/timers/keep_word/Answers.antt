use Rattle.script_parse.proofs.Parts.{keep_word_took, refuse_keep}
use Rattle.script_parse.proofs.timers.keep_word.Goals as goal

pub returns-in_default-clause-read : goal.returns-in_default-clause-read
returns-in_default-clause-read c = rw c.unexpected.ensures (refuse_keep _ _ c.in_default.ensures)

pub returns-clause-read : goal.returns-clause-read
returns-clause-read c = keep_word_took _ _ _ _ _ c.in-Some.ensures.1.1 c.in-Some.ensures.0
