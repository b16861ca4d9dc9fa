use Rattle.signal_script.proofs.WordLemmas.{first_word_cut, behind_shorter}
use Rattle.signal_script.proofs.line.split_word.Goals as goal

pub returns-clause-words : goal.returns-clause-words
returns-clause-words c = first_word_cut c.args.text.now c.split_once.result c.split_once.ensures.cases

pub returns-clause-shorter : goal.returns-clause-shorter
returns-clause-shorter c = behind_shorter c.args.text.now c.split_once.result c.split_once.ensures.cases
