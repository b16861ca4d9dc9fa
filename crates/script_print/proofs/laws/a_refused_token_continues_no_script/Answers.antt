use Rattle.script_print.proofs.Refused.{no_script}
use Rattle.script_print.proofs.laws.a_refused_token_continues_no_script.Goals as goal

pub returns : goal.returns
returns c = λ front token rest kind h script more good e. no_script front token rest kind h script more good e
