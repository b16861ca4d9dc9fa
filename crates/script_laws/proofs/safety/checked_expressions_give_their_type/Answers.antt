use Rattle.script_laws.proofs.SafeExpressions.{eval_safe}
use Rattle.script_laws.proofs.SafeDoing.{expression_yields}
use Rattle.script_laws.proofs.safety.checked_expressions_give_their_type.Goals as goal

pub returns : goal.returns
returns c = λ m s scope at x one st e fits. eval_safe m scope one.kind one.term st (expression_yields m s scope at x one e) fits
