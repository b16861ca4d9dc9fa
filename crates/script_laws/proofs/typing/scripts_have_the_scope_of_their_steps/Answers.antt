use Rattle.script_types.specs.ElaborationOfStatements.{statements_made}
use Rattle.script_types.specs.TypingStatements.{check_statements}
use Rattle.script_laws.proofs.TypedAlike.{same_is}
use Rattle.script_laws.proofs.TypedStatements.{scope_behind, statements_same}
use Rattle.script_laws.proofs.typing.scripts_have_the_scope_of_their_steps.Goals as goal

pub returns : goal.returns
returns c = λ s scope at ys. same_is scope_behind (statements_made s scope at ys) (check_statements s scope at ys) (statements_same s scope at ys)
