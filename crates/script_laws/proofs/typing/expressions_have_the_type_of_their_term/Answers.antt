use Rattle.script_types.specs.Elaboration.{expression_of}
use Rattle.script_types.specs.TypingExpressions.{check_expression}
use Rattle.script_laws.proofs.TypedAlike.{same_is}
use Rattle.script_laws.proofs.TypedLeaves.{kind_of}
use Rattle.script_laws.proofs.TypedExpressions.{expression_same}
use Rattle.script_laws.proofs.typing.expressions_have_the_type_of_their_term.Goals as goal

pub returns : goal.returns
returns c = λ s scope at x. same_is kind_of (expression_of s scope at x) (check_expression s scope at x) (expression_same s scope at x)
