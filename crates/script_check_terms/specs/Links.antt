-- What is made of an expression that isn't `none`, with the tokens before what stands behind it.
use Rattle.std.specs.Prelude.{◌≡◌, ◌+◌, ℕ, false, Result, Ok, IfOk}
use Rattle.script_tree.specs.Tree.{Expression}
use Rattle.script_types.specs.Elaboration.{expression_of}
use Rattle.script_types.specs.Scopes.{Scope}
use Rattle.script_types.specs.TokenCounts.{tokens_in}
use Rattle.script_types.specs.TypingExpressions.{Setting, is_nothing}
use Rattle.script_check_terms.specs.declared.expression.TypedTerm.{TypedTerm}
use Rattle.script_check_terms.specs.declared.fault.ScriptFault.{ScriptFault}
use Rattle.script_check_terms.specs.Answers.{Gives}
use Rattle.script_check_terms.specs.TypedTerms.{typed_of}

pub record Makes (s : Setting) (scope : Scope) (at : ℕ) (x : Expression) (m : TypedTerm) : Type 0 where
  pub something : is_nothing x ≡ false
  pub made : expression_of s scope at x ≡ Ok (typed_of m)
  pub end : m.end ≡ at + tokens_in x

abbrev pub GivesEnded : Result TypedTerm ScriptFault → Setting → Scope → ℕ → Expression → Type 0
GivesEnded result s scope at x = Gives typed_of result (expression_of s scope at x) × IfOk result (λ m. m.end ≡ at + tokens_in x)
