-- What is told of a text that is no script.
use Rattle.std.specs.Prelude.{◌≡◌, ℕ, ◌-◌, List, Option, Some, None, length, slice_get}
use Rattle.script_tree.specs.Tree.{Bytes}
use Rattle.script_tree.specs.declared.lexeme.Lexeme.{Lexeme}
use Rattle.script_tree.specs.declared.lexeme.Lexeme.TheVariants as t
use Rattle.script_tree.specs.declared.fault.Misfit.{Misfit}
use Rattle.script_tree.specs.declared.fault.SyntaxBad.{SyntaxBad}
use Rattle.script_tree.specs.Grammar.{Verdict, Fine, Faulty}
use Rattle.script_tree.specs.Lexer.{lexemes_of}
use Rattle.script_tree.specs.Reading.{place_of_token}
use Rattle.script_hints.specs.declared.syntax.Found.{Found}
use Rattle.script_hints.specs.declared.syntax.Found.TheVariants as found
use Rattle.script_hints.specs.declared.syntax.SyntaxHint.{SyntaxHint}
use Rattle.script_hints.specs.Following.{groups_at, choices_at, is_reserved}

abbrev pub found_of : Lexeme → Found
found_of (t.Int n) = found.Number
found_of (t.Name n) = found.Name
found_of (t.Text n) = found.Text
found_of (t.Symbol y) = found.Symbol y
found_of t.Bad = found.Bad

-- what stands at a place: a token, or the text's end
abbrev pub found_in : Option Lexeme → Found
found_in (Some token) = found_of token
found_in None = found.End

-- how many tokens stand before a misfit
abbrev pub tokens_before : Bytes → Misfit → ℕ
tokens_before text f = length (lexemes_of text) - f.left

-- What is told of a text with these tokens, so many of them before the fault: its place and kind, what stands there, and what may stand there.
pub record TellsAt (text : Bytes) (tokens : List Lexeme) (before : ℕ) (kind : SyntaxBad) (hint : SyntaxHint) : Type 0 where
  pub place : hint.place ≡ place_of_token text before
  pub kind_of : hint.kind ≡ kind
  pub found : hint.found ≡ found_in (slice_get tokens before)
  pub groups : hint.expected.groups.items ≡ groups_at text before
  pub choices : hint.expected.choices.items ≡ choices_at text before (groups_at text before)
  pub reserved : hint.is_reserved ≡ is_reserved text before hint.found

-- What is told of a text with a misfit.
abbrev pub Tells : Bytes → Misfit → SyntaxHint → Type 0
Tells text f hint = TellsAt text (lexemes_of text) (tokens_before text f) f.kind hint

-- Something is told exactly where the text is no script.
abbrev pub Hints : Bytes → Verdict → Option SyntaxHint → Type 0
Hints text (Fine script) None = Unit {0}
Hints text (Fine script) (Some hint) = ⊥
Hints text (Faulty f) None = ⊥
Hints text (Faulty f) (Some hint) = Tells text f hint
