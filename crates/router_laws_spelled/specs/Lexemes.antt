-- When the numbers and texts of tokens have spellings.
use Rattle.std.specs.Prelude.{◌≡◌, true, pos}
use Rattle.script_tree.specs.declared.lexeme.Lexeme.{Lexeme}
use Rattle.script_tree.specs.declared.lexeme.Lexeme.TheVariants as t
use Rattle.router_state.specs.Fits.{is_i64, is_text}

abbrev pub LexemeSpelled : Lexeme → Type 0
LexemeSpelled (t.Int n) = is_i64 (pos n) ≡ true
LexemeSpelled (t.Text text) = is_text text ≡ true
LexemeSpelled _ = Unit {0}
