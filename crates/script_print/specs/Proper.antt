-- Tokens that a text can have.
use Rattle.std.specs.Prelude.{Bool, true}
use Rattle.script_tree.specs.declared.lexeme.Lexeme.{Lexeme}
use Rattle.script_tree.specs.declared.lexeme.Lexeme.TheVariants as t
use Rattle.script_tree.specs.Words.{is_identifier, is_literal, is_number}

-- the name, text or number of a token can be written
abbrev pub is_proper : Lexeme → Bool
is_proper (t.Int n) = is_number n
is_proper (t.Name n) = is_identifier n
is_proper (t.Text n) = is_literal n
is_proper _ = true
