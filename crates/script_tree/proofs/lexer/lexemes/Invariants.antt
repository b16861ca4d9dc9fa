use Rattle.std.proofs.Common.{◌≡◌, ◌++◌, length, map}
use Rattle.script_tree.specs.Lexer.{lexeme_of, lexemes_of}
use Rattle.script_tree.proofs.lexer.lexemes.Given as goal

-- what was read, and what is left, are the whole
abbrev pub invariant-tokens : goal.invariant-tokens
invariant-tokens l = l.lexemes.items ++ map lexeme_of l.scan ≡ lexemes_of l.text

abbrev pub decreases-tokens : goal.decreases-tokens
decreases-tokens l = length l.scan
