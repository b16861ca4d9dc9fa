-- Simple statements: those without a block.
use Rattle.std.specs.Prelude.{Bool, true, false, List, [], ◌∷◌}
use Rattle.script_tree.specs.declared.symbol.Fixed.{Fixed}
use Rattle.script_tree.specs.declared.symbol.Fixed.TheVariants as x
use Rattle.script_tree.specs.declared.symbol.Symbol.TheVariants as s
use Rattle.script_tree.specs.declared.lexeme.Lexeme.{Lexeme}
use Rattle.script_tree.specs.declared.lexeme.Lexeme.TheVariants as t

-- a statement that begins with this word has a block
abbrev pub has_block : Fixed → Bool
has_block x.If = true
has_block x.While = true
has_block x.For = true
has_block _ = false

-- the same of a token
abbrev pub opens_block : Lexeme → Bool
opens_block (t.Symbol (s.Fixed y)) = has_block y
opens_block _ = false

-- a statement with a block begins here
abbrev pub starts_block : List Lexeme → Bool
starts_block [] = false
starts_block (token ∷ ts) = opens_block token
