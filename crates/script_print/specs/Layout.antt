-- The text that a script is printed as, laid out for people.
use Rattle.std.specs.Prelude.{ℕ, zero, suc, ◌+◌, ◌-◌, Bool, true, false, List, [], ◌∷◌, ◌++◌, if◌then◌else◌}
use Rattle.std.specs.Fmt.{decimal}
use Rattle.script_tree.specs.declared.symbol.Fixed.{Fixed}
use Rattle.script_tree.specs.declared.symbol.Fixed.TheVariants as x
use Rattle.script_tree.specs.declared.symbol.Symbol.{Symbol}
use Rattle.script_tree.specs.declared.symbol.Symbol.TheVariants as s
use Rattle.script_tree.specs.declared.lexeme.Lexeme.{Lexeme}
use Rattle.script_tree.specs.declared.lexeme.Lexeme.TheVariants as t
use Rattle.script_tree.specs.Words.{symbol_text, quoted, is_number, is_identifier, is_literal}
use Rattle.script_tree.specs.Tree.{Bytes, Statements}
use Rattle.script_tree.specs.Spelling.{spell_statements}
use Rattle.script_print.specs.declared.manner.Manner.{Manner}
use Rattle.script_print.specs.declared.manner.Manner.TheVariants as m

-- the bytes of a token
abbrev pub lexeme_text : Lexeme → Bytes
lexeme_text (t.Int n) = decimal n
lexeme_text (t.Name n) = n
lexeme_text (t.Text n) = 34 ∷ (quoted n ++ 34 ∷ [])
lexeme_text (t.Symbol y) = symbol_text y
lexeme_text t.Bad = []

-- how a token stands among others
abbrev pub fixed_manner : Fixed → Manner
fixed_manner x.OpenRound = m.Opening
fixed_manner x.Dot = m.Dot
fixed_manner x.CloseRound = m.Closing
fixed_manner x.Comma = m.Closing
fixed_manner x.Colon = m.Closing
fixed_manner x.Semicolon = m.End
fixed_manner x.OpenCurly = m.BlockStart
fixed_manner x.CloseCurly = m.BlockEnd
fixed_manner x.Else = m.Otherwise
fixed_manner x.Attr = m.Function
fixed_manner x.Masked = m.Function
fixed_manner x.Table = m.Function
fixed_manner x.Profile = m.Function
fixed_manner x.HasProfile = m.Function
fixed_manner x.Count = m.Function
fixed_manner x.Priority = m.Function
fixed_manner _ = m.Plain

abbrev pub symbol_manner : Symbol → Manner
symbol_manner (s.Fixed y) = fixed_manner y
symbol_manner (s.Function y) = m.Function
symbol_manner _ = m.Plain

abbrev pub manner : Lexeme → Manner
manner (t.Symbol y) = symbol_manner y
manner _ = m.Plain

-- nothing stands before `.`, `;`, `,`, `:` and `)`, behind `(` and `.`, and between a function and its `(`
abbrev pub is_tight : Manner → Manner → Bool
is_tight _ m.Dot = true
is_tight _ m.Closing = true
is_tight _ m.End = true
is_tight m.Opening _ = true
is_tight m.Dot _ = true
is_tight m.Function m.Opening = true
is_tight _ _ = false

-- a line ends behind `;` and `{`, before `}`, and behind `}` but before `else`
abbrev pub ends_line : Manner → Manner → Bool
ends_line m.BlockEnd m.Otherwise = false
ends_line m.End _ = true
ends_line m.BlockStart _ = true
ends_line m.BlockEnd _ = true
ends_line _ m.BlockEnd = true
ends_line _ _ = false

-- how many braces are open behind a token, where so many were open before it
abbrev pub nesting : ℕ → Manner → ℕ
nesting n m.BlockStart = n + 1
nesting n m.BlockEnd = n - 1
nesting n _ = n

-- how many are open round the line that begins with a token
abbrev pub margin : ℕ → Manner → ℕ
margin n m.BlockEnd = n - 1
margin n _ = n

-- two blanks for each open brace
abbrev pub indent : ℕ → Bytes
indent zero = []
indent (suc n) = 32 ∷ 32 ∷ indent n

-- what stands between two tokens, where so many braces are open behind the first
abbrev pub gap : ℕ → Manner → Manner → Bytes
gap n a b = if is_tight a b then [] else if ends_line a b then 10 ∷ indent (margin n b) else 32 ∷ []

-- what stands behind a token, where so many braces are open
abbrev pub behind : ℕ → Manner → List Lexeme → Bytes
behind n a [] = 10 ∷ []
behind n a (b ∷ ts) = gap n a (manner b) ++ (lexeme_text b ++ behind (nesting n (manner b)) (manner b) ts)

-- tokens with what stands between them
abbrev pub laid_out : List Lexeme → Bytes
laid_out [] = []
laid_out (a ∷ ts) = lexeme_text a ++ behind (nesting 0 (manner a)) (manner a) ts

-- the text of a script
abbrev pub printed : Statements → Bytes
printed script = laid_out (spell_statements script)

-- whether a token of this value can stand in a text
abbrev pub can_be_written : Lexeme → Bool
can_be_written (t.Int n) = is_number n
can_be_written (t.Name n) = is_identifier n
can_be_written (t.Text n) = is_literal n
can_be_written (t.Symbol y) = true
can_be_written t.Bad = false
