-- What a text is read as: its tokens, its script, or its first fault.
use Rattle.std.specs.Prelude.{◌≡◌, ℕ, ◌+◌, ◌-◌, ◌==◌, IsTrue, List, [], ◌∷◌, length, take, drop, slice_index, Option, Some, None, Result, Ok, Err, if◌then◌else◌}
use Rattle.slee_value.specs.Name.{is_letter}
use Rattle.script_tree.specs.declared.symbol.Symbol.{Symbol}
use Rattle.script_tree.specs.declared.lexeme.Lexeme.{Lexeme}
use Rattle.script_tree.specs.declared.lexeme.Lexeme.TheVariants as t
use Rattle.script_tree.specs.declared.token.Token.{Token}
use Rattle.script_tree.specs.declared.token.TokenKind.{TokenKind}
use Rattle.script_tree.specs.declared.token.TokenKind.TheVariants as kinds
use Rattle.script_tree.specs.declared.scanning.Place.{Place}
use Rattle.script_tree.specs.declared.fault.SyntaxBad.{SyntaxBad}
use Rattle.script_tree.specs.declared.fault.SyntaxBad.TheVariants as bad
use Rattle.script_tree.specs.declared.fault.SyntaxFault.{SyntaxFault}
use Rattle.script_tree.specs.declared.fault.SyntaxFault.TheVariants as faults
use Rattle.script_tree.specs.Words.{symbol_text}
use Rattle.script_tree.specs.Tree.{Bytes, Statements}
use Rattle.script_tree.specs.Grammar.{Verdict, Fine, Faulty, script_of}
use Rattle.script_tree.specs.Spelling.{spell_statements, is_script}
use Rattle.script_tree.specs.Lexer.{Spot, spots_of, lexemes_of, is_bad}

-- the place of the byte behind this one
abbrev pub place_after : Place → ℕ → Place
place_after p b = if b == 10 then record { line = p.line + 1; column = 1 } else record { line = p.line; column = p.column + 1 }

-- the place behind these bytes
abbrev pub place_behind : Place → Bytes → Place
place_behind p [] = p
place_behind p (b ∷ bs) = place_behind (place_after p b) bs

-- lines and columns count from 1, columns in bytes
abbrev pub place_of : Bytes → ℕ → Place
place_of text at = place_behind (record { line = 1; column = 1 }) (take at text)

abbrev pub fault_in : Place → SyntaxBad → SyntaxFault
fault_in p kind = faults.At p.line p.column kind

abbrev pub fault_at : Bytes → ℕ → SyntaxBad → SyntaxFault
fault_at text at kind = fault_in (place_of text at) kind

-- a symbol in letters is a word
abbrev pub symbol_kind : Symbol → TokenKind
symbol_kind y = if is_letter (slice_index (symbol_text y) 0) then kinds.Word else kinds.Sign

abbrev pub token_kind : Lexeme → TokenKind
token_kind (t.Int n) = kinds.Int
token_kind (t.Name n) = kinds.Word
token_kind (t.Text n) = kinds.Text
token_kind (t.Symbol y) = symbol_kind y
token_kind t.Bad = kinds.Sign

abbrev pub token_of : Spot → Token
token_of spot = record { kind = token_kind spot.lexeme; start = spot.start; end = spot.stop }

abbrev pub with_token : Token → Result (List Token) SyntaxFault → Result (List Token) SyntaxFault
with_token token (Ok tokens) = Ok (token ∷ tokens)
with_token token (Err fault) = Err fault

-- the tokens, or the first place at which none begins
abbrev pub token_list : Bytes → List Spot → Result (List Token) SyntaxFault
token_list text [] = Ok []
token_list text (spot ∷ spots) = if is_bad spot.lexeme then Err (fault_at text spot.start bad.Token) else with_token (token_of spot) (token_list text spots)

abbrev pub tokens_of : Bytes → Result (List Token) SyntaxFault
tokens_of text = token_list text (spots_of text)

-- the same, where it is known whether a bad token is the last, and where it begins
abbrev pub token_answer : Bytes → Option ℕ → List Token → Result (List Token) SyntaxFault
token_answer text None tokens = Ok tokens
token_answer text (Some at) tokens = Err (fault_at text at bad.Token)

-- where a token begins, or the text ends
abbrev pub start_of : List Spot → ℕ → ℕ
start_of [] end = end
start_of (spot ∷ spots) end = spot.start

-- where a token begins, or the text ends
abbrev pub start_at : Option Token → ℕ → ℕ
start_at None end = end
start_at (Some token) end = token.start

-- where the token stands that has so many before it, or the text's end
abbrev pub place_of_token : Bytes → ℕ → Place
place_of_token text n = place_of text (start_of (drop n (spots_of text)) (length text))

abbrev pub read_by : Bytes → List Spot → Verdict → Result Statements SyntaxFault
read_by text spots (Fine script) = Ok script
read_by text spots (Faulty f) = Err (fault_in (place_of_token text (length spots - f.left)) f.kind)

-- the script that a text is, or the first token that can't continue one
abbrev pub script_read : Bytes → Result Statements SyntaxFault
script_read text = read_by text (spots_of text) (script_of (lexemes_of text))

-- a text writes a script: its tokens are the script's spelling
pub record Writes (text : Bytes) (script : Statements) : Type 0 where
  pub spelled : lexemes_of text ≡ spell_statements script
  pub whole : IsTrue (is_script script)

-- an error is the fault that is read, or memory ran out
abbrev pub IsFault : {A : Type 0} → Result A SyntaxFault → SyntaxFault → Type 0
IsFault reading faults.NoMemory = Unit {0}
IsFault reading (faults.At line column kind) = reading ≡ Err (faults.At line column kind)
