-- What scripts begin with, and where a text stops being the beginning of one.
use Rattle.std.specs.Prelude.{◌≡◌, ◌≤◌, ℕ, false, IsTrue, List, [], ◌∷◌, ◌++◌, length}
use Rattle.script_tree.specs.declared.lexeme.Lexeme.{Lexeme}
use Rattle.script_tree.specs.declared.lexeme.Lexeme.TheVariants as t
use Rattle.script_tree.specs.declared.scanning.Place.{Place}
use Rattle.script_tree.specs.declared.fault.SyntaxBad.{SyntaxBad}
use Rattle.script_tree.specs.declared.fault.SyntaxBad.TheVariants as bad
use Rattle.script_tree.specs.Tree.{Bytes, Statements}
use Rattle.script_tree.specs.Spelling.{spell_statements, is_script}
use Rattle.script_tree.specs.Grammar.{Opens, turn, depth_by}
use Rattle.script_tree.specs.Lexer.{is_bad, lexemes_of}
use Rattle.script_tree.specs.Reading.{place_of_token}

-- some script begins with these tokens
pub record BeginsScript (front : List Lexeme) : Type 0 where
  pub script : Statements
  pub more : List Lexeme
  pub whole : IsTrue (is_script script)
  pub spelled : spell_statements script ≡ front ++ more

-- how many brackets are open behind tokens, where so many are before them
abbrev pub open_behind : ℕ → List Lexeme → ℕ
open_behind d [] = d
open_behind d (token ∷ ts) = open_behind (depth_by (turn token) d) ts

-- no script begins with the tokens in front and the one behind them; or, where none is behind them, no script is these tokens
abbrev pub NoneGoesOn : List Lexeme → List Lexeme → Type 0
NoneGoesOn front [] = (script : Statements) → IsTrue (is_script script) → spell_statements script ≡ front → ⊥
NoneGoesOn front (token ∷ rest) = BeginsScript (front ++ token ∷ []) → ⊥

-- a first token, and what it is
abbrev pub StartsWith : (Lexeme → Type 0) → List Lexeme → Type 0
StartsWith P [] = ⊥
StartsWith P (token ∷ rest) = P token

-- why nothing goes on: the tokens end; no token begins; a bracket would open where 64 are open; or some token comes
abbrev pub Explains : SyntaxBad → ℕ → List Lexeme → Type 0
Explains bad.End d rest = rest ≡ []
Explains bad.Token d rest = StartsWith (λ token. token ≡ t.Bad) rest
Explains bad.Deep d rest = (64 ≤ d) × StartsWith (λ token. turn token ≡ Opens) rest
Explains bad.Expected d rest = StartsWith (λ token. is_bad token ≡ false) rest

-- the first place of a text which no script goes on past, and why: where at most 63 brackets are open there, a script begins with the tokens before it
pub record FirstMisfit (text : Bytes) (place : Place) (kind : SyntaxBad) : Type 0 where
  pub front : List Lexeme
  pub rest : List Lexeme
  pub divided : lexemes_of text ≡ front ++ rest
  pub here : place_of_token text (length front) ≡ place
  pub begins : open_behind 0 front ≤ 63 → BeginsScript front
  pub ends : NoneGoesOn front rest
  pub why : Explains kind (open_behind 0 front) rest
