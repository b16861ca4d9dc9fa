-- What a reader of statements answers.
use Rattle.std.specs.Prelude.{◌≡◌, ◌≤◌, ◌<◌, ◌+◌, ℕ, Bool, IsTrue, false, List, [], ◌∷◌, ◌++◌, length, nat_le, Option, Some, None}
use Rattle.script_tree.specs.declared.symbol.Fixed.{Fixed}
use Rattle.script_tree.specs.declared.symbol.Fixed.TheVariants as x
use Rattle.script_tree.specs.declared.symbol.Symbol.TheVariants as s
use Rattle.script_tree.specs.declared.lexeme.Lexeme.{Lexeme}
use Rattle.script_tree.specs.declared.lexeme.Lexeme.TheVariants as t
use Rattle.script_parse.specs.declared.statement.BlockWord.{BlockWord}
use Rattle.script_parse.specs.declared.statement.BlockWord.TheVariants as words
use Rattle.script_parse_terms.specs.declared.refusal.ReadError.{ReadError}
use Rattle.script_parse_terms.specs.declared.refusal.ReadError.TheVariants as errors
use Rattle.script_parse_terms.specs.Takes.{begins}
use Rattle.script_tree.specs.Spelling.{braced, spell_statements}
use Rattle.script_tree.specs.Tree as tree
use Rattle.script_tree.specs.Tree.{Statements}
use Rattle.script_tree.specs.Grammar.{Part, Item, Faulty, verdict, stmt_after, Stmts, ABlock, Block, Making, make}

-- whether a statement begins here
abbrev pub starts_stmt : List Lexeme → Bool
starts_stmt [] = false
starts_stmt (token ∷ ts) = begins (stmt_after token)

-- statements were taken, so many of them
pub record TookStmts (more : List Part) (d : ℕ) (ts : List Lexeme) (body : Statements) (good : Bool) (rest : List Lexeme) : Type 0 where
  pub shorter : length rest ≤ length ts
  pub spelled : ts ≡ spell_statements body ++ rest
  pub good_one : IsTrue good
  pub goes_on : (ps : List Part) (is : List Item) → verdict (Stmts ∷ ps) (ABlock tree.Nothing ∷ is) d ts ≡ verdict (more ++ ps) (ABlock body ∷ is) d rest

-- the fault stands within the statements, whatever follows them
abbrev pub FailStmts : ℕ → List Lexeme → ReadError → Type 0
FailStmts d ts errors.NoMemory = Unit {0}
FailStmts d ts (errors.Misfit f) = (ps : List Part) (is : List Item) → verdict (Stmts ∷ ps) (ABlock tree.Nothing ∷ is) d ts ≡ Faulty f

-- a block was taken, whatever is made of it
pub record TookBlock (d : ℕ) (ts : List Lexeme) (body : Statements) (good : Bool) (rest : List Lexeme) : Type 0 where
  pub shorter : length rest < length ts
  pub spelled : ts ≡ braced (spell_statements body) ++ rest
  pub good_one : IsTrue good
  pub room : IsTrue (nat_le (d + 1) 64)
  pub goes_on : (m : Making) (ps : List Part) (is : List Item) → verdict (Block m ∷ ps) is d ts ≡ verdict ps (make m (ABlock body ∷ is)) d rest

-- the fault stands within the block, whatever is made of it
abbrev pub FailsBlock : ℕ → List Lexeme → ReadError → Type 0
FailsBlock d ts errors.NoMemory = Unit {0}
FailsBlock d ts (errors.Misfit f) = (m : Making) (ps : List Part) (is : List Item) → verdict (Block m ∷ ps) is d ts ≡ Faulty f

-- the first word of a statement with a block
abbrev pub block_word_fixed : Fixed → Option BlockWord
block_word_fixed x.If = Some words.If
block_word_fixed x.While = Some words.While
block_word_fixed x.For = Some words.For
block_word_fixed _ = None

-- the same of a token
abbrev pub block_word_at : Lexeme → Option BlockWord
block_word_at (t.Symbol (s.Fixed y)) = block_word_fixed y
block_word_at _ = None

-- the same of the first of some tokens
abbrev pub block_word_in : List Lexeme → Option BlockWord
block_word_in [] = None
block_word_in (token ∷ ts) = block_word_at token

-- the word itself
abbrev pub fixed_of : BlockWord → Fixed
fixed_of words.If = x.If
fixed_of words.While = x.While
fixed_of words.For = x.For
