-- How an expression is read from its first operand on: the operators that follow, from the lowest level up.
use Rattle.std.specs.Prelude.{◌≡◌, ◌≤◌, ◌+◌, ◌-◌, ℕ, zero, suc, true, ◌&&◌, nat_le, nat_lt, List, [], ◌∷◌, ◌++◌, length, Option, Some, None, if◌then◌else◌}
use Rattle.script_tree.specs.declared.symbol.Operator.TheVariants as o
use Rattle.script_tree.specs.declared.symbol.Fixed.TheVariants as x
use Rattle.script_tree.specs.declared.symbol.Symbol.{Symbol}
use Rattle.script_tree.specs.declared.symbol.Symbol.TheVariants as s
use Rattle.script_tree.specs.declared.lexeme.Lexeme.{Lexeme}
use Rattle.script_tree.specs.declared.lexeme.Lexeme.TheVariants as t
use Rattle.script_tree.specs.declared.tree.Prefix.{Prefix}
use Rattle.script_tree.specs.declared.tree.Prefix.TheVariants as prefixes
use Rattle.script_tree.specs.Tree.{Expression}
use Rattle.script_tree.specs.Spelling.{chain_level, spell_expression}
use Rattle.script_tree.specs.Grammar.{Part, Level, More, Item, ATree, Faulty, verdict, level_of}
use Rattle.script_parse_terms.specs.declared.refusal.ReadError.{ReadError}
use Rattle.script_parse_terms.specs.declared.refusal.ReadError.TheVariants as errors
use Rattle.script_parse_terms.specs.Takes.{Took, fits_at}

-- operators of so many levels above a level, the lowest first
abbrev pub mores : ℕ → ℕ → List Part
mores zero m = []
mores (suc k) m = More (m + 1) ∷ mores k (m + 1)

-- the level of the operator that a token is, 0 for every other token
abbrev pub joining_at : Lexeme → ℕ
joining_at (t.Symbol (s.Operator op)) = level_of op
joining_at _ = 0

-- the same of the first of some tokens
abbrev pub joining : List Lexeme → ℕ
joining [] = 0
joining (token ∷ ts) = joining_at token

-- the same, where it is above level m and not above level n
abbrev pub next_level : ℕ → ℕ → List Lexeme → Option ℕ
next_level m n ts = if nat_lt m (joining ts) && nat_le (joining ts) n then Some (joining ts) else None

-- what stands before an operand of a level up to n: `-` is of level 1, `not` of level 6
abbrev pub prefix_among : ℕ → Symbol → Option Prefix
prefix_among n (s.Operator o.Minus) = if nat_le 1 n then Some prefixes.Negative else None
prefix_among n (s.Fixed x.Not) = if nat_le 6 n then Some prefixes.Not else None
prefix_among n _ = None

abbrev pub prefix_up_to : ℕ → Lexeme → Option Prefix
prefix_up_to n (t.Symbol y) = prefix_among n y
prefix_up_to n _ = None

-- the same of the first of some tokens
abbrev pub prefix_next : ℕ → List Lexeme → Option Prefix
prefix_next n [] = None
prefix_next n (token ∷ ts) = prefix_up_to n token

-- the front of an expression up to level n was taken: operators of the levels above m may follow
pub record TookOperand (n m d : ℕ) (ts : List Lexeme) (a : Expression) (rest : List Lexeme) : Type 0 where
  pub order : m ≤ n
  pub took : Took (Level n) (mores (n - m) m) d ts (ATree a ∷ []) (fits_at m d a) rest

-- operators of level n were taken behind an expression, with their right operands; further ones may follow
pub record TookChain (more : List Part) (n m d : ℕ) (ts : List Lexeme) (a b : Expression) (rest : List Lexeme) : Type 0 where
  pub shorter : length rest ≤ length ts
  pub spelled : spell_expression a ++ ts ≡ spell_expression b ++ rest
  pub good_one : fits_at (chain_level n) d a ≡ true → fits_at m d b ≡ true
  pub goes_on : (ps : List Part) (is : List Item) → verdict (More n ∷ ps) (ATree a ∷ is) d ts ≡ verdict (more ++ ps) (ATree b ∷ is) d rest

-- the fault stands in one of these operands
abbrev pub FailsChain : ℕ → ℕ → List Lexeme → Expression → ReadError → Type 0
FailsChain n d ts a errors.NoMemory = Unit {0}
FailsChain n d ts a (errors.Misfit f) = (ps : List Part) (is : List Item) → verdict (More n ∷ ps) (ATree a ∷ is) d ts ≡ Faulty f
