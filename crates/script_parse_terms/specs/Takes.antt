-- What a reader of a part of the grammar answers.
use Rattle.std.specs.Prelude.{◌≡◌, ◌≤◌, ◌<◌, ℕ, Bool, IsTrue, true, false, ◌&&◌, nat_le, List, [], ◌∷◌, ◌++◌, length, Option, Some, None, ◌==◌, if◌then◌else◌}
use Rattle.script_tree.specs.declared.symbol.Fixed.{Fixed}
use Rattle.script_tree.specs.declared.symbol.Operator.{Operator}
use Rattle.script_tree.specs.declared.symbol.Symbol.{Symbol}
use Rattle.script_tree.specs.declared.symbol.Symbol.TheVariants as s
use Rattle.script_tree.specs.declared.lexeme.Lexeme.{Lexeme}
use Rattle.script_tree.specs.declared.lexeme.Lexeme.TheVariants as t
use Rattle.script_tree.specs.declared.tree.Prefix.{Prefix}
use Rattle.script_tree.specs.declared.fault.SyntaxBad.{SyntaxBad}
use Rattle.script_tree.specs.declared.fault.SyntaxBad.TheVariants as bad
use Rattle.script_parse_terms.specs.declared.refusal.ReadError.{ReadError}
use Rattle.script_parse_terms.specs.declared.refusal.ReadError.TheVariants as errors
use Rattle.script_tree.specs.Tree.{Expression}
use Rattle.script_tree.specs.Grammar.{Part, Level, Make, Item, AName, AText, AWho, AnOver, ATree, AStatement, ABlock, Next, Stops, Goes, One, Faulty, verdict, after, is_fixed, kind_of, prefix_of, level_of, Making, make}
use Rattle.script_tree.specs.Spelling.{level, fits, spell_who, spell_over, spell_expression, spell_statement, spell_statements}

-- the fault stands within the part, whatever follows it
abbrev pub Fails : Part → ℕ → List Lexeme → ReadError → Type 0
Fails part d ts errors.NoMemory = Unit {0}
Fails part d ts (errors.Misfit f) = (ps : List Part) (is : List Item) → verdict (part ∷ ps) is d ts ≡ Faulty f

-- how an item is spelled
abbrev pub spell_item : Item → List Lexeme
spell_item (AName n) = t.Name n ∷ []
spell_item (AText n) = t.Text n ∷ []
spell_item (AWho who) = spell_who who
spell_item (AnOver over) = spell_over over
spell_item (ATree a) = spell_expression a
spell_item (AStatement y) = spell_statement y
spell_item (ABlock ys) = spell_statements ys

-- how the item that was read is spelled
abbrev pub spell_read : List Item → List Lexeme
spell_read [] = []
spell_read (item ∷ is) = spell_item item

-- a part was taken: these items are read in its place, and the further parts are still to come
pub record Took (part : Part) (more : List Part) (d : ℕ) (ts : List Lexeme) (read : List Item) (good : Bool) (rest : List Lexeme) : Type 0 where
  pub shorter : length rest < length ts
  pub spelled : ts ≡ spell_read read ++ rest
  pub good_one : IsTrue good
  pub goes_on : (ps : List Part) (is : List Item) → verdict (part ∷ ps) is d ts ≡ verdict (more ++ ps) (read ++ is) d rest

-- what a token leaves of a part, and what it is itself
abbrev pub parts_of : Next → List Part
parts_of Stops = []
parts_of (Goes qs js) = qs

-- and what the token itself is
abbrev pub items_of : Next → List Item
items_of Stops = []
items_of (Goes qs js) = js

-- whether a token begins the part
abbrev pub begins : Next → Bool
begins Stops = false
begins (Goes qs js) = true

-- the first token of a part was taken
pub record Begun (part : Part) (first : Lexeme) (d : ℕ) (ts behind : List Lexeme) : Type 0 where
  pub shorter : length behind < length ts
  pub spelled : ts ≡ first ∷ behind
  pub goes_on : (ps : List Part) (is : List Item) → verdict (part ∷ ps) is d ts ≡ verdict (parts_of (after part first) ++ ps) (items_of (after part first) ++ is) d behind

-- a sign that changes how many brackets are open
pub record Turned (y : Fixed) (d e : ℕ) (ts rest : List Lexeme) : Type 0 where
  pub shorter : length rest < length ts
  pub spelled : ts ≡ t.Symbol (s.Fixed y) ∷ rest
  pub inside : d ≤ 64
  pub outside : e ≤ 64
  pub goes_on : (ps : List Part) (is : List Item) → verdict (One y ∷ ps) is d ts ≡ verdict ps is e rest

-- why the first token can't come
abbrev pub kind_at : List Lexeme → SyntaxBad
kind_at [] = bad.End
kind_at (t ∷ ts) = kind_of t

-- whether an expression fits where this level may stand
abbrev pub fits_at : ℕ → ℕ → Expression → Bool
fits_at n d a = nat_le (level a) n && fits d a

-- what stands before an operand of a level, and what joins operands of a level
abbrev pub prefix_at : ℕ → Lexeme → Option Prefix
prefix_at n (t.Symbol y) = prefix_of n y
prefix_at n _ = None

-- the same of the first of some tokens
abbrev pub prefix_in : ℕ → List Lexeme → Option Prefix
prefix_in n [] = None
prefix_in n (token ∷ ts) = prefix_at n token

-- the operator of a level that a symbol is
abbrev pub operator_of : ℕ → Symbol → Option Operator
operator_of n (s.Operator op) = if level_of op == n then Some op else None
operator_of n _ = None

-- the same of a token
abbrev pub operator_at : ℕ → Lexeme → Option Operator
operator_at n (t.Symbol y) = operator_of n y
operator_at n _ = None

-- the same of the first of some tokens
abbrev pub operator_in : ℕ → List Lexeme → Option Operator
operator_in n [] = None
operator_in n (token ∷ ts) = operator_at n token

-- whether tokens begin with this word or sign
abbrev pub starts : Fixed → List Lexeme → Bool
starts y [] = false
starts y (token ∷ ts) = is_fixed y token

-- parts were taken, with these tokens: what is read changes the items so, and further parts are still to come
pub record TookAll (parts more : List Part) (d e : ℕ) (ts tokens : List Lexeme) (set : List Item → List Item) (good : Bool) (rest : List Lexeme) : Type 0 where
  pub shorter : length rest ≤ length ts
  pub spelled : ts ≡ tokens ++ rest
  pub good_one : IsTrue good
  pub goes_on : (ps : List Part) (is : List Item) → verdict (parts ++ ps) is d ts ≡ verdict (more ++ ps) (set is) e rest

-- the fault stands within these parts, whatever follows them
abbrev pub FailsAll : List Part → ℕ → List Lexeme → ReadError → Type 0
FailsAll parts d ts errors.NoMemory = Unit {0}
FailsAll parts d ts (errors.Misfit f) = (ps : List Part) (is : List Item) → verdict (parts ++ ps) is d ts ≡ Faulty f

-- an expression was taken, with a word or sign behind it, whether or not a thing is made of the expression before that
pub record TookBefore (y : Fixed) (d : ℕ) (ts : List Lexeme) (a : Expression) (good : Bool) (rest : List Lexeme) : Type 0 where
  pub shorter : length rest < length ts
  pub spelled : ts ≡ spell_expression a ++ t.Symbol (s.Fixed y) ∷ rest
  pub good_one : IsTrue good
  pub goes_on : (ps : List Part) (is : List Item) → verdict (Level 8 ∷ One y ∷ ps) is d ts ≡ verdict ps (ATree a ∷ is) d rest
  pub makes : (m : Making) (ps : List Part) (is : List Item) → verdict (Level 8 ∷ Make m ∷ One y ∷ ps) is d ts ≡ verdict ps (make m (ATree a ∷ is)) d rest

-- the fault stands in the expression or at what has to come behind it
abbrev pub FailsBefore : Fixed → ℕ → List Lexeme → ReadError → Type 0
FailsBefore y d ts errors.NoMemory = Unit {0}
FailsBefore y d ts (errors.Misfit f) = ((ps : List Part) (is : List Item) → verdict (Level 8 ∷ One y ∷ ps) is d ts ≡ Faulty f) × ((m : Making) (ps : List Part) (is : List Item) → verdict (Level 8 ∷ Make m ∷ One y ∷ ps) is d ts ≡ Faulty f)
