-- Functions of an expression, cut where the expression stands.
use Rattle.std.specs.Prelude.{◌≡◌, ◌<◌, ◌+◌, ℕ, Bool, true, List, [], ◌∷◌, ◌++◌, length, Result, Ok, Err}
use Rattle.std.specs.Borrow.{Bor}
use Rattle.script_tree.specs.declared.symbol.Fixed.TheVariants as x
use Rattle.script_tree.specs.declared.symbol.Symbol.TheVariants as s
use Rattle.script_tree.specs.declared.lexeme.Lexeme.{Lexeme}
use Rattle.script_tree.specs.declared.lexeme.Lexeme.TheVariants as t
use Rattle.script_tree.specs.declared.tree.Query.{Query}
use Rattle.script_tree.specs.Tree.{Bytes, Expression, Ask}
use Rattle.script_tree.specs.Words.{is_identifier, is_literal}
use Rattle.script_tree.specs.Spelling.{fixed, before_asked, behind_asked, query_fits}
use Rattle.script_tree.specs.Grammar.{Part, Name, Text, Level, Make, Making, make, Item, AName, AText, ATree, One, Faulty, verdict, Asking, AskingMasked, AskingAttribute, AskingProfile, AskingHasProfile}
use Rattle.script_parse_terms.specs.declared.refusal.ReadError.{ReadError}
use Rattle.script_parse_terms.specs.declared.refusal.ReadError.TheVariants as errors
use Rattle.script_parse_terms.specs.declared.query.QueryWord.{QueryWord}
use Rattle.script_parse_terms.specs.declared.query.QueryWord.TheVariants as w
use Rattle.script_parse_terms.specs.declared.query.QueryHead.{QueryHead}
use Rattle.script_parse_terms.specs.declared.query.QueryHead.TheVariants as h

-- the first word
abbrev pub word_token : QueryWord → Lexeme
word_token (w.Plain f) = t.Symbol (s.Function f)
word_token w.Masked = fixed x.Masked
word_token w.Attribute = fixed x.Attr
word_token w.Profile = fixed x.Profile
word_token w.HasProfile = fixed x.HasProfile

-- what stands in the brackets, and the closing one
abbrev pub word_parts : QueryWord → List Part
word_parts (w.Plain f) = Level 8 ∷ Make (Asking f) ∷ One x.CloseRound ∷ []
word_parts w.Masked = Text ∷ One x.Comma ∷ Level 8 ∷ Make AskingMasked ∷ One x.CloseRound ∷ []
word_parts w.Attribute = Level 8 ∷ One x.Comma ∷ Name ∷ Make AskingAttribute ∷ One x.CloseRound ∷ []
word_parts w.Profile = Name ∷ One x.Comma ∷ Level 8 ∷ One x.Comma ∷ Name ∷ Make AskingProfile ∷ One x.CloseRound ∷ []
word_parts w.HasProfile = Name ∷ One x.Comma ∷ Level 8 ∷ Make AskingHasProfile ∷ One x.CloseRound ∷ []

-- what comes behind the expression
abbrev pub parts_behind : QueryHead → List Part
parts_behind (h.Plain f) = Make (Asking f) ∷ One x.CloseRound ∷ []
parts_behind (h.Masked event) = Make AskingMasked ∷ One x.CloseRound ∷ []
parts_behind h.Attribute = One x.Comma ∷ Name ∷ Make AskingAttribute ∷ One x.CloseRound ∷ []
parts_behind (h.Profile table) = One x.Comma ∷ Name ∷ Make AskingProfile ∷ One x.CloseRound ∷ []
parts_behind (h.HasProfile table) = Make AskingHasProfile ∷ One x.CloseRound ∷ []

-- what was read before the expression
abbrev pub items_before : QueryHead → List Item
items_before (h.Plain f) = []
items_before (h.Masked event) = AText event ∷ []
items_before h.Attribute = []
items_before (h.Profile table) = AName table ∷ []
items_before (h.HasProfile table) = AName table ∷ []

-- the tokens between the opening bracket and the expression, and all before the expression
abbrev pub tokens_inside : QueryHead → List Lexeme
tokens_inside (h.Plain f) = []
tokens_inside (h.Masked event) = t.Text event ∷ fixed x.Comma ∷ []
tokens_inside h.Attribute = []
tokens_inside (h.Profile table) = t.Name table ∷ fixed x.Comma ∷ []
tokens_inside (h.HasProfile table) = t.Name table ∷ fixed x.Comma ∷ []

abbrev pub word_of : QueryHead → QueryWord
word_of (h.Plain f) = w.Plain f
word_of (h.Masked event) = w.Masked
word_of h.Attribute = w.Attribute
word_of (h.Profile table) = w.Profile
word_of (h.HasProfile table) = w.HasProfile

abbrev pub tokens_before : QueryHead → List Lexeme
tokens_before head = word_token (word_of head) ∷ fixed x.OpenRound ∷ tokens_inside head

-- signs among parts, as tokens
abbrev pub signs_of : List Part → List Lexeme
signs_of [] = []
signs_of (One y ∷ ps) = fixed y ∷ signs_of ps
signs_of (_ ∷ ps) = signs_of ps

-- whether the names and texts before the expression are ones of a script
abbrev pub head_fits : QueryHead → Bool
head_fits (h.Plain f) = true
head_fits (h.Masked event) = is_literal event
head_fits h.Attribute = true
head_fits (h.Profile table) = is_identifier table
head_fits (h.HasProfile table) = is_identifier table

-- a function was taken up to its expression
pub record TookHead (d : ℕ) (ts : List Lexeme) (head : QueryHead) (rest : List Lexeme) : Type 0 where
  pub shorter : length rest < length ts
  pub spelled : ts ≡ tokens_before head ++ rest
  pub room : d < 64
  pub good_one : head_fits head ≡ true
  pub goes_on : (ps : List Part) (is : List Item) → verdict (Level 0 ∷ ps) is d ts ≡ verdict (Level 8 ∷ (parts_behind head ++ ps)) (items_before head ++ is) (d + 1) rest

-- what comes behind the expression was taken
pub record TookTail (d : ℕ) (head : QueryHead) (ts : List Lexeme) (query : Query) (rest : List Lexeme) : Type 0 where
  pub shorter : length rest < length ts
  pub front : before_asked query ≡ tokens_before head
  pub spelled : ts ≡ behind_asked query ++ rest
  pub good_one : head_fits head ≡ true → query_fits query ≡ true
  pub goes_on : (a : Expression) (ps : List Part) (is : List Item) → verdict (parts_behind head ++ ps) (ATree a ∷ (items_before head ++ is)) (d + 1) ts ≡ verdict ps (ATree (Ask query a) ∷ is) d rest

-- the fault stands behind the expression
abbrev pub FailsTail : ℕ → QueryHead → List Lexeme → ReadError → Type 0
FailsTail d head ts errors.NoMemory = Unit {0}
FailsTail d head ts (errors.Misfit f) = (a : Expression) (ps : List Part) (is : List Item) → verdict (parts_behind head ++ ps) (ATree a ∷ (items_before head ++ is)) (d + 1) ts ≡ Faulty f

-- a name before a closing bracket was taken, whatever is made of it
pub record TookNamed (before : List Part) (d e : ℕ) (ts : List Lexeme) (name : Bytes) (rest : List Lexeme) : Type 0 where
  pub shorter : length rest < length ts
  pub spelled : ts ≡ signs_of before ++ t.Name name ∷ fixed x.CloseRound ∷ rest
  pub good_one : is_identifier name ≡ true
  pub goes_on : (m : Making) (ps : List Part) (is : List Item) → verdict (before ++ (Name ∷ Make m ∷ One x.CloseRound ∷ ps)) is d ts ≡ verdict ps (make m (AName name ∷ is)) e rest

-- the fault stands before the name, at it or behind it
abbrev pub FailsNamed : List Part → ℕ → List Lexeme → ReadError → Type 0
FailsNamed before d ts errors.NoMemory = Unit {0}
FailsNamed before d ts (errors.Misfit f) = (m : Making) (ps : List Part) (is : List Item) → verdict (before ++ (Name ∷ Make m ∷ One x.CloseRound ∷ ps)) is d ts ≡ Faulty f

-- the reader of these signs, a name and the closing bracket, behind which d brackets are open
abbrev pub ReadsNamed : List Part → ℕ → List Lexeme → Result (Bytes × Bor (List Lexeme)) ReadError → Type 0
ReadsNamed before d ts (Ok x) = TookNamed before (d + 1) d ts x.0 x.1.now
ReadsNamed before d ts (Err e) = FailsNamed before (d + 1) ts e
