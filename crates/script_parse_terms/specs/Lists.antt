-- Lists of arguments and fields.
use Rattle.std.specs.Prelude.{◌≡◌, ◌<◌, ℕ, Bool, true, false, IsTrue, List, [], ◌∷◌, ◌++◌, length}
use Rattle.script_tree.specs.declared.symbol.Fixed.TheVariants as x
use Rattle.script_tree.specs.declared.lexeme.Lexeme.{Lexeme}
use Rattle.script_tree.specs.Spelling.{fixed, spell_field}
use Rattle.script_tree.specs.Tree.{Bytes, Expression}
use Rattle.script_tree.specs.Grammar.{Part, Name, Level, Make, WithField, Item, One, verdict, AName, ATree, with_field, with_argument}

-- a field of an event that is fired was taken
pub record TookField (d : ℕ) (ts : List Lexeme) (f : Bytes × Expression) (good : Bool) (rest : List Lexeme) : Type 0 where
  pub shorter : length rest < length ts
  pub spelled : ts ≡ spell_field f ++ rest
  pub good_one : IsTrue good
  pub goes_on : (ps : List Part) (is : List Item) → verdict (Name ∷ One x.Colon ∷ Level 8 ∷ Make WithField ∷ ps) is d ts ≡ verdict ps (with_field (ATree f.1 ∷ AName f.0 ∷ is)) d rest

-- with these fields more
abbrev pub with_fields : List (Bytes × Expression) → List Item → List Item
with_fields [] is = is
with_fields (f ∷ fs) is = with_fields fs (with_field (ATree f.1 ∷ AName f.0 ∷ is))

-- with these arguments more
abbrev pub with_arguments : List Expression → List Item → List Item
with_arguments [] is = is
with_arguments (a ∷ more) is = with_arguments more (with_argument (ATree a ∷ is))

-- whether a list has an item
abbrev pub has_some : {A : Type 0} → List A → Bool
has_some [] = false
has_some (x ∷ xs) = true

-- each further field behind a comma
abbrev pub spell_further : List (Bytes × Expression) → List Lexeme
spell_further [] = []
spell_further (f ∷ more) = fixed x.Comma ∷ (spell_field f ++ spell_further more)

-- fields, without the brackets round them
abbrev pub spell_list : List (Bytes × Expression) → List Lexeme
spell_list [] = []
spell_list (f ∷ more) = spell_field f ++ spell_further more
