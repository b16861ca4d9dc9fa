-- The priority of a child that is created, which may be left out.
use Rattle.std.proofs.Common.{◌≡◌, ℕ, List, [], ◌∷◌, false, refl}
use Rattle.script_tree.specs.declared.symbol.Fixed.TheVariants as x
use Rattle.script_tree.specs.declared.symbol.Symbol.TheVariants as s
use Rattle.script_tree.specs.declared.lexeme.Lexeme.{Lexeme}
use Rattle.script_tree.specs.declared.lexeme.Lexeme.TheVariants as t
use Rattle.script_tree.specs.Grammar.{Part, Item, Make, Level, MorePriority, WithPriority, verdict}
use Rattle.script_parse_terms.specs.Takes.{starts}

pub skip_priority : (ps : List Part) (is : List Item) (d : ℕ) (ts : List Lexeme) → starts x.Priority ts ≡ false → verdict (MorePriority ∷ ps) is d ts ≡ verdict ps is d ts
unfolding verdict
skip_priority ps is d [] h = refl
skip_priority ps is d (token ∷ ts) h = rw h refl

pub more_priority : (ps : List Part) (is : List Item) (d : ℕ) (rest : List Lexeme) → verdict (MorePriority ∷ ps) is d (t.Symbol (s.Fixed x.Priority) ∷ rest) ≡ verdict (Level 8 ∷ Make WithPriority ∷ ps) is d rest
unfolding verdict
more_priority ps is d rest = refl
