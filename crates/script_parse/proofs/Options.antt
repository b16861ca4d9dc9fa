-- How the table goes through parts that may be left out.
use Rattle.std.proofs.Common.{◌≡◌, ℕ, List, [], ◌∷◌, ◌++◌, Option, Some, None, false, refl, sym, ap, ◌∙◌, append_assoc, append-nil}
use Rattle.script_tree.specs.declared.symbol.Fixed.TheVariants as x
use Rattle.script_tree.specs.declared.symbol.Symbol.TheVariants as s
use Rattle.script_tree.specs.declared.lexeme.Lexeme.{Lexeme}
use Rattle.script_tree.specs.declared.lexeme.Lexeme.TheVariants as t
use Rattle.slee_value.specs.declared.keep.Keep.{Keep}
use Rattle.script_tree.specs.Tree as tree
use Rattle.script_tree.specs.Tree.{Bytes, Expression}
use Rattle.script_tree.specs.Grammar.{Part, Item, AName, AStatement, Make, Level, One, Name, Text, KeepWord, MoreService, ForService, MoreResult, WithResult, MoreRepeat, Repeating, MoreKeep, with_result, verdict}
use Rattle.script_parse_terms.specs.Takes.{starts}
use Rattle.script_parse_terms.specs.Lists.{with_fields, with_arguments}
use Rattle.script_parse.specs.Options.{with_service, result_set, repeat_set, keep_set}

-- an optional part whose first word doesn't come
pub skip_service : (ps : List Part) (is : List Item) (d : ℕ) (ts : List Lexeme) → starts x.For ts ≡ false → verdict (MoreService ∷ ps) is d ts ≡ verdict ps is d ts
unfolding verdict
skip_service ps is d [] h = refl
skip_service ps is d (token ∷ ts) h = rw h refl

pub more_service : (ps : List Part) (is : List Item) (d : ℕ) (rest : List Lexeme) → verdict (MoreService ∷ ps) is d (t.Symbol (s.Fixed x.For) ∷ rest) ≡ verdict (Text ∷ Make ForService ∷ ps) is d rest
unfolding verdict
more_service ps is d rest = refl

pub skip_result : (ps : List Part) (is : List Item) (d : ℕ) (ts : List Lexeme) → starts x.As ts ≡ false → verdict (MoreResult ∷ ps) is d ts ≡ verdict ps is d ts
unfolding verdict
skip_result ps is d [] h = refl
skip_result ps is d (token ∷ ts) h = rw h refl

pub more_result : (ps : List Part) (is : List Item) (d : ℕ) (rest : List Lexeme) → verdict (MoreResult ∷ ps) is d (t.Symbol (s.Fixed x.As) ∷ rest) ≡ verdict (Name ∷ Make WithResult ∷ ps) is d rest
unfolding verdict
more_result ps is d rest = refl

pub skip_repeat : (ps : List Part) (is : List Item) (d : ℕ) (ts : List Lexeme) → starts x.Every ts ≡ false → verdict (MoreRepeat ∷ ps) is d ts ≡ verdict ps is d ts
unfolding verdict
skip_repeat ps is d [] h = refl
skip_repeat ps is d (token ∷ ts) h = rw h refl

pub more_repeat : (ps : List Part) (is : List Item) (d : ℕ) (rest : List Lexeme) → verdict (MoreRepeat ∷ ps) is d (t.Symbol (s.Fixed x.Every) ∷ rest) ≡ verdict (Level 8 ∷ One x.Times ∷ Level 8 ∷ Make Repeating ∷ ps) is d rest
unfolding verdict
more_repeat ps is d rest = refl

pub skip_keep : (ps : List Part) (is : List Item) (d : ℕ) (ts : List Lexeme) → starts x.Keep ts ≡ false → verdict (MoreKeep ∷ ps) is d ts ≡ verdict ps is d ts
unfolding verdict
skip_keep ps is d [] h = refl
skip_keep ps is d (token ∷ ts) h = rw h refl

pub more_keep : (ps : List Part) (is : List Item) (d : ℕ) (rest : List Lexeme) → verdict (MoreKeep ∷ ps) is d (t.Symbol (s.Fixed x.Keep) ∷ rest) ≡ verdict (KeepWord ∷ ps) is d rest
unfolding verdict
more_keep ps is d rest = refl

-- a statement with all that was added to it
pub fired_with_fields : (fs gs : List (Bytes × Expression)) (event : Bytes) (a : Expression) (service : Option Bytes) (is : List Item) → with_fields fs (AStatement (tree.Activity (tree.Fire event a service gs)) ∷ is) ≡ AStatement (tree.Activity (tree.Fire event a service (gs ++ fs))) ∷ is
fired_with_fields [] gs event a service is = ap (λ l. AStatement (tree.Activity (tree.Fire event a service l)) ∷ is) (sym (append-nil gs))
fired_with_fields (f ∷ fs) gs event a service is = fired_with_fields fs (gs ++ f ∷ []) event a service is ∙ ap (λ l. AStatement (tree.Activity (tree.Fire event a service l)) ∷ is) (append_assoc gs (f ∷ []) fs)

pub fired_with_all : (fs : List (Bytes × Expression)) (event : Bytes) (a : Expression) (service : Option Bytes) (is : List Item) → with_fields fs (with_service service (AStatement (tree.Activity (tree.Fire event a None [])) ∷ is)) ≡ AStatement (tree.Activity (tree.Fire event a service fs)) ∷ is
fired_with_all fs event a None is = fired_with_fields fs [] event a None is
fired_with_all fs event a (Some service) is = fired_with_fields fs [] event a (Some service) is

pub called_with_arguments : (xs bs : List Expression) (child method : Bytes) (result : Option Bytes) (is : List Item) → with_arguments xs (AStatement (tree.Entity (tree.Call child method bs result)) ∷ is) ≡ AStatement (tree.Entity (tree.Call child method (bs ++ xs) result)) ∷ is
called_with_arguments [] bs child method result is = ap (λ l. AStatement (tree.Entity (tree.Call child method l result)) ∷ is) (sym (append-nil bs))
called_with_arguments (a ∷ xs) bs child method result is = called_with_arguments xs (bs ++ a ∷ []) child method result is ∙ ap (λ l. AStatement (tree.Entity (tree.Call child method l result)) ∷ is) (append_assoc bs (a ∷ []) xs)

pub called_with_all : (xs : List Expression) (child method : Bytes) (result : Option Bytes) (is : List Item) → result_set result (with_arguments xs (AStatement (tree.Entity (tree.Call child method [] None)) ∷ is)) ≡ AStatement (tree.Entity (tree.Call child method xs result)) ∷ is
called_with_all xs child method None is = called_with_arguments xs [] child method None is
called_with_all xs child method (Some name) is = ap (λ l. with_result (AName name ∷ l)) (called_with_arguments xs [] child method None is)

pub timer_with_all : (name : Bytes) (a b : Expression) (r : Option (Expression × Expression)) (k : Option Keep) (is : List Item) → keep_set k (repeat_set r (AStatement (tree.Timer (record { name = name; activity = a; start = b; repeat = None; keep = None })) ∷ is)) ≡ AStatement (tree.Timer (record { name = name; activity = a; start = b; repeat = r; keep = k })) ∷ is
timer_with_all name a b None None is = refl
timer_with_all name a b None (Some k) is = refl
timer_with_all name a b (Some r) None is = refl
timer_with_all name a b (Some r) (Some k) is = refl
