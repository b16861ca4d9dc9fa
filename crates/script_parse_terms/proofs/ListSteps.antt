-- How the table goes through lists of arguments and fields.
use Rattle.std.proofs.Common.{◌≡◌, ◌<◌, ◌+◌, ◌-◌, ℕ, List, [], ◌∷◌, ◌++◌, length, false, refl, ap, arith, append_assoc, add-one}
use Rattle.std.specs.Prelude.{nat_le}
use Rattle.script_tree.specs.declared.symbol.Fixed.TheVariants as x
use Rattle.script_tree.specs.declared.symbol.Symbol.TheVariants as s
use Rattle.script_tree.specs.declared.lexeme.Lexeme.{Lexeme}
use Rattle.script_tree.specs.declared.lexeme.Lexeme.TheVariants as t
use Rattle.std.proofs.lemmas.Bool.Decides.{nat_tests}
use Rattle.script_tree.specs.declared.fault.SyntaxBad.TheVariants as bad
use Rattle.script_tree.specs.Tree.{Bytes, Expression}
use Rattle.script_tree.specs.Grammar.{Part, Item, AName, ATree, Next, Stops, Goes, Make, Level, One, Name, MoreFields, NextField, WithField, Arguments, NextArgument, WithArgument, with_field, with_argument, Verdict, Faulty, verdict_at, goes_on, then_parts, level_after, verdict}
use Rattle.script_parse_terms.specs.Takes.{starts}
use Rattle.script_parse_terms.specs.Lists.{with_fields, with_arguments}

pub skip_next_field : (ps : List Part) (is : List Item) (d : ℕ) (ts : List Lexeme) → starts x.Comma ts ≡ false → verdict (NextField ∷ ps) is d ts ≡ verdict ps is d ts
unfolding verdict
skip_next_field ps is d [] h = refl
skip_next_field ps is d (token ∷ ts) h = rw h refl

pub more_next_field : (ps : List Part) (is : List Item) (d : ℕ) (rest : List Lexeme) → verdict (NextField ∷ ps) is d (t.Symbol (s.Fixed x.Comma) ∷ rest) ≡ verdict (Name ∷ One x.Colon ∷ Level 8 ∷ Make WithField ∷ NextField ∷ ps) is d rest
unfolding verdict
more_next_field ps is d rest = refl

pub skip_next_argument : (ps : List Part) (is : List Item) (d : ℕ) (ts : List Lexeme) → starts x.Comma ts ≡ false → verdict (NextArgument ∷ ps) is d ts ≡ verdict ps is d ts
unfolding verdict
skip_next_argument ps is d [] h = refl
skip_next_argument ps is d (token ∷ ts) h = rw h refl

pub more_next_argument : (ps : List Part) (is : List Item) (d : ℕ) (rest : List Lexeme) → verdict (NextArgument ∷ ps) is d (t.Symbol (s.Fixed x.Comma) ∷ rest) ≡ verdict (Level 8 ∷ Make WithArgument ∷ NextArgument ∷ ps) is d rest
unfolding verdict
more_next_argument ps is d rest = refl

pub skip_fields : (ps : List Part) (is : List Item) (d : ℕ) (ts : List Lexeme) → starts x.OpenCurly ts ≡ false → verdict (MoreFields ∷ ps) is d ts ≡ verdict ps is d ts
unfolding verdict
skip_fields ps is d [] h = refl
skip_fields ps is d (token ∷ ts) h = rw h refl

pub more_fields : (ps : List Part) (is : List Item) (d : ℕ) (rest : List Lexeme) → d < 64 → verdict (MoreFields ∷ ps) is d (t.Symbol (s.Fixed x.OpenCurly) ∷ rest) ≡ verdict (Name ∷ One x.Colon ∷ Level 8 ∷ Make WithField ∷ NextField ∷ One x.CloseCurly ∷ ps) is (d + 1) rest
unfolding verdict
more_fields ps is d rest lt =
    let e : nat_le 64 d ≡ false = grind (arith, nat_tests) in
    rw e refl

pub deep_fields : (ps : List Part) (is : List Item) (d : ℕ) (ts rest : List Lexeme) → ts ≡ t.Symbol (s.Fixed x.OpenCurly) ∷ rest → d ≡ 64 → verdict (MoreFields ∷ ps) is d ts ≡ Faulty (record { left = length ts; kind = bad.Deep })
unfolding verdict
deep_fields ps is d ts rest h at = rw (h, at, add-one) refl

-- parts appended to a list
pub with_fields_more : (fs : List (Bytes × Expression)) (f : Bytes × Expression) (is : List Item) → with_fields (fs ++ f ∷ []) is ≡ with_field (ATree f.1 ∷ AName f.0 ∷ with_fields fs is)
with_fields_more [] f is = refl
with_fields_more (g ∷ fs) f is = with_fields_more fs f (with_field (ATree g.1 ∷ AName g.0 ∷ is))

pub with_arguments_more : (xs : List Expression) (a : Expression) (is : List Item) → with_arguments (xs ++ a ∷ []) is ≡ with_argument (ATree a ∷ with_arguments xs is)
with_arguments_more [] a is = refl
with_arguments_more (b ∷ xs) a is = with_arguments_more xs a (with_argument (ATree b ∷ is))

no_expression : (next : Next) (ps : List Part) (is : List Item) (d : ℕ) (token : Lexeme) (ts : List Lexeme) (continue : List Part → List Item → ℕ → Verdict) → verdict_at (goes_on (then_parts next (Make WithArgument ∷ NextArgument ∷ [])) ps is Stops) d token ts continue ≡ verdict_at (goes_on next (Make WithArgument ∷ NextArgument ∷ ps) is Stops) d token ts continue
no_expression Stops ps is d token ts continue = refl
no_expression (Goes qs js) ps is d token ts continue = ap (λ l. verdict_at (Goes l (js ++ is)) d token ts continue) (append_assoc qs (Make WithArgument ∷ NextArgument ∷ []) ps)

-- before a token that is no closing bracket an argument has to come
pub first_argument : (ps : List Part) (is : List Item) (d : ℕ) (ts : List Lexeme) → starts x.CloseRound ts ≡ false → verdict (Arguments ∷ One x.CloseRound ∷ ps) is d ts ≡ verdict (Level 8 ∷ Make WithArgument ∷ NextArgument ∷ One x.CloseRound ∷ ps) is d ts
unfolding verdict
first_argument ps is d [] h = refl
first_argument ps is d (token ∷ ts) h = rw h (no_expression (level_after 8 token) (One x.CloseRound ∷ ps) is d token ts (λ ps is d. verdict ps is d ts))

pub skip_arguments : (ps : List Part) (is : List Item) (d : ℕ) (ts rest : List Lexeme) → ts ≡ t.Symbol (s.Fixed x.CloseRound) ∷ rest → verdict (Arguments ∷ One x.CloseRound ∷ ps) is d ts ≡ verdict ps is (d - 1) rest
unfolding verdict
skip_arguments ps is d ts rest h = ap (verdict (Arguments ∷ One x.CloseRound ∷ ps) is d) h
