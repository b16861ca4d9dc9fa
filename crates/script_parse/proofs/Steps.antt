-- How the table goes through statements and blocks.
use Rattle.std.proofs.Common.{◌≡◌, ◌<◌, ◌+◌, ℕ, List, [], ◌∷◌, ◌++◌, length, true, false, refl, ap, arith, append_assoc, add-one}
use Rattle.std.specs.Prelude.{nat_le}
use Rattle.script_tree.specs.declared.symbol.Fixed.TheVariants as x
use Rattle.script_tree.specs.declared.symbol.Symbol.TheVariants as s
use Rattle.script_tree.specs.declared.lexeme.Lexeme.{Lexeme}
use Rattle.script_tree.specs.declared.lexeme.Lexeme.TheVariants as t
use Rattle.std.proofs.lemmas.Bool.Decides.{nat_tests}
use Rattle.script_tree.specs.declared.fault.SyntaxBad.TheVariants as bad
use Rattle.script_tree.specs.Tree as tree
use Rattle.script_tree.specs.Tree.{Bytes, Expression}
use Rattle.script_tree.specs.Grammar.{Part, Item, ABlock, Next, Stops, Goes, Make, Making, One, Block, Stmt, Stmts, MoreIf, Otherwise, Adding, Verdict, Faulty, verdict_at, goes_on, then_parts, eat, stmt_after, verdict}
use Rattle.script_parse_terms.specs.Takes.{kind_at, starts, begins}
use Rattle.script_parse.specs.Bodies.{starts_stmt}

pub skip_else : (ps : List Part) (is : List Item) (d : ℕ) (ts : List Lexeme) → starts x.Else ts ≡ false → verdict (MoreIf ∷ ps) is d ts ≡ verdict ps is d ts
unfolding verdict
skip_else ps is d [] h = refl
skip_else ps is d (token ∷ ts) h = rw h refl

pub more_else : (ps : List Part) (is : List Item) (d : ℕ) (rest : List Lexeme) → verdict (MoreIf ∷ ps) is d (t.Symbol (s.Fixed x.Else) ∷ rest) ≡ verdict (Block Otherwise ∷ ps) is d rest
unfolding verdict
more_else ps is d rest = refl

-- statements in a block or a script
pub more_stmts : (ps : List Part) (is : List Item) (d : ℕ) (ts : List Lexeme) → starts_stmt ts ≡ true → verdict (Stmts ∷ ps) is d ts ≡ verdict (Stmt ∷ Make Adding ∷ Stmts ∷ ps) is d ts
unfolding verdict
more_stmts ps is d [] h = cc
more_stmts ps is d (token ∷ ts) h = more_on (stmt_after token) ps is d token ts (λ ps is d. verdict ps is d ts) h
  where
    more_on : (next : Next) (ps : List Part) (is : List Item) (d : ℕ) (token : Lexeme) (ts : List Lexeme) (continue : List Part → List Item → ℕ → Verdict) → begins next ≡ true → verdict_at (goes_on (then_parts next (Make Adding ∷ Stmts ∷ [])) ps is (eat ps is token)) d token ts continue ≡ verdict_at (goes_on next (Make Adding ∷ Stmts ∷ ps) is Stops) d token ts continue
    more_on Stops ps is d token ts continue h = cc
    more_on (Goes qs js) ps is d token ts continue h = ap (λ l. verdict_at (Goes l (js ++ is)) d token ts continue) (append_assoc qs (Make Adding ∷ Stmts ∷ []) ps)

pub skip_stmts : (ps : List Part) (is : List Item) (d : ℕ) (ts : List Lexeme) → starts_stmt ts ≡ false → verdict (Stmts ∷ ps) is d ts ≡ verdict ps is d ts
unfolding verdict
skip_stmts ps is d [] h = refl
skip_stmts ps is d (token ∷ ts) h = skip_on (stmt_after token) ps is d token ts (λ ps is d. verdict ps is d ts) h
  where
    skip_on : (next : Next) (ps : List Part) (is : List Item) (d : ℕ) (token : Lexeme) (ts : List Lexeme) (continue : List Part → List Item → ℕ → Verdict) → begins next ≡ false → verdict_at (goes_on (then_parts next (Make Adding ∷ Stmts ∷ [])) ps is (eat ps is token)) d token ts continue ≡ verdict_at (eat ps is token) d token ts continue
    skip_on Stops ps is d token ts continue h = refl
    skip_on (Goes qs js) ps is d token ts continue h = cc

pub block_opens : (m : Making) (ps : List Part) (is : List Item) (d : ℕ) (rest : List Lexeme) → d < 64 → verdict (Block m ∷ ps) is d (t.Symbol (s.Fixed x.OpenCurly) ∷ rest) ≡ verdict (Stmts ∷ Make m ∷ One x.CloseCurly ∷ ps) (ABlock tree.Nothing ∷ is) (d + 1) rest
unfolding verdict
block_opens m ps is d rest lt =
    let e : nat_le 64 d ≡ false = grind (arith, nat_tests) in
    rw e refl

pub block_deep : (m : Making) (ps : List Part) (is : List Item) (d : ℕ) (ts rest : List Lexeme) → ts ≡ t.Symbol (s.Fixed x.OpenCurly) ∷ rest → d ≡ 64 → verdict (Block m ∷ ps) is d ts ≡ Faulty (record { left = length ts; kind = bad.Deep })
unfolding verdict
block_deep m ps is d ts rest h at = rw (h, at, add-one) refl

pub block_refused : (m : Making) (ps : List Part) (is : List Item) (d : ℕ) (ts : List Lexeme) → starts x.OpenCurly ts ≡ false → verdict (Block m ∷ ps) is d ts ≡ Faulty (record { left = length ts; kind = kind_at ts })
unfolding verdict
block_refused m ps is d [] h = refl
block_refused m ps is d (token ∷ ts) h = rw (h, add-one) refl
