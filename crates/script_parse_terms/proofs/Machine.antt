-- Steps of the grammar's table.
use Rattle.std.proofs.Common.{◌≡◌, ℕ, List, [], ◌∷◌, ◌++◌, length, true, false, refl, ap, ◌∙◌, arith, add-one}
use Rattle.script_tree.specs.declared.symbol.Fixed.{Fixed}
use Rattle.script_tree.specs.declared.lexeme.Lexeme.{Lexeme}
use Rattle.script_tree.specs.declared.lexeme.Lexeme.TheVariants as t
use Rattle.script_parse_terms.specs.declared.refusal.ReadError.TheVariants as errors
use Rattle.script_tree.specs.Grammar.{Part, Name, Text, Item, Next, Stops, Goes, One, Make, Level, verdict, verdict_at, make, after, optional, goes_on, turn, Stays, Stmt, stmt_after, prim_after}
use Rattle.script_parse_terms.specs.Takes.{Fails, kind_at, Begun, parts_of, items_of, begins, starts}

-- what has been read is made up
pub made : (m : _) (ps : List Part) (is : List Item) (d : ℕ) (ts : List Lexeme) → verdict (Make m ∷ ps) is d ts ≡ verdict ps (make m is) d ts
unfolding verdict
made m ps is d [] = refl
made m ps is d (token ∷ ts) = refl

-- a part that can't begin here, and may not be left out
pub refuse : (part : Part) (d : ℕ) (ts : List Lexeme) → optional part ≡ false → ((token : Lexeme) (rest : List Lexeme) → ts ≡ token ∷ rest → after part token ≡ Stops) → Fails part d ts (errors.Misfit (record { left = length ts; kind = kind_at ts }))
unfolding verdict
refuse part d [] opt h = λ ps is. rw opt refl
refuse part d (token ∷ rest) opt h = λ ps is. rw (opt, h token rest refl, add-one) refl

pub refuse_fixed : (y : Fixed) (d : ℕ) (ts : List Lexeme) → starts y ts ≡ false → Fails (One y) d ts (errors.Misfit (record { left = length ts; kind = kind_at ts }))
unfolding verdict
refuse_fixed y d [] h = λ ps is. refl
refuse_fixed y d (token ∷ rest) h = λ ps is. rw (h, add-one) refl

-- a token of another kind
pub refuse_name : (d : ℕ) (ts : List Lexeme) → ((n : List ℕ) (rest : List Lexeme) → ts ≡ t.Name n ∷ rest → ⊥) → Fails Name d ts (errors.Misfit (record { left = length ts; kind = kind_at ts }))
unfolding verdict
refuse_name d [] h = λ ps is. refl
refuse_name d (t.Name n ∷ rest) h = absurd (h n rest refl)
refuse_name d (t.Int n ∷ rest) h = λ ps is. rw add-one refl
refuse_name d (t.Text n ∷ rest) h = λ ps is. rw add-one refl
refuse_name d (t.Symbol y ∷ rest) h = λ ps is. rw add-one refl
refuse_name d (t.Bad ∷ rest) h = λ ps is. rw add-one refl

pub refuse_text : (d : ℕ) (ts : List Lexeme) → ((n : List ℕ) (rest : List Lexeme) → ts ≡ t.Text n ∷ rest → ⊥) → Fails Text d ts (errors.Misfit (record { left = length ts; kind = kind_at ts }))
unfolding verdict
refuse_text d [] h = λ ps is. refl
refuse_text d (t.Text n ∷ rest) h = absurd (h n rest refl)
refuse_text d (t.Int n ∷ rest) h = λ ps is. rw add-one refl
refuse_text d (t.Name n ∷ rest) h = λ ps is. rw add-one refl
refuse_text d (t.Symbol y ∷ rest) h = λ ps is. rw add-one refl
refuse_text d (t.Bad ∷ rest) h = λ ps is. rw add-one refl

begun_at : (next : Next) (ps : List Part) (is : List Item) (d : ℕ) (token : Lexeme) (ts : List Lexeme) → turn token ≡ Stays → begins next ≡ true → verdict_at (goes_on next ps is Stops) d token ts (λ ps is d. verdict ps is d ts) ≡ verdict (parts_of next ++ ps) (items_of next ++ is) d ts
begun_at Stops ps is d token ts h k = cc
begun_at (Goes qs js) ps is d token ts h k = rw h refl

-- a statement begins with its first token
pub stmt_begun : (token : Lexeme) (d : ℕ) (ts behind : List Lexeme) → ts ≡ token ∷ behind → turn token ≡ Stays → begins (stmt_after token) ≡ true → Begun Stmt token d ts behind
unfolding verdict
stmt_begun token d ts behind e h k = record { shorter = omega (arith, ap length e); spelled = e; goes_on = λ ps is. ap (verdict (Stmt ∷ ps) is d) e ∙ begun_at (stmt_after token) ps is d token behind h k }

-- and so does an expression without operators
pub prim_begun : (token : Lexeme) (d : ℕ) (ts behind : List Lexeme) → ts ≡ token ∷ behind → turn token ≡ Stays → begins (prim_after token) ≡ true → Begun (Level 0) token d ts behind
unfolding verdict
prim_begun token d ts behind e h k = record { shorter = omega (arith, ap length e); spelled = e; goes_on = λ ps is. ap (verdict (Level 0 ∷ ps) is d) e ∙ begun_at (prim_after token) ps is d token behind h k }
