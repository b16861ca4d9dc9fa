-- Tokens before a fault can be continued to a script.
use Rattle.std.proofs.Common.{◌≡◌, ◌≤◌, ◌+◌, ℕ, List, [], ◌∷◌, ◌++◌, length, length-append, Bool, true, false, cond, refl, sym, ap, ◌∙◌, arith}
use Rattle.std.specs.List.{list_all}
use Rattle.script_tree.specs.declared.lexeme.Lexeme.{Lexeme}
use Rattle.script_tree.specs.declared.fault.SyntaxBad.{SyntaxBad}
use Rattle.script_tree.specs.declared.fault.SyntaxBad.TheVariants as bad
use Rattle.script_tree.specs.Tree as tree
use Rattle.script_tree.specs.Tree.{Statements}
use Rattle.script_tree.specs.Grammar.{Part, Item, ABlock, Next, Stops, Goes, Stmts, Verdict, Fine, Faulty, eat, turn, too_deep, depth_by, verdict_at, verdict, script_of}
use Rattle.script_print.proofs.Expressions.{and_parts}
use Rattle.script_print.specs.Proper.{is_proper}
use Rattle.script_print.specs.Beginnings.{BeginsScript, open_behind}
use Rattle.script_print.proofs.Steps.{and_join}
use Rattle.script_print.proofs.Ends.{complete}
use Rattle.script_print.proofs.Growth.{Ready, Leaves, eats}
use Rattle.script_print.proofs.GrammarScripts.{script_spelled}

abbrev pub fault : ℕ → SyntaxBad → Verdict
fault n kind = Faulty (record { left = n; kind = kind })

abbrev pub left_in : Verdict → ℕ
left_in (Fine script) = 0
left_in (Faulty f) = f.left

abbrev pub kind_in : Verdict → SyntaxBad
kind_in (Fine script) = bad.End
kind_in (Faulty f) = f.kind

-- tokens behind these that make them a script
record Continued (continue : List Lexeme → Verdict) : Type 0 where
  more : List Lexeme
  script : Statements
  good : list_all is_proper more ≡ true
  done : continue more ≡ Fine script

far : (front rest : List Lexeme) → length (front ++ rest) + 1 ≡ length rest → ⊥
far front rest e = absurd (omega (arith, e, length-append front rest))

viable_depth : (b : Bool) (v : Verdict) (front rest : List Lexeme) (kind : SyntaxBad) → cond b (fault (length (front ++ rest) + 1) bad.Deep) v ≡ fault (length rest) kind → (b ≡ false) × (v ≡ fault (length rest) kind)
viable_depth true v front rest kind h = absurd (far front rest (ap left_in h))
viable_depth false v front rest kind h = (refl, h)

viable_at : (next : Next) (d : ℕ) (token : Lexeme) (front rest : List Lexeme) (kind : SyntaxBad) → Leaves next → verdict_at next d token (front ++ rest) (λ ps is d. verdict ps is d (front ++ rest)) ≡ fault (length rest) kind → ((ps : List Part) (is : List Item) → Ready ps → verdict ps is (depth_by (turn token) d) (front ++ rest) ≡ fault (length rest) kind → Continued (λ more. verdict ps is (depth_by (turn token) d) (front ++ more))) → Continued (λ more. verdict_at next d token (front ++ more) (λ ps is d. verdict ps is d (front ++ more)))
viable_at Stops d token front rest kind left h go = absurd (far front rest (ap left_in h))
viable_at (Goes ps is) d token front rest kind left h go =
    let p = viable_depth (too_deep (turn token) d) (verdict ps is (depth_by (turn token) d) (front ++ rest)) front rest kind h in
    let c = go ps is left p.1 in
    record {
      more = c.more;
      script = c.script;
      good = c.good;
      done = ap (λ b. cond b (fault (length (front ++ c.more) + 1) bad.Deep) (verdict ps is (depth_by (turn token) d) (front ++ c.more))) p.0 ∙ c.done;
    }

viable : (front rest : List Lexeme) (ps : List Part) (is : List Item) (d : ℕ) (kind : SyntaxBad) → Ready ps → open_behind d front ≤ 63 → verdict ps is d (front ++ rest) ≡ fault (length rest) kind → Continued (λ more. verdict ps is d (front ++ more))
unfolding verdict
viable [] rest ps is d kind r le h = let c = complete ps false is d r.stand r.lie le in record { more = c.tokens; script = c.script; good = c.good; done = c.done }
viable (token ∷ front) rest ps is d kind r le h =
    viable_at (eat ps is token) d token front rest kind (eats ps is token r) h (λ ps is r h. viable front rest ps is (depth_by (turn token) d) kind r le h)

all_joined : (xs ys : List Lexeme) → list_all is_proper xs ≡ true → list_all is_proper ys ≡ true → list_all is_proper (xs ++ ys) ≡ true
all_joined [] ys h k = k
all_joined (y ∷ xs) ys h k = let p = and_parts (is_proper y) (list_all is_proper xs) h in and_join (is_proper y) (list_all is_proper (xs ++ ys)) p.0 (all_joined xs ys p.1 k)

pub continued : (front rest : List Lexeme) (kind : SyntaxBad) → list_all is_proper front ≡ true → open_behind 0 front ≤ 63 → script_of (front ++ rest) ≡ fault (length rest) kind → BeginsScript front
continued front rest kind good le h =
    let c = viable front rest (Stmts ∷ []) (ABlock tree.Nothing ∷ []) 0 kind (record { stand = refl; lie = refl }) le h in
    let p = script_spelled (front ++ c.more) c.script (all_joined front c.more good c.good) c.done in
    record { script = c.script; more = c.more; whole = p.1; spelled = sym p.0 }
