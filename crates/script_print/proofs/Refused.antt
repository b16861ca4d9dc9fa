-- A token at which reading stops continues no script.
use Rattle.std.proofs.Common.{◌≡◌, ◌≤◌, ◌+◌, ℕ, List, [], ◌∷◌, ◌++◌, length, length-append, Bool, true, false, cond, refl, sym, ap, subst, ◌∙◌, arith}
use Rattle.script_tree.specs.declared.lexeme.Lexeme.{Lexeme}
use Rattle.script_tree.specs.declared.fault.SyntaxBad.{SyntaxBad}
use Rattle.script_tree.specs.declared.fault.SyntaxBad.TheVariants as bad
use Rattle.script_tree.specs.Tree.{Statements}
use Rattle.script_tree.specs.Spelling.{spell_statements, is_script}
use Rattle.script_tree.specs.Grammar.{Part, Item, Next, Stops, Goes, Verdict, Fine, Faulty, eat, turn, too_deep, depth_by, kind_of, at_end, verdict_at, verdict, script_of, optional, passed}
use Rattle.script_print.proofs.Scripts.{script_again}

abbrev fault : ℕ → SyntaxBad → Verdict
fault n kind = Faulty (record { left = n; kind = kind })

abbrev left_in : Verdict → ℕ
left_in (Fine script) = 0
left_in (Faulty f) = f.left

abbrev reason : Verdict → SyntaxBad
reason (Fine script) = bad.End
reason (Faulty f) = f.kind

-- no more tokens than these are left at a fault
abbrev Within : ℕ → Verdict → Type 0
Within n (Fine script) = Unit {0}
Within n (Faulty f) = f.left ≤ n

weaker : (v : Verdict) (m n : ℕ) → m ≤ n → Within m v → Within n v
weaker (Fine script) m n le w = tt
weaker (Faulty f) m n le w = omega (arith, le, w)

choice : (b : Bool) (x y : Verdict) (n : ℕ) → Within n x → Within n y → Within n (cond b x y)
choice true x y n w v = w
choice false x y n w v = v

within_end : (ps : List Part) (is : List Item) → Within 0 (at_end ps is)
within_end [] is = tt
within_end (p ∷ ps) is = choice (optional p) (at_end ps (passed p is)) (fault 0 bad.End) 0 (within_end ps (passed p is)) (omega arith)

few_at : (next : Next) (d : ℕ) (token : Lexeme) (ts : List Lexeme) (continue : List Part → List Item → ℕ → Verdict) → ((ps : List Part) (is : List Item) (d : ℕ) → Within (length ts) (continue ps is d)) → Within (length (token ∷ ts)) (verdict_at next d token ts continue)
few_at Stops d token ts continue few = omega arith
few_at (Goes ps is) d token ts continue few =
    choice (too_deep (turn token) d) (fault (length ts + 1) bad.Deep) (continue ps is (depth_by (turn token) d)) (length (token ∷ ts)) (omega arith)
    (weaker (continue ps is (depth_by (turn token) d)) (length ts) (length (token ∷ ts)) (omega arith) (few ps is (depth_by (turn token) d)))

few : (ts : List Lexeme) (ps : List Part) (is : List Item) (d : ℕ) → Within (length ts) (verdict ps is d ts)
unfolding verdict
few [] ps is d = within_end ps is
few (token ∷ ts) ps is d = few_at (eat ps is token) d token ts (λ ps is d. verdict ps is d ts) (λ ps is d. few ts ps is d)

-- a fault at a first token stands there whatever follows
first_choice : (b : Bool) (v w : Verdict) (n m : ℕ) (kind : SyntaxBad) → Within n v → cond b (fault (n + 1) bad.Deep) v ≡ fault (n + 1) kind → cond b (fault (m + 1) bad.Deep) w ≡ fault (m + 1) kind
first_choice true v w n m kind within h = let e : bad.Deep ≡ kind = ap reason h in ap (fault (m + 1)) e
first_choice false v w n m kind within h = let le : n + 1 ≤ n = subst (Within n) h within in absurd (omega (arith, le))

first_local : (next : Next) (d : ℕ) (token : Lexeme) (rest more : List Lexeme) (kind : SyntaxBad) (continue other : List Part → List Item → ℕ → Verdict) → ((ps : List Part) (is : List Item) (d : ℕ) → Within (length rest) (continue ps is d)) → verdict_at next d token rest continue ≡ fault (length rest + 1) kind → verdict_at next d token more other ≡ fault (length more + 1) kind
first_local Stops d token rest more kind continue other within h = let e : kind_of token ≡ kind = ap reason h in ap (fault (length more + 1)) e
first_local (Goes ps is) d token rest more kind continue other within h =
    first_choice (too_deep (turn token) d) (continue ps is (depth_by (turn token) d)) (other ps is (depth_by (turn token) d)) (length rest) (length more) kind (within ps is (depth_by (turn token) d)) h

-- and so does one behind other tokens
far : (front : List Lexeme) (token : Lexeme) (rest : List Lexeme) → length (front ++ token ∷ rest) + 1 ≡ length rest + 1 → ⊥
far front token rest e = absurd (omega (arith, e, length-append front (token ∷ rest)))

next_choice : (b : Bool) (v w : Verdict) (n m i j : ℕ) (kind : SyntaxBad) → (n ≡ m → ⊥) → (v ≡ fault m kind → w ≡ fault j kind) → cond b (fault n bad.Deep) v ≡ fault m kind → cond b (fault i bad.Deep) w ≡ fault j kind
next_choice true v w n m i j kind other go h = let e : n ≡ m = ap left_in h in absurd (other e)
next_choice false v w n m i j kind other go h = go h

next_local : (next : Next) (d : ℕ) (a : Lexeme) (front : List Lexeme) (token : Lexeme) (rest more : List Lexeme) (kind : SyntaxBad) (continue other : List Part → List Item → ℕ → Verdict) → ((ps : List Part) (is : List Item) (d : ℕ) → continue ps is d ≡ fault (length rest + 1) kind → other ps is d ≡ fault (length more + 1) kind) → verdict_at next d a (front ++ token ∷ rest) continue ≡ fault (length rest + 1) kind → verdict_at next d a (front ++ token ∷ more) other ≡ fault (length more + 1) kind
next_local Stops d a front token rest more kind continue other go h = let e : length (front ++ token ∷ rest) + 1 ≡ length rest + 1 = ap left_in h in absurd (far front token rest e)
next_local (Goes ps is) d a front token rest more kind continue other go h =
    next_choice (too_deep (turn a) d) (continue ps is (depth_by (turn a) d)) (other ps is (depth_by (turn a) d)) (length (front ++ token ∷ rest) + 1) (length rest + 1) (length (front ++ token ∷ more) + 1) (length more + 1) kind
    (far front token rest) (go ps is (depth_by (turn a) d)) h

local : (front : List Lexeme) (ps : List Part) (is : List Item) (d : ℕ) (token : Lexeme) (rest more : List Lexeme) (kind : SyntaxBad) → verdict ps is d (front ++ token ∷ rest) ≡ fault (length rest + 1) kind → verdict ps is d (front ++ token ∷ more) ≡ fault (length more + 1) kind
unfolding verdict
local [] ps is d token rest more kind h = first_local (eat ps is token) d token rest more kind (λ ps is d. verdict ps is d rest) (λ ps is d. verdict ps is d more) (λ ps is d. few rest ps is d) h
local (a ∷ front) ps is d token rest more kind h =
    next_local (eat ps is a) d a front token rest more kind (λ ps is d. verdict ps is d (front ++ token ∷ rest)) (λ ps is d. verdict ps is d (front ++ token ∷ more)) (λ ps is d. local front ps is d token rest more kind) h

pub no_script : (front : List Lexeme) (token : Lexeme) (rest : List Lexeme) (kind : SyntaxBad) → script_of (front ++ token ∷ rest) ≡ fault (length rest + 1) kind → (script : Statements) (more : List Lexeme) → is_script script ≡ true → spell_statements script ≡ front ++ token ∷ more → ⊥
no_script front token rest kind h script more good e =
    let there : script_of (front ++ token ∷ more) ≡ fault (length more + 1) kind = local front _ _ 0 token rest more kind h in
    let both : Fine script ≡ fault (length more + 1) kind = sym (script_again script good) ∙ ap script_of e ∙ there in
    absurd cc
