-- What may follow tokens doesn't depend on whole statements before them.
use Rattle.std.proofs.Common.{◌≡◌, ◌+◌, ℕ, List, [], ◌∷◌, ◌++◌, map, take, drop, Bool, true, false, cond, refl, sym, ap, ◌∙◌, append_assoc, subst}
use Rattle.std.proofs.lemmas.List.{take-append-drop}
use Rattle.script_tree.specs.declared.lexeme.Lexeme.{Lexeme}
use Rattle.script_tree.specs.Tree as tree
use Rattle.script_tree.specs.Tree.{Statements}
use Rattle.script_tree.specs.Spelling.{spell_statements}
use Rattle.script_tree.specs.Grammar.{Part, Item, ABlock, Next, Stops, Goes, Stmts, Verdict, after, at_end, depth_by, eat, goes_on, optional, passed, script_of, too_deep, turn, verdict, verdict_at}
use Rattle.script_parse.specs.Whole.{IsWhole}
use Rattle.script_print.proofs.Scripts.{joined}
use Rattle.script_hints.specs.declared.choice.Choice.{Choice}
use Rattle.script_hints.specs.Following.{begins_anew, candidate_behind, follows, is_fitting, token_of}
use Rattle.script_hints.proofs.Again.{no_else, statements}

-- ---- whether tokens fit doesn't depend on what has been read

abbrev Alike : Next → Next → Type 0
Alike Stops Stops = Unit {0}
Alike Stops (Goes qs js) = ⊥
Alike (Goes ps is) Stops = ⊥
Alike (Goes ps is) (Goes qs js) = ps ≡ qs

step : (next : Next) (b : Bool) (ps : List Part) (is js : List Item) (n m : Next) → Alike n m → Alike (goes_on next ps is (cond b n Stops)) (goes_on next ps js (cond b m Stops))
step Stops true ps is js n m h = h
step Stops false ps is js n m h = tt
step (Goes qs ks) b ps is js n m h = refl

eaten : (ps : List Part) (is js : List Item) (token : Lexeme) → Alike (eat ps is token) (eat ps js token)
eaten [] is js token = tt
eaten (p ∷ ps) is js token = step (after p token) (optional p) ps is js (eat ps (passed p is) token) (eat ps (passed p js) token) (eaten ps (passed p is) (passed p js) token)

either : (b : Bool) (v w f g : Verdict) → is_fitting v ≡ is_fitting w → is_fitting f ≡ is_fitting g → is_fitting (cond b v f) ≡ is_fitting (cond b w g)
either true v w f g h k = h
either false v w f g h k = k

ended : (ps : List Part) (is js : List Item) → is_fitting (at_end ps is) ≡ is_fitting (at_end ps js)
ended [] is js = refl
ended (p ∷ ps) is js = either (optional p) _ _ _ _ (ended ps (passed p is) (passed p js)) refl

abbrev Fits : List Part → List Item → ℕ → List Lexeme → Bool
Fits ps is d ts = is_fitting (verdict ps is d ts)

gone : (n m : Next) (d : ℕ) (token : Lexeme) (rest : List Lexeme) → Alike n m → ((ps : List Part) (is js : List Item) (d : ℕ) → Fits ps is d rest ≡ Fits ps js d rest)
    → is_fitting (verdict_at n d token rest (λ ps is d. verdict ps is d rest)) ≡ is_fitting (verdict_at m d token rest (λ ps is d. verdict ps is d rest))
gone Stops Stops d token rest h go = refl
gone Stops (Goes qs js) d token rest h go = absurd h
gone (Goes ps is) Stops d token rest h go = absurd h
gone (Goes ps is) (Goes qs js) d token rest h go =
    either (too_deep (turn token) d) _ _ _ _ refl (go ps is js (depth_by (turn token) d) ∙ ap (λ qs. Fits qs js (depth_by (turn token) d) rest) h)

alike : (ts : List Lexeme) (ps : List Part) (is js : List Item) (d : ℕ) → Fits ps is d ts ≡ Fits ps js d ts
unfolding verdict
alike [] ps is js d = ended ps is js
alike (token ∷ rest) ps is js d = gone (eat ps is token) (eat ps js token) d token rest (eaten ps is js token) (λ ps is js d. alike rest ps is js d)

-- ---- statements in front

no_else_more : (ts rest : List Lexeme) → begins_anew ts ≡ true → no_else (ts ++ rest) ≡ true
no_else_more [] rest h = absurd cc
no_else_more (token ∷ ts) rest h = h

behind_script : (body : Statements) (ts : List Lexeme) (y : Choice) → IsWhole (spell_statements body) body → begins_anew ts ≡ true → follows (spell_statements body ++ ts) y ≡ follows ts y
unfolding follows
behind_script body ts y whole h =
    let end = token_of y ∷ [] in
    ap (λ l. is_fitting (script_of l)) (append_assoc (spell_statements body) ts end)
    ∙ ap is_fitting (statements body 0 whole.fits tree.Nothing [] [] (ts ++ end) (no_else_more ts end h))
    ∙ alike (ts ++ end) (Stmts ∷ []) (ABlock (joined tree.Nothing body) ∷ []) (ABlock tree.Nothing ∷ []) 0

pub shorter : (ts : List Lexeme) (n : ℕ) (body : Statements) → IsWhole (take n ts) body → begins_anew (drop n ts) ≡ true → (y : Choice) → follows (drop n ts) y ≡ follows ts y
shorter ts n body whole h y =
    let e : take n ts ≡ spell_statements body = whole.spelled in
    let own : IsWhole (spell_statements body) body = subst (λ l. IsWhole l body) e whole in
    sym (behind_script body (drop n ts) y own h) ∙ ap (λ l. follows (l ++ drop n ts) y) (sym e) ∙ ap (λ l. follows l y) (take-append-drop n ts)

-- ---- candidates

pub same_candidates : (short front : List Lexeme) (ys : List Choice) → ((y : Choice) → follows short y ≡ follows front y) → map (candidate_behind short) ys ≡ map (candidate_behind front) ys
same_candidates short front [] h = refl
same_candidates short front (y ∷ ys) h = ap (λ fits. record { choice = y; fits = fits } ∷ map (candidate_behind short) ys) (h y) ∙ ap (λ l. candidate_behind front y ∷ l) (same_candidates short front ys h)
