-- What a chain of operators is, what goes on from its start to its end, and how many tokens expressions have.
use Rattle.std.proofs.Common.{◌≡◌, ◌<◌, ◌+◌, ◌++◌, ℕ, suc, Bool, true, false, List, [], ◌∷◌, Vec, Box, Global, take, drop, length, get_or, Ok, Err, Result, refl, sym, ap, subst, ◌∙◌, arith, add-one}
use Rattle.std.proofs.lemmas.List.{length-append, take-append-drop, drop_all, take_more}
use Rattle.script_tree.specs.declared.symbol.Operator.{Operator}
use Rattle.script_tree.specs.declared.symbol.Operator.TheVariants as o
use Rattle.script_tree.specs.declared.tree.Query.{Query}
use Rattle.script_tree.specs.declared.tree.Expr.{Expr, Chain}
use Rattle.script_tree.specs.Spelling.{spell_expression, behind_asked, before_asked}
use Rattle.script_tree.specs.Tree.{Expression, Binary, Ask, Group, tree_of, joined, binary_of}
use Rattle.script_tree.proofs.Rows.{chain_tree}
use Rattle.script_types.specs.declared.misuse.Misuse.{Misuse}
use Rattle.script_types.specs.TypingResult.{Checked, ◌>>=◌}
use Rattle.script_types.specs.TypingExpressions.{Setting, is_nothing}
use Rattle.script_types.specs.Scopes.{Scope}
use Rattle.script_types.specs.Elaboration.{Typed, expression_of}
use Rattle.script_types.specs.TokenCounts.{tokens_in, tokens_before}
use Rattle.script_check_terms.specs.declared.fault.ScriptFault.{ScriptFault}
use Rattle.script_check_terms.specs.declared.fault.ScriptFault.TheVariants as answers
use Rattle.script_check_terms.specs.Answers.{Refuses}

-- operators that are joined to an expression are no `none`
pub joined_is_something : (x : Expression) (ys : List (Operator × Expr)) → is_nothing x ≡ false → is_nothing (joined x ys) ≡ false
joined_is_something x [] h = h
joined_is_something x (y ∷ ys) h = joined_is_something (Binary y.0 x (tree_of y.1)) ys refl

pub chain_is_something : (x : Box (Expr × Operator × Expr) Global) (v : Vec (Operator × Expr) Global) → is_nothing (tree_of (Chain x v)) ≡ false
chain_is_something x v = ap is_nothing (chain_tree x v) ∙ joined_is_something (binary_of x.value) v.items refl

-- an operator more
pub joined_last : (x : Expression) (ys : List (Operator × Expr)) (y : Operator × Expr) → joined x (ys ++ y ∷ []) ≡ Binary y.0 (joined x ys) (tree_of y.1)
joined_last x [] y = refl
joined_last x (z ∷ ys) y = joined_last (Binary z.0 x (tree_of z.1)) ys y

pub joined_both : (x : Expression) (ys zs : List (Operator × Expr)) → joined x (ys ++ zs) ≡ joined (joined x ys) zs
joined_both x [] zs = refl
joined_both x (y ∷ ys) zs = joined_both (Binary y.0 x (tree_of y.1)) ys zs

pub joined_next : (x : Expression) (ys : List (Operator × Expr)) (i : ℕ) (y : Operator × Expr) → i < length ys → y ≡ get_or ys i y → joined x (take (i + 1) ys) ≡ Binary y.0 (joined x (take i ys)) (tree_of y.1)
joined_next x ys i y lt is =
    let e = take_more ys i y lt in
    ap (joined x) e ∙ joined_last x (take i ys) (get_or ys i y) ∙ ap (λ z. Binary z.0 (joined x (take i ys)) (tree_of z.1)) (sym is)

-- the fault of a left operand is that of the whole
pub fault_goes_on : (s : Setting) (scope : Scope) (at : ℕ) (x : Expression) (ys : List (Operator × Expr)) (fault : Misuse) → expression_of s scope at x ≡ Err fault → expression_of s scope at (joined x ys) ≡ Err fault
fault_goes_on s scope at x [] fault h = h
fault_goes_on s scope at x (y ∷ ys) fault h = fault_goes_on s scope at (Binary y.0 x (tree_of y.1)) ys fault (rw h refl)

pub refuses_on : (s : Setting) (scope : Scope) (at : ℕ) (x : Expression) (ys : List (Operator × Expr)) (e : ScriptFault) → Refuses (expression_of s scope at x) e → Refuses (expression_of s scope at (joined x ys)) e
refuses_on s scope at x ys answers.NoMemory h = tt
refuses_on s scope at x ys (answers.At fault) h = fault_goes_on s scope at x ys fault h

pub chain_refuses : (s : Setting) (scope : Scope) (at : ℕ) (x : Expression) (ys : List (Operator × Expr)) (i : ℕ) (e : ScriptFault) → Refuses (expression_of s scope at (joined x (take i ys))) e → Refuses (expression_of s scope at (joined x ys)) e
chain_refuses s scope at x ys i e h =
    let whole : joined x ys ≡ joined (joined x (take i ys)) (drop i ys) = ap (joined x) (sym (take-append-drop i ys)) ∙ joined_both x (take i ys) (drop i ys) in
    subst (λ z. Refuses (expression_of s scope at z) e) (sym whole) (refuses_on s scope at (joined x (take i ys)) (drop i ys) e h)

pub refuses_then : {A B : Type 0} (r : Checked A) (g : A → Checked B) (e : ScriptFault) → Refuses r e → Refuses (r >>= g) e
refuses_then r g answers.NoMemory h = tt
refuses_then r g (answers.At fault) h = ap (λ x. x >>= g) h

-- how many tokens there are
pub tokens_binary : (op : Operator) (x y : Expression) → tokens_in (Binary op x y) ≡ tokens_in x + 1 + tokens_in y
tokens_binary op x y = let e = length-append (spell_expression x) (_ ∷ spell_expression y) in e ∙ omega arith
