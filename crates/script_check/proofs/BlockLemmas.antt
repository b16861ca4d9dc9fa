-- Statements one behind another: what is made of some stands in front of what is made of the rest.
use Rattle.std.proofs.Common.{◌≡◌, ◌<◌, ◌+◌, ◌++◌, ℕ, List, [], ◌∷◌, length, take, drop, get_or, Ok, Err, refl, sym, subst, ap, ◌∙◌, drop-cons, add-one, Vec, Global}
use Rattle.std.proofs.Math.Seq.{take-append_seam}
use Rattle.script_tree.specs.declared.tree.Expr.{Expr}
use Rattle.script_tree.specs.declared.tree.Over.{Over}
use Rattle.script_tree.specs.declared.tree.Stmt as x
use Rattle.script_tree.specs.declared.tree.Stmt.{Stmt}
use Rattle.script_tree.specs.Tree as tree
use Rattle.script_tree.specs.Tree.{Bytes, Statements, tree_of, statement_of, statements_of}
use Rattle.script_tree.proofs.Rows.{if_tree, if_else_tree, while_tree, for_tree}
use Rattle.script_types.specs.declared.step.Range.{Range}
use Rattle.script_types.specs.Program as p
use Rattle.script_types.specs.declared.checked_step.Step.{Step as StepInMemory}
use Rattle.script_types.specs.Program.{Step, Steps, Then}
use Rattle.script_types.specs.ProgramOf.{step_of, steps_of, before}
use Rattle.script_types.specs.Scopes.{Scope, Variable, check_new}
use Rattle.script_types.specs.TokenCounts.{tokens_in_statement}
use Rattle.script_types.specs.TypingExpressions.{Setting, not_on_remove}
use Rattle.script_types.specs.TypingResult.{Checked, ◌>>=◌}
use Rattle.script_types.specs.ElaborationOfStatements.{Made, MadeAll, Loop, loop_of, statement_made, statements_made}
use Rattle.script_types.proofs.ProgramRows.{before_last}
use Rattle.script_check_terms.specs.declared.fault.ScriptFault.{ScriptFault}
use Rattle.script_check_terms.specs.Answers.{Refuses}
use Rattle.script_check_terms.proofs.ChainLemmas.{refuses_then}
use Rattle.script_check_steps.proofs.Grown.{AllGrow, statements_grow}

-- statements with other steps in front of theirs
abbrev pub with : (Steps → Steps) → MadeAll → Checked MadeAll
with f r = Ok (record { scope = r.scope; steps = f r.steps })

abbrev pub done : List StepInMemory → MadeAll → Checked MadeAll
done steps = with (before steps)

joined_steps : (q : Checked MadeAll) (a : Step) (g : Steps → Steps) → ((q >>= with (Then a)) >>= with g) ≡ (q >>= with (λ b. g (Then a b)))
joined_steps (Ok x) a g = refl
joined_steps (Err fault) a g = refl

pub nothing_done : (q : Checked MadeAll) → (q >>= done []) ≡ q
nothing_done (Ok x) = refl
nothing_done (Err fault) = refl

-- what is made of the statements from this one on is made of it first
from : (s : Setting) (scope : Scope) (here : ℕ) (body : List Stmt) (i : ℕ) (y : Stmt) → i < length body → y ≡ get_or body i y → statements_made s scope here (statements_of (drop i body)) ≡ (statement_made s scope here (statement_of y) >>= λ one. statements_made s one.scope (here + tokens_in_statement (statement_of y)) (statements_of (drop (i + 1) body)) >>= with (Then one.step))
from s scope here body i y lt is = rw (drop-cons body i y, add-one, ← is) refl

pub rest_step : (s : Setting) (scope next : Scope) (here : ℕ) (body : List Stmt) (i n : ℕ) (y : Stmt) (step : StepInMemory) (steps now : List StepInMemory) (total : Checked MadeAll) → i < length body → y ≡ get_or body i y → (statements_made s scope here (statements_of (drop i body)) >>= done steps) ≡ total → statement_made s scope here (statement_of y) ≡ Ok (record { scope = next; step = step_of step }) → n ≡ tokens_in_statement (statement_of y) → now ≡ steps ++ step ∷ [] → (statements_made s next (here + n) (statements_of (drop (i + 1) body)) >>= done now) ≡ total
rest_step s scope next here body i n y step steps now total lt is so_far h tokens grown =
    let rest : Scope → Checked MadeAll = λ scope. statements_made s scope (here + n) (statements_of (drop (i + 1) body)) in
    let go : Made → Checked MadeAll = λ one. rest one.scope >>= with (Then one.step) in
    let end : Checked Made → Checked MadeAll = λ r. (r >>= go) >>= done steps in
    let split : (statements_made s scope here (statements_of (drop i body)) >>= done steps) ≡ end (statement_made s scope here (statement_of y)) =
    ap (λ (r : Checked MadeAll). r >>= done steps) (from s scope here body i y lt is ∙ ap (λ k. statement_made s scope here (statement_of y) >>= λ one. statements_made s one.scope (here + k) (statements_of (drop (i + 1) body)) >>= with (Then one.step)) (sym tokens)) in
    ap (λ (f : Steps → Steps). rest next >>= with f) (ap before grown ∙ before_last steps step)
    ∙ sym (joined_steps (rest next) (step_of step) (before steps)) ∙ sym (ap end h) ∙ sym split ∙ so_far

pub rest_refuses : (s : Setting) (scope : Scope) (here : ℕ) (body : List Stmt) (i : ℕ) (y : Stmt) (steps : List StepInMemory) (total : Checked MadeAll) (fault : ScriptFault) → i < length body → y ≡ get_or body i y → (statements_made s scope here (statements_of (drop i body)) >>= done steps) ≡ total → Refuses (statement_made s scope here (statement_of y)) fault → Refuses total fault
rest_refuses s scope here body i y steps total fault lt is so_far h =
    subst (λ r. Refuses r fault) (ap (λ (r : Checked MadeAll). r >>= done steps) (sym (from s scope here body i y lt is)) ∙ so_far) (refuses_then _ _ fault (refuses_then _ _ fault h))

-- nothing is left
pub rest_ends : (s : Setting) (scope : Scope) (here : ℕ) (body : List Stmt) (i : ℕ) (steps : List StepInMemory) (total : Checked MadeAll) → drop i body ≡ [] → (statements_made s scope here (statements_of (drop i body)) >>= done steps) ≡ total → total ≡ Ok (record { scope = scope; steps = steps_of steps })
rest_ends s scope here body i steps total none so_far = sym so_far ∙ ap (λ xs. statements_made s scope here (statements_of xs) >>= done steps) none

-- a block forgets its variables when the scope is cut to its length
pub cut_back : (s : Setting) (scope next : Scope) (at : ℕ) (ys : Statements) (steps : Steps) → statements_made s scope at ys ≡ Ok (record { scope = next; steps = steps }) → take (length scope) next ≡ scope
cut_back s scope next at ys steps h = let more = subst (AllGrow scope) h (statements_grow s scope at ys) in rw more.1 (take-append_seam scope more.0)

-- and behind a loop its variable is forgotten
pub cut_one : (scope next : Scope) (new : Variable) → next ≡ scope ++ new ∷ [] → take (length scope) next ≡ scope
cut_one scope next new h = rw h (take-append_seam scope (new ∷ []))

-- what a statement with blocks is, by its blocks
pub if_is : (y : Stmt) (e : Expr) (v : Vec Stmt Global) (body : List Stmt) → y ≡ x.If e v → body ≡ v.items → statement_of y ≡ tree.If (tree_of e) (statements_of body)
if_is y e v body is same = ap statement_of is ∙ if_tree e v ∙ ap (λ ys. tree.If (tree_of e) (statements_of ys)) (sym same)

pub if_else_is : (y : Stmt) (e : Expr) (v w : Vec Stmt Global) (body other : List Stmt) → y ≡ x.IfElse e v w → body ≡ v.items → other ≡ w.items → statement_of y ≡ tree.IfElse (tree_of e) (statements_of body) (statements_of other)
if_else_is y e v w body other is same too = ap statement_of is ∙ if_else_tree e v w ∙ ap (λ ys. tree.IfElse (tree_of e) (statements_of ys) (statements_of w.items)) (sym same) ∙ ap (λ ys. tree.IfElse (tree_of e) (statements_of body) (statements_of ys)) (sym too)

pub while_is : (y : Stmt) (e : Expr) (v : Vec Stmt Global) (body : List Stmt) → y ≡ x.While e v → body ≡ v.items → statement_of y ≡ tree.While (tree_of e) (statements_of body)
while_is y e v body is same = ap statement_of is ∙ while_tree e v ∙ ap (λ ys. tree.While (tree_of e) (statements_of ys)) (sym same)

pub for_is : (y : Stmt) (name : Bytes) (list : Over) (v : Vec Stmt Global) (body : List Stmt) → y ≡ x.For name list v → body ≡ v.items → statement_of y ≡ tree.For name list (statements_of body)
for_is y name list v body is same = ap statement_of is ∙ for_tree name list v ∙ ap (λ ys. tree.For name list (statements_of ys)) (sym same)

-- a step with the variables that stood before it
abbrev pub gives : Scope → Step → Checked Made
gives scope step = Ok (record { scope = scope; step = step })

-- a `for`, by its parts
pub for_made : (s : Setting) (scope inner deeper : Scope) (at : ℕ) (name : Bytes) (list : Over) (body : Statements) (goes : Range) (steps : Steps) → check_new scope name (at + 1) ≡ Ok tt → loop_of s scope name (at + 3) list ≡ Ok (record { scope = inner; range = goes }) → statements_made s inner (at + 5) body ≡ Ok (record { scope = deeper; steps = steps }) → not_on_remove s at ≡ Ok tt → statement_made s scope at (tree.For name list body) ≡ gives scope (p.For goes steps)
for_made s scope inner deeper at name list body goes steps fresh found made fine =
    ap (λ (r : Checked (Unit {0})). r >>= λ _. loop_of s scope name (at + 3) list >>= λ loop. statements_made s loop.scope (at + 5) body >>= λ all. not_on_remove s at >>= λ _. gives scope (p.For loop.range all.steps)) fresh
    ∙ ap (λ (r : Checked Loop). r >>= λ loop. statements_made s loop.scope (at + 5) body >>= λ all. not_on_remove s at >>= λ _. gives scope (p.For loop.range all.steps)) found
    ∙ ap (λ (r : Checked MadeAll). r >>= λ all. not_on_remove s at >>= λ _. gives scope (p.For goes all.steps)) made
    ∙ ap (λ (r : Checked (Unit {0})). r >>= λ _. gives scope (p.For goes steps)) fine
