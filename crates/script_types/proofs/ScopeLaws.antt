-- Behind a statement the variables before it are visible as they were, with new ones behind them.
use Rattle.std.proofs.Common.{◌≡◌, ◌+◌, ℕ, [], ◌∷◌, ◌++◌, Option, Some, None, Ok, Err, refl, sym, ap, ◌∙◌, append_assoc, append-nil}
use Rattle.slee_value.specs.declared.kind.Kind.{Kind}
use Rattle.script_tree.specs.Tree as tree
use Rattle.script_tree.specs.Tree.{Bytes, Expression, Assigning, OnEntities, OnActivities, SettingTimer, Statement, Statements}
use Rattle.script_types.specs.TypingResult.{Checked, ◌>>=◌}
use Rattle.script_types.specs.Scopes.{Scope, Variable}
use Rattle.script_types.specs.TokenCounts.{tokens_in_statement}
use Rattle.script_types.specs.TypingExpressions.{Setting}
use Rattle.script_types.specs.TypingStatements.{check_assigning, check_result, check_on_entities, check_on_activities, check_timer, check_statement, check_statements}

-- a check whose scope is that one with new variables behind it
abbrev pub Grows : Scope → Checked Scope → Type 0
Grows scope (Ok next) = (more : Scope) × (next ≡ scope ++ more)
Grows scope (Err fault) = Unit {0}

pub grows_then : {A : Type 0} (scope : Scope) (m : Checked A) (f : A → Checked Scope) → ((x : A) → Grows scope (f x)) → Grows scope (m >>= f)
grows_then scope (Ok x) f h = h x
grows_then scope (Err fault) f h = tt

grows_same : (scope : Scope) → Grows scope (Ok scope)
grows_same scope = ([], sym (append-nil scope))

grows_one : (scope : Scope) (new : Variable) → Grows scope (Ok (scope ++ new ∷ []))
grows_one scope new = (new ∷ [], refl)

ruleset steps = (grows_then, grows_same, grows_one)

assigning_grows : (s : Setting) (scope : Scope) (at : ℕ) (a : Assigning) → Grows scope (check_assigning s scope at a)
assigning_grows s scope at (tree.New name x) = search steps
assigning_grows s scope at (tree.Variable name x) = search steps
assigning_grows s scope at (tree.Field name x) = search steps
assigning_grows s scope at (tree.Attribute x name y) = search steps depth 7

result_grows : (scope : Scope) (result : Option Kind) (at : ℕ) (name : Option Bytes) → Grows scope (check_result scope result at name)
result_grows scope result at None = grows_same scope
result_grows scope None at (Some name) = tt
result_grows scope (Some kind) at (Some name) = search steps

-- a test behind a check that grows
grows_before : (scope : Scope) (m : Checked Scope) (t : Checked (Unit {0})) → Grows scope m → Grows scope (m >>= (λ next. t >>= (λ _. Ok next)))
grows_before scope (Ok next) (Ok x) h = h
grows_before scope (Ok next) (Err fault) h = tt
grows_before scope (Err fault) t h = tt

on_entities_grows : (s : Setting) (scope : Scope) (at : ℕ) (e : OnEntities) → Grows scope (check_on_entities s scope at e)
on_entities_grows s scope at (tree.Create name child priority) = search steps depth 7
on_entities_grows s scope at (tree.Remove child) = search steps
on_entities_grows s scope at (tree.Priority child x) = search steps depth 7
on_entities_grows s scope at (tree.Call child name arguments result) = search (grows_then, grows_before, result_grows) depth 9

on_activities_grows : (s : Setting) (scope : Scope) (at : ℕ) (a : OnActivities) → Grows scope (check_on_activities s scope at a)
on_activities_grows s scope at (tree.Attach who x) = search steps depth 7
on_activities_grows s scope at (tree.Detach who x) = search steps depth 7
on_activities_grows s scope at (tree.Mask event x) = search steps depth 7
on_activities_grows s scope at (tree.Unmask event x) = search steps depth 7
on_activities_grows s scope at (tree.Fire name x service fields) = search steps depth 9
on_activities_grows s scope at (tree.Null name) = search steps
on_activities_grows s scope at (tree.Bind x y) = search steps depth 7

timer_grows : (s : Setting) (scope : Scope) (at : ℕ) (t : SettingTimer) → Grows scope (check_timer s scope at t)
timer_grows s scope at t = search steps depth 9

statement_grows : (s : Setting) (scope : Scope) (at : ℕ) (y : Statement) → Grows scope (check_statement s scope at y)
statement_grows s scope at (tree.Assign a) = assigning_grows s scope at a
statement_grows s scope at (tree.Entity e) = on_entities_grows s scope at e
statement_grows s scope at (tree.Activity a) = on_activities_grows s scope at a
statement_grows s scope at (tree.Timer t) = timer_grows s scope at t
statement_grows s scope at (tree.Do verb x) = search steps
statement_grows s scope at (tree.Usage name x) = search steps
statement_grows s scope at tree.Rollback = search steps
statement_grows s scope at (tree.If x body) = search steps
statement_grows s scope at (tree.IfElse x body other) = search steps depth 7
statement_grows s scope at (tree.While x body) = search steps
statement_grows s scope at (tree.For name list body) = search steps depth 7

grows_on : (scope middle : Scope) (m : Checked Scope) (more : Scope) → middle ≡ scope ++ more → Grows middle m → Grows scope m
grows_on scope middle (Ok next) more e h = (more ++ h.0, h.1 ∙ ap (λ xs. xs ++ h.0) e ∙ append_assoc scope more h.0)
grows_on scope middle (Err fault) more e h = tt

grows_through : (scope : Scope) (m : Checked Scope) (f : Scope → Checked Scope) → Grows scope m → ((next : Scope) → Grows next (f next)) → Grows scope (m >>= f)
grows_through scope (Ok next) f h go = grows_on scope next (f next) h.0 h.1 (go next)
grows_through scope (Err fault) f h go = tt

-- behind statements the variables before them are the first ones that are visible
pub statements_grow : (s : Setting) (scope : Scope) (at : ℕ) (ys : Statements) → Grows scope (check_statements s scope at ys)
statements_grow s scope at tree.Nothing = grows_same scope
statements_grow s scope at (tree.Then y ys) = grows_through scope (check_statement s scope at y) _ (statement_grows s scope at y) (λ next. statements_grow s next (at + tokens_in_statement y) ys)
