-- Behind a statement the variables before it are visible as they were, with new ones behind them.
use Rattle.std.proofs.Common.{◌≡◌, ◌+◌, ℕ, [], ◌∷◌, ◌++◌, length, take, Option, Some, None, Ok, Err, refl, sym, ap, ◌∙◌, append_assoc, append-nil}
use Rattle.std.proofs.Math.Seq.{take-append_seam}
use Rattle.slee_value.specs.declared.kind.Kind.{Kind}
use Rattle.script_tree.specs.Tree as tree
use Rattle.script_tree.specs.Tree.{Bytes, Expression, Assigning, OnEntities, OnActivities, SettingTimer, Statement, Statements}
use Rattle.script_types.specs.TypingResult.{Checked, ◌>>=◌}
use Rattle.script_types.specs.Scopes.{Scope, Variable}
use Rattle.script_types.specs.TokenCounts.{tokens_in_statement}
use Rattle.script_types.specs.TypingExpressions.{Setting}
use Rattle.script_types.specs.TypingStatements.{check_result}
use Rattle.script_types.specs.Program as p
use Rattle.script_types.specs.Program.{Step, Steps}
use Rattle.script_types.specs.ElaborationOfStatements.{Made, MadeAll, assigning_of, on_entities_of, on_activities_of, timer_of, statement_made, statements_made}

-- the scope has new variables behind it
abbrev pub Longer : Scope → Scope → Type 0
Longer scope next = (more : Scope) × (next ≡ scope ++ more)

abbrev pub Grows : Scope → Checked Made → Type 0
Grows scope (Ok made) = Longer scope made.scope
Grows scope (Err fault) = Unit {0}

abbrev pub AllGrow : Scope → Checked MadeAll → Type 0
AllGrow scope (Ok made) = Longer scope made.scope
AllGrow scope (Err fault) = Unit {0}

abbrev ScopeGrows : Scope → Checked Scope → Type 0
ScopeGrows scope (Ok next) = Longer scope next
ScopeGrows scope (Err fault) = Unit {0}

grows_then : {A : Type 0} (scope : Scope) (m : Checked A) (f : A → Checked Made) → ((x : A) → Grows scope (f x)) → Grows scope (m >>= f)
grows_then scope (Ok x) f h = h x
grows_then scope (Err fault) f h = tt

longer_same : (scope : Scope) → Longer scope scope
longer_same scope = ([], sym (append-nil scope))

longer_one : (scope : Scope) (new : Variable) → Longer scope (scope ++ new ∷ [])
longer_one scope new = (new ∷ [], refl)

ruleset steps = (grows_then, longer_same, longer_one)

assigning_grows : (s : Setting) (scope : Scope) (at : ℕ) (a : Assigning) → Grows scope (assigning_of s scope at a)
assigning_grows s scope at (tree.New name x) = search steps
assigning_grows s scope at (tree.Variable name x) = search steps
assigning_grows s scope at (tree.Field name x) = search steps depth 7
assigning_grows s scope at (tree.Attribute x name y) = search steps depth 9

scope_then : {A : Type 0} (scope : Scope) (m : Checked A) (f : A → Checked Scope) → ((x : A) → ScopeGrows scope (f x)) → ScopeGrows scope (m >>= f)
scope_then scope (Ok x) f h = h x
scope_then scope (Err fault) f h = tt

result_grows : (scope : Scope) (result : Option Kind) (at : ℕ) (name : Option Bytes) → ScopeGrows scope (check_result scope result at name)
result_grows scope result at None = longer_same scope
result_grows scope None at (Some name) = tt
result_grows scope (Some kind) at (Some name) = search (scope_then, longer_one)

-- what is done with a scope that is longer
grows_behind : (scope : Scope) (m : Checked Scope) (f : Scope → Checked Made) → ScopeGrows scope m → ((next : Scope) → Longer scope next → Grows scope (f next)) → Grows scope (m >>= f)
grows_behind scope (Ok next) f h go = go next h
grows_behind scope (Err fault) f h go = tt

on_entities_grows : (s : Setting) (scope : Scope) (at : ℕ) (e : OnEntities) → Grows scope (on_entities_of s scope at e)
on_entities_grows s scope at (tree.Create name child priority) = search steps depth 9
on_entities_grows s scope at (tree.Remove child) = search steps depth 7
on_entities_grows s scope at (tree.Priority child x) = search steps depth 9
on_entities_grows s scope at (tree.Call child name arguments result) = search (grows_then, grows_behind, result_grows) depth 12

on_activities_grows : (s : Setting) (scope : Scope) (at : ℕ) (a : OnActivities) → Grows scope (on_activities_of s scope at a)
on_activities_grows s scope at (tree.Attach who x) = search steps depth 9
on_activities_grows s scope at (tree.Detach who x) = search steps depth 9
on_activities_grows s scope at (tree.Mask event x) = search steps depth 9
on_activities_grows s scope at (tree.Unmask event x) = search steps depth 9
on_activities_grows s scope at (tree.Fire name x service fields) = search steps depth 12
on_activities_grows s scope at (tree.Null name) = search steps depth 7
on_activities_grows s scope at (tree.Bind x y) = search steps depth 9

timer_grows : (s : Setting) (scope : Scope) (at : ℕ) (t : SettingTimer) → Grows scope (timer_of s scope at t)
timer_grows s scope at t = search steps depth 12

statement_grows : (s : Setting) (scope : Scope) (at : ℕ) (y : Statement) → Grows scope (statement_made s scope at y)
statement_grows s scope at (tree.Assign a) = assigning_grows s scope at a
statement_grows s scope at (tree.Entity e) = on_entities_grows s scope at e
statement_grows s scope at (tree.Activity a) = on_activities_grows s scope at a
statement_grows s scope at (tree.Timer t) = timer_grows s scope at t
statement_grows s scope at (tree.Do verb x) = search steps
statement_grows s scope at (tree.Usage name x) = search steps depth 7
statement_grows s scope at tree.Rollback = search steps
statement_grows s scope at (tree.If x body) = search steps depth 7
statement_grows s scope at (tree.IfElse x body other) = search steps depth 9
statement_grows s scope at (tree.While x body) = search steps depth 7
statement_grows s scope at (tree.For name list body) = search steps depth 9

longer_still : (scope middle next : Scope) → Longer scope middle → Longer middle next → Longer scope next
longer_still scope middle next one two = (one.0 ++ two.0, two.1 ∙ ap (λ xs. xs ++ two.0) one.1 ∙ append_assoc scope one.0 two.0)

abbrev more_with : Step → MadeAll → Checked MadeAll
more_with step others = Ok (record { scope = others.scope; steps = p.Then step others.steps })

grows_on : (scope middle : Scope) (step : Step) (m : Checked MadeAll) → Longer scope middle → AllGrow middle m → AllGrow scope (m >>= more_with step)
grows_on scope middle step (Ok others) one two = longer_still scope middle others.scope one two
grows_on scope middle step (Err fault) one two = tt

grows_through : (scope : Scope) (m : Checked Made) (f : Made → Checked MadeAll) → Grows scope m → ((made : Made) → AllGrow made.scope (f made)) → AllGrow scope (m >>= λ one. f one >>= more_with one.step)
grows_through scope (Ok made) f h go = grows_on scope made.scope made.step (f made) h (go made)
grows_through scope (Err fault) f h go = tt

-- behind statements the variables before them are the first ones that are visible
pub statements_grow : (s : Setting) (scope : Scope) (at : ℕ) (ys : Statements) → AllGrow scope (statements_made s scope at ys)
statements_grow s scope at tree.Nothing = longer_same scope
statements_grow s scope at (tree.Then y ys) = grows_through scope (statement_made s scope at y) (λ one. statements_made s one.scope (at + tokens_in_statement y) ys) (statement_grows s scope at y) (λ one. statements_grow s one.scope (at + tokens_in_statement y) ys)
