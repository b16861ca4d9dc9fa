-- A remove script that checks without a fault has only what a remove script may have.
use Rattle.std.proofs.Common.{◌≡◌, ◌+◌, ℕ, Bool, true, false, [], Option, Some, None, Ok, Err, refl, subst}
use Rattle.std.specs.Prelude.{◌&&◌, slice_get, option_map}
use Rattle.slee_value.specs.declared.kind.Kind.{Kind}
use Rattle.slee_value.specs.declared.kind.Kind.TheVariants as k
use Rattle.script_tree.specs.declared.symbol.Constant.{Constant}
use Rattle.script_tree.specs.declared.symbol.Constant.TheVariants as c
use Rattle.script_tree.specs.declared.symbol.Function.TheVariants as f
use Rattle.script_tree.specs.declared.symbol.Verb.{Verb}
use Rattle.script_tree.specs.declared.symbol.Verb.TheVariants as v
use Rattle.script_tree.specs.declared.tree.Leaf.{Leaf as ALeaf}
use Rattle.script_tree.specs.declared.tree.Leaf.TheVariants as l
use Rattle.script_tree.specs.declared.tree.Query.{Query}
use Rattle.script_tree.specs.declared.tree.Query.TheVariants as q
use Rattle.script_types.specs.declared.codes.CodePart.TheVariants as part
use Rattle.script_types.specs.declared.codes.CodePlace.{CodePlace}
use Rattle.script_tree.specs.Tree as tree
use Rattle.script_tree.specs.Tree.{Bytes, Expression, Assigning, OnEntities, OnActivities, SettingTimer, Statement, Statements}
use Rattle.script_types.specs.Codes.{Codes, Block}
use Rattle.script_types.specs.TypingResult.{Checked, ◌>>=◌}
use Rattle.script_types.specs.Scopes.{Scope}
use Rattle.script_types.specs.TokenCounts.{tokens_in, tokens_in_statement, tokens_in_statements, tokens_before}
use Rattle.script_types.specs.TypingExpressions.{Setting, OnRemove, check_constant, check_leaf, check_query_place, check_expression, check_asked}
use Rattle.script_types.specs.TypingStatements.{check_assigning, check_on_entities, check_on_activities, check_timer, check_verb, check_statement, check_statements}
use Rattle.script_types.specs.Typing.{WellTyped, check_task, check_part, task_for}
use Rattle.script_types.specs.RemoveScripts.{is_fixed_constant, is_own_leaf, is_own_query, is_own_expression, is_for_remove, are_for_remove}

-- a check that finds a fault unless the test holds
abbrev Shows : {A : Type 0} → Bool → Checked A → Type 0
Shows b (Ok x) = b ≡ true
Shows b (Err fault) = Unit {0}

shows_any : {A : Type 0} (b : Bool) (m : Checked A) → b ≡ true → Shows b m
shows_any b (Ok x) h = h
shows_any b (Err fault) h = tt

-- by the first part, by a later part, or by both
shows_first : {A B : Type 0} (b : Bool) (m : Checked A) (g : A → Checked B) → Shows b m → Shows b (m >>= g)
shows_first b (Ok x) g h = shows_any b (g x) h
shows_first b (Err fault) g h = tt

shows_later : {A B : Type 0} (b : Bool) (m : Checked A) (g : A → Checked B) → ((x : A) → Shows b (g x)) → Shows b (m >>= g)
shows_later b (Ok x) g h = h x
shows_later b (Err fault) g h = tt

shows_and : {A : Type 0} (a b : Bool) (m : Checked A) → a ≡ true → Shows b m → Shows (a && b) m
shows_and a b m e h = rw e h

shows_both : {A B : Type 0} (a b : Bool) (m : Checked A) (g : A → Checked B) → Shows a m → ((x : A) → Shows b (g x)) → Shows (a && b) (m >>= g)
shows_both a b (Ok x) g h go = shows_and a b (g x) h (go x)
shows_both a b (Err fault) g h go = tt

abbrev on_remove : Codes → Block → Setting
on_remove all block = record { codes = all; block = block; role = OnRemove }

constant_shows : (all : Codes) (block : Block) (at : ℕ) (x : Constant) → Shows (is_fixed_constant x) (check_constant (on_remove all block) at x)
constant_shows all block at c.True = refl
constant_shows all block at c.False = refl
constant_shows all block at c.Nothing = refl
constant_shows all block at c.Now = tt
constant_shows all block at c.Activity = tt
constant_shows all block at c.Failure = tt

ruleset later = (shows_later, shows_any)

leaf_shows : (all : Codes) (block : Block) (scope : Scope) (at : ℕ) (x : ALeaf) → Shows (is_own_leaf x) (check_leaf (on_remove all block) scope at x)
leaf_shows all block scope at (l.Int n) = refl
leaf_shows all block scope at (l.Text n) = refl
leaf_shows all block scope at (l.Constant x) = constant_shows all block at x
leaf_shows all block scope at (l.Variable name) = shows_any true (check_leaf (on_remove all block) scope at (l.Variable name)) refl
leaf_shows all block scope at (l.Field name) = shows_any true (check_leaf (on_remove all block) scope at (l.Field name)) refl
leaf_shows all block scope at (l.EventField name) = tt
leaf_shows all block scope at (l.Table name) = search later
leaf_shows all block scope at (l.Count name) = search later
leaf_shows all block scope at (l.Priority name) = search later

query_shows : (all : Codes) (block : Block) (at : ℕ) (x : Query) → Shows (is_own_query x) (check_query_place (on_remove all block) at x)
query_shows all block at (q.Plain f.Text) = refl
query_shows all block at (q.Plain f.Len) = refl
query_shows all block at (q.Plain f.Active) = tt
query_shows all block at (q.Plain f.Attached) = tt
query_shows all block at (q.Plain f.Bound) = tt
query_shows all block at (q.Plain f.Lookup) = tt
query_shows all block at (q.Plain f.HasTimer) = tt
query_shows all block at (q.Masked event) = tt
query_shows all block at (q.Attribute name) = tt
query_shows all block at (q.Profile table name) = tt
query_shows all block at (q.HasProfile table) = tt

expression_shows : (all : Codes) (block : Block) (scope : Scope) (at : ℕ) (x : Expression) → Shows (is_own_expression x) (check_expression (on_remove all block) scope at x)
expression_shows all block scope at (tree.Leaf leaf) = leaf_shows all block scope at leaf
expression_shows all block scope at (tree.Unary op x) = search (shows_first, expression_shows all block scope (at + 1) x)
expression_shows all block scope at (tree.Binary op x y) = search (shows_both, shows_later, shows_first, expression_shows all block scope at x, expression_shows all block scope (at + tokens_in x + 1) y) depth 7
expression_shows all block scope at (tree.Ask query x) = search (shows_both, shows_later, shows_first, expression_shows all block scope (at + tokens_before query) x, query_shows all block at query) depth 9
expression_shows all block scope at (tree.Group x) = expression_shows all block scope (at + 1) x

asked_shows : (all : Codes) (block : Block) (scope : Scope) (kind : Kind) (at : ℕ) (x : Expression) → Shows (is_own_expression x) (check_asked (on_remove all block) scope kind at x)
asked_shows all block scope kind at x = search (shows_first, expression_shows all block scope at x)

assigning_shows : (all : Codes) (block : Block) (scope : Scope) (at : ℕ) (a : Assigning) → Shows (is_for_remove (tree.Assign a)) (check_assigning (on_remove all block) scope at a)
assigning_shows all block scope at (tree.New name x) = search (shows_first, shows_later, expression_shows all block scope (at + 3) x)
assigning_shows all block scope at (tree.Variable name x) = search (shows_first, shows_later, λ (kind : Kind). asked_shows all block scope kind (at + 2) x)
assigning_shows all block scope at (tree.Field name x) = search shows_later
assigning_shows all block scope at (tree.Attribute x name y) = search shows_later

on_entities_shows : (all : Codes) (block : Block) (scope : Scope) (at : ℕ) (e : OnEntities) → Shows false (check_on_entities (on_remove all block) scope at e)
on_entities_shows all block scope at (tree.Create relation child priority) = search shows_later
on_entities_shows all block scope at (tree.Remove child) = search shows_later
on_entities_shows all block scope at (tree.Priority child x) = search shows_later
on_entities_shows all block scope at (tree.Call child method arguments result) = search shows_later depth 7

on_activities_shows : (all : Codes) (block : Block) (scope : Scope) (at : ℕ) (a : OnActivities) → Shows false (check_on_activities (on_remove all block) scope at a)
on_activities_shows all block scope at (tree.Attach who x) = search shows_later
on_activities_shows all block scope at (tree.Detach who x) = search shows_later
on_activities_shows all block scope at (tree.Mask event x) = search shows_later
on_activities_shows all block scope at (tree.Unmask event x) = search shows_later
on_activities_shows all block scope at (tree.Fire event x service fields) = search shows_later depth 7
on_activities_shows all block scope at (tree.Null name) = search shows_later
on_activities_shows all block scope at (tree.Bind x y) = search shows_later

timer_shows : (all : Codes) (block : Block) (scope : Scope) (at : ℕ) (t : SettingTimer) → Shows false (check_timer (on_remove all block) scope at t)
timer_shows all block scope at t = search shows_later depth 7

verb_shows : (all : Codes) (block : Block) (scope : Scope) (at : ℕ) (verb : Verb) (x : Expression) → Shows (is_for_remove (tree.Do verb x)) (check_verb (on_remove all block) scope at verb x)
verb_shows all block scope at v.End x = search shows_later
verb_shows all block scope at v.Cancel x = search shows_later
verb_shows all block scope at v.Unbind x = search shows_later
verb_shows all block scope at v.Emit x = asked_shows all block scope _ (at + 1) x
verb_shows all block scope at v.Return x = search shows_later
verb_shows all block scope at v.Throw x = search shows_later
verb_shows all block scope at v.Suspend x = search shows_later
verb_shows all block scope at v.Resume x = search shows_later

mutual
  statement_shows : (all : Codes) (block : Block) (scope : Scope) (at : ℕ) (y : Statement) → Shows (is_for_remove y) (check_statement (on_remove all block) scope at y)
  statement_shows all block scope at (tree.Assign a) = assigning_shows all block scope at a
  statement_shows all block scope at (tree.Entity e) = on_entities_shows all block scope at e
  statement_shows all block scope at (tree.Activity a) = on_activities_shows all block scope at a
  statement_shows all block scope at (tree.Timer t) = timer_shows all block scope at t
  statement_shows all block scope at (tree.Do verb x) = search (shows_first, verb_shows all block scope at verb x)
  statement_shows all block scope at (tree.Usage name x) = search shows_later
  statement_shows all block scope at tree.Rollback = tt
  statement_shows all block scope at (tree.If x body) =
      search (shows_both, shows_first, asked_shows all block scope k.Bool (at + 1) x, statements_show all block scope (at + 2 + tokens_in x) body)
  statement_shows all block scope at (tree.IfElse x body other) =
      search (shows_both, shows_first, asked_shows all block scope k.Bool (at + 1) x, statements_show all block scope (at + 2 + tokens_in x) body, statements_show all block scope (at + 5 + tokens_in x + tokens_in_statements body) other)
  statement_shows all block scope at (tree.While x body) =
      search (shows_both, shows_first, asked_shows all block scope k.Bool (at + 1) x, statements_show all block scope (at + 2 + tokens_in x) body)
  statement_shows all block scope at (tree.For name over body) = search shows_later

  statements_show : (all : Codes) (block : Block) (scope : Scope) (at : ℕ) (ys : Statements) → Shows (are_for_remove ys) (check_statements (on_remove all block) scope at ys)
  statements_show all block scope at tree.Nothing = refl
  statements_show all block scope at (tree.Then y ys) =
      shows_both (is_for_remove y) (are_for_remove ys) (check_statement (on_remove all block) scope at y) _ (statement_shows all block scope at y) (λ next. statements_show all block next (at + tokens_in_statement y) ys)

shown : {A B : Type 0} (b : Bool) (m : Checked A) (g : A → Checked B) (y : B) → Shows b m → (m >>= g) ≡ Ok y → b ≡ true
shown b (Ok x) g y h e = h
shown b (Err fault) g y h e = cc

task_shown : (all : Codes) (block : Block) (o : Option Statements) (script : Statements) → o ≡ Some script → check_task all block (option_map (task_for OnRemove) o) ≡ Ok tt → are_for_remove script ≡ true
task_shown all block None script e h = cc
task_shown all block (Some other) script e h =
    let same : other ≡ script = cc in
    subst (λ ys. are_for_remove ys ≡ true) same (shown (are_for_remove other) (check_statements (on_remove all block) [] 0 other) _ tt (statements_show all block [] 0 other) h)

-- of well-typed codes each remove script has only what one may have
pub remove_scripts : (all : Codes) (n : ℕ) (block : Block) (script : Statements) → WellTyped all → slice_get all.blocks n ≡ Some block → block.remove ≡ Some script → are_for_remove script ≡ true
remove_scripts all n block script typed e f =
    let place : CodePlace = record { block = n; part = part.Remove } in
    task_shown all block block.remove script f (subst (λ o. check_part all part.Remove o ≡ Ok tt) e (typed place))
