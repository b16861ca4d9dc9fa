-- Where the tokens of a script's spelling have spellings, the constants of the script have.
use Rattle.std.proofs.Common.{List, [], ◌∷◌, ◌++◌, Option, Some, None}
use Rattle.std.specs.List.{AllByRecursion}
use Rattle.script_tree.specs.Spelling.{before_asked, behind_asked, spell_arguments, spell_assigning, spell_expression, spell_fields, spell_leaf, spell_more, spell_more_fields, spell_on_activities, spell_on_entities, spell_over, spell_priority, spell_repeat, spell_service, spell_statement, spell_statements, spell_timer, spell_who}
use Rattle.script_tree.specs.Tree as tree
use Rattle.script_tree.specs.Tree.{Assigning, Bytes, Expression, OnActivities, OnEntities, SettingTimer, Statement, Statements}
use Rattle.script_tree.specs.declared.lexeme.Lexeme.{Lexeme}
use Rattle.script_tree.specs.declared.tree.Leaf.{Leaf}
use Rattle.script_tree.specs.declared.tree.Leaf.TheVariants as l
use Rattle.router_laws_spelled.specs.Written.{ActedSpelled, AssignedSpelled, BothSpelled, ChildrenSpelled, LeafSpelled, MaybeSpelled, StatementSpelled, StatementsSpelled, TimerSpelled, WrittenSpelled}
use Rattle.router_laws_spelled.specs.Lexemes.{LexemeSpelled}

abbrev Good : List Lexeme → Type 0
Good ts = AllByRecursion LexemeSpelled ts

left : (xs ys : List Lexeme) → Good (xs ++ ys) → Good xs
left [] ys all = tt
left (x ∷ xs) ys all = (all.0, left xs ys all.1)

right : (xs ys : List Lexeme) → Good (xs ++ ys) → Good ys
right [] ys all = all
right (x ∷ xs) ys all = right xs ys all.1

leaf_written : (leaf : Leaf) → Good (spell_leaf leaf) → LeafSpelled leaf
leaf_written (l.Int n) all = all.0
leaf_written (l.Text text) all = all.0
leaf_written (l.Constant word) all = tt
leaf_written (l.Variable name) all = tt
leaf_written (l.Field name) all = tt
leaf_written (l.EventField name) all = tt
leaf_written (l.Table name) all = tt
leaf_written (l.Count name) all = tt
leaf_written (l.Priority name) all = tt

written : (x : Expression) → Good (spell_expression x) → WrittenSpelled x
written (tree.Leaf leaf) all = leaf_written leaf all
written (tree.Unary op x) all = written x all.1
written (tree.Binary op x y) all = (written x (left (spell_expression x) _ all), written y (right (spell_expression x) _ all).1)
written (tree.Ask query x) all = written x (left (spell_expression x) (behind_asked query) (right (before_asked query) _ all))
written (tree.Group x) all = written x (left (spell_expression x) _ all.1)

assigned : (x : Assigning) → Good (spell_assigning x) → AssignedSpelled x
assigned (tree.New name x) all = written x all.1.1.1
assigned (tree.Variable name x) all = written x all.1.1
assigned (tree.Field name x) all = written x all.1.1.1.1
assigned (tree.Attribute x name y) all = (written x (left (spell_expression x) _ all.1.1), written y (right (spell_expression x) _ all.1.1).1.1.1.1)

priority : (x : Option Expression) → Good (spell_priority x) → MaybeSpelled x
priority None all = tt
priority (Some x) all = written x all.1

more_written : (xs : List Expression) → Good (spell_more xs) → AllByRecursion WrittenSpelled xs
more_written [] all = tt
more_written (x ∷ xs) all = (written x (left (spell_expression x) (spell_more xs) all.1), more_written xs (right (spell_expression x) (spell_more xs) all.1))

arguments : (xs : List Expression) → Good (spell_arguments xs) → AllByRecursion WrittenSpelled xs
arguments [] all = tt
arguments (x ∷ xs) all = (written x (left (spell_expression x) (spell_more xs) all), more_written xs (right (spell_expression x) (spell_more xs) all))

children : (x : OnEntities) → Good (spell_on_entities x) → ChildrenSpelled x
children (tree.Create relation child rank) all = priority rank all.1.1.1.1
children (tree.Remove child) all = tt
children (tree.Priority child x) all = written x all.1.1
children (tree.Call child method xs result) all = arguments xs (left (spell_arguments xs) _ all.1.1.1.1.1)

more_fields : (fields : List (Bytes × Expression)) → Good (spell_more_fields fields) → AllByRecursion (λ (f : Bytes × Expression). WrittenSpelled f.1) fields
more_fields [] all = tt
more_fields (f ∷ fields) all = (written f.1 (left (spell_expression f.1) (spell_more_fields fields) all.1.1.1), more_fields fields (right (spell_expression f.1) (spell_more_fields fields) all.1.1.1))

fields_written : (fields : List (Bytes × Expression)) → Good (spell_fields fields) → AllByRecursion (λ (f : Bytes × Expression). WrittenSpelled f.1) fields
fields_written [] all = tt
fields_written (f ∷ fields) all = (written f.1 (left (spell_expression f.1) (spell_more_fields fields) all.1.1.1), more_fields fields (right (spell_expression f.1) (spell_more_fields fields) all.1.1.1))

acted : (x : OnActivities) → Good (spell_on_activities x) → ActedSpelled x
acted (tree.Attach who x) all = written x (right (spell_who who) _ all.1).1
acted (tree.Detach who x) all = written x (right (spell_who who) _ all.1).1
acted (tree.Mask event x) all = written x all.1.1.1
acted (tree.Unmask event x) all = written x all.1.1.1
acted (tree.Fire event x service fields) all = (written x (left (spell_expression x) _ all.1.1.1), fields_written fields (right (spell_service service) (spell_fields fields) (right (spell_expression x) _ all.1.1.1)))
acted (tree.Null name) all = tt
acted (tree.Bind x y) all = (written x (left (spell_expression x) _ all.1), written y (right (spell_expression x) _ all.1).1)

repeated : (x : Option (Expression × Expression)) → Good (spell_repeat x) → BothSpelled x
repeated None all = tt
repeated (Some r) all = (written r.0 (left (spell_expression r.0) _ all.1), written r.1 (right (spell_expression r.0) _ all.1).1)

timed : (t : SettingTimer) → Good (spell_timer t) → TimerSpelled t
timed t all =
    let start = (right (spell_expression t.activity) _ all.1.1.1).1 in
    (written t.activity (left (spell_expression t.activity) _ all.1.1.1), written t.start (left (spell_expression t.start) _ start), repeated t.repeat (left (spell_repeat t.repeat) _ (right (spell_expression t.start) _ start)))

mutual
  statement : (x : Statement) → Good (spell_statement x) → StatementSpelled x
  statement (tree.Assign x) all = assigned x (left (spell_assigning x) _ all)
  statement (tree.Entity x) all = children x (left (spell_on_entities x) _ all)
  statement (tree.Activity x) all = acted x (left (spell_on_activities x) _ all)
  statement (tree.Timer x) all = timed x (left (spell_timer x) _ all)
  statement (tree.Do verb x) all = written x (left (spell_expression x) _ all.1)
  statement (tree.Usage name x) all = written x (left (spell_expression x) _ all.1.1)
  statement tree.Rollback all = tt
  statement (tree.If x body) all = (written x (left (spell_expression x) _ all.1), statements body (left (spell_statements body) _ (right (spell_expression x) _ all.1).1))
  statement (tree.IfElse x body other) all =
      let both = (right (spell_expression x) _ all.1).1 in
      (written x (left (spell_expression x) _ all.1), statements body (left (spell_statements body) _ (left (spell_statements body ++ _ ∷ []) _ both)), statements other (left (spell_statements other) _ (right (spell_statements body ++ _ ∷ []) _ both).1.1))
  statement (tree.While x body) all = (written x (left (spell_expression x) _ all.1), statements body (left (spell_statements body) _ (right (spell_expression x) _ all.1).1))
  statement (tree.For name over body) all = statements body (left (spell_statements body) _ (right (spell_over over) _ all.1.1.1).1)

  pub statements : (xs : Statements) → Good (spell_statements xs) → StatementsSpelled xs
  statements tree.Nothing all = tt
  statements (tree.Then x more) all = (statement x (left (spell_statement x) (spell_statements more) all), statements more (right (spell_statement x) (spell_statements more) all))
