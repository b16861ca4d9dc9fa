-- A remove script is made into steps that read nothing but fields.
use Rattle.std.proofs.Common.{◌+◌, Bool, true, false, cond, ℕ, Ok}
use Rattle.std.specs.List.{list_any}
use Rattle.slee_value.specs.declared.kind.Kind.{Kind}
use Rattle.slee_value.specs.declared.kind.Kind.TheVariants as k
use Rattle.script_tree.specs.declared.symbol.Constant.{Constant}
use Rattle.script_tree.specs.declared.symbol.Constant.TheVariants as c
use Rattle.script_tree.specs.declared.symbol.Function.TheVariants as f
use Rattle.script_tree.specs.declared.symbol.Operator.{Operator}
use Rattle.script_tree.specs.declared.symbol.Operator.TheVariants as o
use Rattle.script_tree.specs.declared.symbol.Verb.{Verb}
use Rattle.script_tree.specs.declared.symbol.Verb.TheVariants as v
use Rattle.script_tree.specs.declared.tree.Leaf.{Leaf}
use Rattle.script_tree.specs.declared.tree.Leaf.TheVariants as l
use Rattle.script_tree.specs.declared.tree.Prefix.{Prefix}
use Rattle.script_tree.specs.declared.tree.Prefix.TheVariants as p
use Rattle.script_tree.specs.declared.tree.Query.{Query}
use Rattle.script_tree.specs.declared.tree.Query.TheVariants as q
use Rattle.script_tree.specs.Tree as tree
use Rattle.script_tree.specs.Tree.{Expression, Assigning, OnEntities, OnActivities, SettingTimer, Statement, Statements}
use Rattle.script_types.specs.declared.misuse.CheckBad.TheVariants as bad
use Rattle.script_types.specs.declared.term.Atom.{Atom}
use Rattle.script_types.specs.declared.term.Atom.TheVariants as a
use Rattle.script_types.specs.declared.term.Question.{Question}
use Rattle.script_types.specs.declared.term.Question.TheVariants as g
use Rattle.script_types.specs.Codes.{Codes, Block, kind_in, relation_named}
use Rattle.script_types.specs.TypingResult.{Checked, tested, known}
use Rattle.script_types.specs.TypingResult as checked
use Rattle.script_types.specs.TypingExpressions.{Setting, OnRemove, serves, check_query_place, is_query_known, is_nothing, prefix_kind, rule_of, left_fits, right_fits, query_takes}
use Rattle.script_types.specs.Scopes.{Scope, check_new}
use Rattle.script_types.specs.TokenCounts.{tokens_in, tokens_before, tokens_in_statement, tokens_in_statements}
use Rattle.script_types.specs.Elaboration.{Typed, Asking, none_of, as_kind, value_named, child_named, constant_of, table_activity, leaf_of, question_before, question_of, kind_between, between, asking_of, operand_kind, expression_of, asked_of}
use Rattle.script_types.specs.ElaborationOfStatements.{Made, MadeAll, assigning_of, on_entities_of, on_activities_of, timer_of, verb_of, statement_made, statements_made}
use Rattle.script_types.specs.Program as steps
use Rattle.script_types.specs.Program.{Term, Single, Ask, Compare, Combine, Step, Steps}
use Rattle.script_laws.proofs.NumberedResults.{AllOk, ok_then, skip}

-- a constant, a variable or a field
abbrev pub IsOwnAtom : Atom → Type 0
IsOwnAtom (a.Constant x) = Unit {0}
IsOwnAtom (a.Slot place) = Unit {0}
IsOwnAtom (a.Field x kind) = Unit {0}
IsOwnAtom _ = ⊥

-- text(e), len(e) and what stands before an operand
abbrev pub IsOwnQuestion : Question → Type 0
IsOwnQuestion g.Negative = Unit {0}
IsOwnQuestion g.Not = Unit {0}
IsOwnQuestion g.TextOfInt = Unit {0}
IsOwnQuestion g.TextOfBool = Unit {0}
IsOwnQuestion g.Len = Unit {0}
IsOwnQuestion _ = ⊥

abbrev pub IsOwnTerm : Term → Type 0
IsOwnTerm (Single x) = IsOwnAtom x
IsOwnTerm (Ask question x) = IsOwnQuestion question × IsOwnTerm x
IsOwnTerm (Compare _ x y) = IsOwnTerm x × IsOwnTerm y
IsOwnTerm (Combine _ x y) = IsOwnTerm x × IsOwnTerm y

-- `let`, assignment of variables, `emit`, `if` and `while`
abbrev mutual
  pub IsOwnStep : Step → Type 0
  IsOwnStep (steps.Assign (steps.New x)) = IsOwnTerm x
  IsOwnStep (steps.Assign (steps.Variable place x)) = IsOwnTerm x
  IsOwnStep (steps.Say (steps.Emit x)) = IsOwnTerm x
  IsOwnStep (steps.If x body other) = IsOwnTerm x × (AreOwnSteps body × AreOwnSteps other)
  IsOwnStep (steps.While x body) = IsOwnTerm x × AreOwnSteps body
  IsOwnStep _ = ⊥

  pub AreOwnSteps : Steps → Type 0
  AreOwnSteps steps.Nothing = Unit {0}
  AreOwnSteps (steps.Then x rest) = IsOwnStep x × AreOwnSteps rest

-- one term or the other, as `none` or the term where a value of that kind is asked for
either_own : (b : Bool) (x y : Term) → IsOwnTerm x → IsOwnTerm y → IsOwnTerm (cond b x y)
either_own true x y h g = h
either_own false x y h g = g

as_kind_own : (kind : Kind) (x : Expression) (term : Term) → IsOwnTerm term → IsOwnTerm (as_kind kind x term)
as_kind_own kind x term h = either_own (is_nothing x) (Single (a.Constant (none_of kind))) term tt h

prefix_own : (op : Prefix) → IsOwnQuestion (question_before op)
prefix_own p.Negative = tt
prefix_own p.Not = tt

between_own : (op : Operator) (kind : Kind) (x y : Term) → IsOwnTerm x → IsOwnTerm y → IsOwnTerm (between op kind x y)
between_own o.Or kind x y h g = (h, g)
between_own _ kind x y h g = (h, g)

text_own : (kind : Kind) → IsOwnQuestion (question_of f.Text kind)
text_own k.Bool = tt
text_own _ = tt

module _ (all : Codes) (block : Block) where
  -- where a remove script stands
  abbrev pub on_remove : Setting
  on_remove = record { codes = all; block = block; role = OnRemove }

  abbrev IsOwnTyped : Typed → Type 0
  IsOwnTyped one = IsOwnTerm one.term

  constant_own : (at : ℕ) (word : Constant) → AllOk IsOwnTyped (constant_of on_remove at word)
  constant_own at c.True = tt
  constant_own at c.False = tt
  constant_own at c.Nothing = tt
  constant_own at c.Now = tt
  constant_own at c.Activity = tt
  constant_own at c.Failure = tt

  leaf_own : (scope : Scope) (at : ℕ) (leaf : Leaf) → AllOk IsOwnTyped (leaf_of on_remove scope at leaf)
  leaf_own scope at (l.Int n) = tt
  leaf_own scope at (l.Text text) = tt
  leaf_own scope at (l.Constant word) = constant_own at word
  leaf_own scope at (l.Variable name) = skip IsOwnTyped (value_named scope name at) _ (λ x. tt)
  leaf_own scope at (l.Field name) = skip IsOwnTyped (known (at + 2) (kind_in name block.fields)) _ (λ kind. tt)
  leaf_own scope at (l.EventField name) = tt
  leaf_own scope at (l.Table name) = skip IsOwnTyped (known (at + 2) (table_activity all name)) _ (λ x. tt)
  leaf_own scope at (l.Count name) = skip IsOwnTyped (known (at + 2) (relation_named name block)) _ (λ x. tt)
  leaf_own scope at (l.Priority name) = skip IsOwnTyped (child_named scope name (at + 2)) _ (λ x. tt)

  -- a question that a remove script may have
  ask_own : (at place : ℕ) (found : Kind) (query : Query) (term : Term) → IsOwnTerm term
      → AllOk IsOwnTyped (checked.◌>>=◌ (asking_of on_remove at found query) (λ (asking : Asking). checked.◌>>=◌ (check_query_place on_remove place query) (λ _. Ok (record { kind = asking.kind; term = Ask asking.question term }))))
  ask_own at place found (q.Plain f.Text) term h = (text_own found, h)
  ask_own at place found (q.Plain f.Len) term h = (tt, h)
  ask_own at place found (q.Plain f.Active) term h = tt
  ask_own at place found (q.Plain f.Attached) term h = tt
  ask_own at place found (q.Plain f.Bound) term h = tt
  ask_own at place found (q.Plain f.Lookup) term h = tt
  ask_own at place found (q.Plain f.HasTimer) term h = tt
  ask_own at place found (q.Masked event) term h = tt
  ask_own at place found (q.Attribute name) term h = skip IsOwnTyped (asking_of on_remove at found (q.Attribute name)) _ (λ asking. tt)
  ask_own at place found (q.Profile table name) term h = skip IsOwnTyped (asking_of on_remove at found (q.Profile table name)) _ (λ asking. tt)
  ask_own at place found (q.HasProfile table) term h = tt

  expression_own : (scope : Scope) (at : ℕ) (x : Expression) → AllOk IsOwnTyped (expression_of on_remove scope at x)
  expression_own scope at (tree.Leaf leaf) = leaf_own scope at leaf
  expression_own scope at (tree.Unary op x) =
      ok_then IsOwnTyped IsOwnTyped (expression_of on_remove scope (at + 1) x) _ (expression_own scope (at + 1) x) (λ one h.
      skip IsOwnTyped (tested bad.Mismatch (at + 1) (serves x one.kind (prefix_kind op))) _ (λ _. (prefix_own op, h)))
  expression_own scope at (tree.Binary op x y) =
      ok_then IsOwnTyped IsOwnTyped (expression_of on_remove scope at x) _ (expression_own scope at x) (λ one h.
      skip IsOwnTyped (tested bad.Mismatch at (left_fits (rule_of op) x one.kind)) _ (λ _.
      ok_then IsOwnTyped IsOwnTyped (expression_of on_remove scope (at + tokens_in x + 1) y) _ (expression_own scope (at + tokens_in x + 1) y) (λ other g.
      skip IsOwnTyped (tested bad.Mismatch (at + tokens_in x + 1) (right_fits (rule_of op) x one.kind y other.kind)) _ (λ _.
      let kind : Kind = kind_between one.kind other.kind in
      between_own op kind (as_kind kind x one.term) (as_kind kind y other.term) (as_kind_own kind x one.term h) (as_kind_own kind y other.term g)))))
  expression_own scope at (tree.Ask query x) =
      skip IsOwnTyped (tested bad.Name (at + 2) (is_query_known all query)) _ (λ _.
      ok_then IsOwnTyped IsOwnTyped (expression_of on_remove scope (at + tokens_before query) x) _ (expression_own scope (at + tokens_before query) x) (λ one h.
      skip IsOwnTyped (tested bad.Mismatch (at + tokens_before query) (list_any (serves x one.kind) (query_takes query))) _ (λ _.
      ask_own (at + tokens_before query + tokens_in x + 1) at one.kind query (as_kind (operand_kind query one.kind) x one.term) (as_kind_own (operand_kind query one.kind) x one.term h))))
  expression_own scope at (tree.Group x) = expression_own scope (at + 1) x

  -- where one type is asked for
  asked_own : (scope : Scope) (kind : Kind) (at : ℕ) (x : Expression) → AllOk IsOwnTerm (asked_of on_remove scope kind at x)
  asked_own scope kind at x =
      ok_then IsOwnTyped IsOwnTerm (expression_of on_remove scope at x) _ (expression_own scope at x) (λ one h.
      skip IsOwnTerm (tested bad.Mismatch at (serves x one.kind kind)) _ (λ _. as_kind_own kind x one.term h))

  -- what is made behind such an expression
  after_asked : {A : Type 0} (Q : A → Type 0) (scope : Scope) (kind : Kind) (at : ℕ) (x : Expression) (g : Term → Checked A) → ((term : Term) → IsOwnTerm term → AllOk Q (g term)) → AllOk Q (checked.◌>>=◌ (asked_of on_remove scope kind at x) g)
  after_asked Q scope kind at x g go = ok_then IsOwnTerm Q (asked_of on_remove scope kind at x) g (asked_own scope kind at x) go

  abbrev IsOwnMade : Made → Type 0
  IsOwnMade made = IsOwnStep made.step

  abbrev pub AreOwnMade : MadeAll → Type 0
  AreOwnMade made = AreOwnSteps made.steps

  ruleset skipped = skip

  assigning_own : (scope : Scope) (at : ℕ) (x : Assigning) → AllOk IsOwnMade (assigning_of on_remove scope at x)
  assigning_own scope at (tree.New name x) =
      skip IsOwnMade (check_new scope name (at + 1)) _ (λ _. ok_then IsOwnTyped IsOwnMade (expression_of on_remove scope (at + 3) x) _ (expression_own scope (at + 3) x) (λ one h. h))
  assigning_own scope at (tree.Variable name x) =
      skip IsOwnMade (value_named scope name at) _ (λ variable. after_asked IsOwnMade scope variable.kind (at + 2) x _ (λ term h. h))
  assigning_own scope at (tree.Field name x) = search skipped
  assigning_own scope at (tree.Attribute x name y) = search skipped

  entities_own : (scope : Scope) (at : ℕ) (x : OnEntities) → AllOk IsOwnMade (on_entities_of on_remove scope at x)
  entities_own scope at (tree.Create name child priority) = search skipped
  entities_own scope at (tree.Remove child) = search skipped
  entities_own scope at (tree.Priority child x) = search skipped
  entities_own scope at (tree.Call child name arguments result) = search skipped depth 7

  activities_own : (scope : Scope) (at : ℕ) (x : OnActivities) → AllOk IsOwnMade (on_activities_of on_remove scope at x)
  activities_own scope at (tree.Attach who x) = search skipped
  activities_own scope at (tree.Detach who x) = search skipped
  activities_own scope at (tree.Mask event x) = search skipped
  activities_own scope at (tree.Unmask event x) = search skipped
  activities_own scope at (tree.Fire name x service fields) = search skipped depth 7
  activities_own scope at (tree.Null name) = search skipped
  activities_own scope at (tree.Bind x y) = search skipped

  timer_own : (scope : Scope) (at : ℕ) (t : SettingTimer) → AllOk IsOwnMade (timer_of on_remove scope at t)
  timer_own scope at t = search skipped depth 7

  verb_own : (scope : Scope) (at : ℕ) (verb : Verb) (x : Expression) → AllOk IsOwnStep (verb_of on_remove scope at verb x)
  verb_own scope at v.End x = search skipped
  verb_own scope at v.Cancel x = search skipped
  verb_own scope at v.Unbind x = search skipped
  verb_own scope at v.Emit x = after_asked IsOwnStep scope k.Text (at + 1) x _ (λ term h. h)
  verb_own scope at v.Return x = search skipped
  verb_own scope at v.Throw x = search skipped
  verb_own scope at v.Suspend x = search skipped
  verb_own scope at v.Resume x = search skipped

  mutual
    statement_own : (scope : Scope) (at : ℕ) (x : Statement) → AllOk IsOwnMade (statement_made on_remove scope at x)
    statement_own scope at (tree.Assign x) = assigning_own scope at x
    statement_own scope at (tree.Entity x) = entities_own scope at x
    statement_own scope at (tree.Activity x) = activities_own scope at x
    statement_own scope at (tree.Timer x) = timer_own scope at x
    statement_own scope at (tree.Do verb x) = ok_then IsOwnStep IsOwnMade (verb_of on_remove scope at verb x) _ (verb_own scope at verb x) (λ step h. h)
    statement_own scope at (tree.Usage name x) = search skipped
    statement_own scope at tree.Rollback = tt
    statement_own scope at (tree.If x body) =
        after_asked IsOwnMade scope k.Bool (at + 1) x _ (λ term h.
        ok_then AreOwnMade IsOwnMade (statements_made on_remove scope (at + 2 + tokens_in x) body) _ (statements_own scope (at + 2 + tokens_in x) body) (λ inner g. (h, (g, tt))))
    statement_own scope at (tree.IfElse x body other) =
        after_asked IsOwnMade scope k.Bool (at + 1) x _ (λ term h.
        ok_then AreOwnMade IsOwnMade (statements_made on_remove scope (at + 2 + tokens_in x) body) _ (statements_own scope (at + 2 + tokens_in x) body) (λ inner g.
        ok_then AreOwnMade IsOwnMade (statements_made on_remove scope (at + 5 + tokens_in x + tokens_in_statements body) other) _ (statements_own scope (at + 5 + tokens_in x + tokens_in_statements body) other) (λ second j. (h, (g, j)))))
    statement_own scope at (tree.While x body) =
        after_asked IsOwnMade scope k.Bool (at + 1) x _ (λ term h.
        ok_then AreOwnMade IsOwnMade (statements_made on_remove scope (at + 2 + tokens_in x) body) _ (statements_own scope (at + 2 + tokens_in x) body) (λ inner g. (h, g)))
    statement_own scope at (tree.For name list body) = search skipped

    pub statements_own : (scope : Scope) (at : ℕ) (xs : Statements) → AllOk AreOwnMade (statements_made on_remove scope at xs)
    statements_own scope at tree.Nothing = tt
    statements_own scope at (tree.Then x more) =
        ok_then IsOwnMade AreOwnMade (statement_made on_remove scope at x) _ (statement_own scope at x) (λ one h.
        ok_then AreOwnMade AreOwnMade (statements_made on_remove one.scope (at + tokens_in_statement x) more) _ (statements_own one.scope (at + tokens_in_statement x) more) (λ others g. (h, g)))
