-- What a check of an expression finds gives a value of its type.
use Rattle.std.proofs.Common.{◌≡◌, ◌+◌, true, ℕ, Ok, refl, sym, subst}
use Rattle.std.specs.List.{list_any}
use Rattle.slee_value.specs.declared.kind.Kind.{Kind}
use Rattle.slee_value.specs.declared.kind.Kind.TheVariants as k
use Rattle.script_tree.specs.declared.tree.Prefix.{Prefix}
use Rattle.script_tree.specs.declared.tree.Prefix.TheVariants as p
use Rattle.script_tree.specs.Tree as tree
use Rattle.script_tree.specs.Tree.{Expression}
use Rattle.script_types.specs.declared.misuse.CheckBad.TheVariants as bad
use Rattle.script_types.specs.TypingResult.{tested}
use Rattle.script_types.specs.TypingExpressions.{is_nothing, serves, rule_of, left_fits, right_fits, prefix_kind, query_takes, check_query_place, is_query_known}
use Rattle.script_types.specs.TypingExpressions as typing
use Rattle.script_types.specs.TokenCounts.{tokens_in, tokens_before}
use Rattle.script_types.specs.Scopes.{Scope}
use Rattle.script_types.specs.Elaboration.{Typed, as_kind, expression_of, question_before, operand_kind, asking_of}
use Rattle.script_types.specs.Program.{Term, Ask}
use Rattle.script_meaning.specs.Running.{Setting}
use Rattle.script_laws.proofs.SafeRuns.{tested_true}
use Rattle.script_laws.proofs.SafeExpressions.{Yields, Good, good_then, leaf_good, plainly_serves, served}
use Rattle.script_laws.proofs.SafeComposed.{Operand, operator_yields}
use Rattle.script_laws.proofs.SafeQuestions.{ask_yields, query_fits}

prefix_yields : (m : Setting) (scope : Scope) (op : Prefix) (x : Expression) (found : Kind) (term : Term) → serves x found (prefix_kind op) ≡ true → Yields m scope found term → Yields m scope (prefix_kind op) (Ask (question_before op) term)
prefix_yields m scope p.Negative x found term h yields = ask_yields m scope (question_before p.Negative) term (subst (λ z. Yields m scope z term) (plainly_serves (is_nothing x) found k.Int refl h) yields)
prefix_yields m scope p.Not x found term h yields = ask_yields m scope (question_before p.Not) term (subst (λ z. Yields m scope z term) (plainly_serves (is_nothing x) found k.Bool refl h) yields)

pub good_is : (m : Setting) (s : typing.Setting) (scope : Scope) (at : ℕ) (x : Expression) (one : Typed) → expression_of s scope at x ≡ Ok one → Good m scope (expression_of s scope at x) → Yields m scope one.kind one.term
good_is m s scope at x one e h = subst (Good m scope) e h

-- what an expression is made into gives a value of its type
pub expression_good : (m : Setting) (s : typing.Setting) (scope : Scope) (at : ℕ) (x : Expression) → Good m scope (expression_of s scope at x)
expression_good m s scope at (tree.Leaf leaf) = leaf_good m s scope at leaf
expression_good m s scope at (tree.Unary op x) = good_then m scope (expression_of s scope (at + 1) x) _ (λ one e. good_then m scope (tested bad.Mismatch (at + 1) (serves x one.kind (prefix_kind op))) _ (λ u h.
    prefix_yields m scope op x one.kind one.term (tested_true bad.Mismatch (at + 1) (serves x one.kind (prefix_kind op)) u h) (good_is m s scope (at + 1) x one e (expression_good m s scope (at + 1) x))))
expression_good m s scope at (tree.Binary op x y) = good_then m scope (expression_of s scope at x) _ (λ one e. good_then m scope (tested bad.Mismatch at (left_fits (rule_of op) x one.kind)) _ (λ u f.
    good_then m scope (expression_of s scope (at + tokens_in x + 1) y) _ (λ other g. good_then m scope (tested bad.Mismatch (at + tokens_in x + 1) (right_fits (rule_of op) x one.kind y other.kind)) _ (λ w h.
    let left : Operand m s scope x one = record { at = at; found = e; yields = good_is m s scope at x one e (expression_good m s scope at x) } in
    let right : Operand m s scope y other = record { at = at + tokens_in x + 1; found = g; yields = good_is m s scope (at + tokens_in x + 1) y other g (expression_good m s scope (at + tokens_in x + 1) y) } in
    operator_yields m s scope op x y one other left right (tested_true bad.Mismatch at (left_fits (rule_of op) x one.kind) u f) (tested_true bad.Mismatch (at + tokens_in x + 1) (right_fits (rule_of op) x one.kind y other.kind) w h)))))
expression_good m s scope at (tree.Ask query x) = good_then m scope (tested bad.Name (at + 2) (is_query_known s.codes query)) _ (λ _ _. good_then m scope (expression_of s scope (at + tokens_before query) x) _ (λ one e.
    good_then m scope (tested bad.Mismatch (at + tokens_before query) (list_any (serves x one.kind) (query_takes query))) _ (λ u f. good_then m scope (asking_of s (at + tokens_before query + tokens_in x + 1) one.kind query) _ (λ asking g.
    good_then m scope (check_query_place s at query) _ (λ _ _.
    let fit = query_fits s (at + tokens_before query + tokens_in x + 1) x one.kind query asking (tested_true bad.Mismatch (at + tokens_before query) (list_any (serves x one.kind) (query_takes query)) u f) g in
    let operand : Yields m scope (operand_kind query one.kind) (as_kind (operand_kind query one.kind) x one.term) = served m s scope (at + tokens_before query) x one (operand_kind query one.kind) e (good_is m s scope (at + tokens_before query) x one e (expression_good m s scope (at + tokens_before query) x)) fit.serves_there in
    subst (λ z. Yields m scope z (Ask asking.question (as_kind (operand_kind query one.kind) x one.term))) fit.told (ask_yields m scope asking.question (as_kind (operand_kind query one.kind) x one.term) (subst (λ z. Yields m scope z (as_kind (operand_kind query one.kind) x one.term)) (sym fit.asked) operand)))))))
expression_good m s scope at (tree.Group x) = expression_good m s scope (at + 1) x
