-- An expression has the type of the term that it is made into.
use Rattle.std.proofs.Common.{◌≡◌, ◌+◌, ℕ, Option, Some, None, Ok, refl}
use Rattle.std.specs.Prelude.{option_map}
use Rattle.slee_value.specs.declared.kind.Kind.{Kind}
use Rattle.script_types.specs.declared.codes.AttributeCode.{AttributeCode}
use Rattle.std.specs.List.{list_any}
use Rattle.script_types.specs.declared.misuse.CheckBad.TheVariants as bad
use Rattle.script_tree.specs.declared.tree.Query.{Query}
use Rattle.script_tree.specs.declared.tree.Query.TheVariants as q
use Rattle.script_tree.specs.Tree as tree
use Rattle.script_tree.specs.Tree.{Expression}
use Rattle.script_types.specs.Codes.{row_kind}
use Rattle.script_types.specs.TypingResult.{Checked, ◌>>=◌, known, tested}
use Rattle.script_types.specs.Scopes.{Scope}
use Rattle.script_types.specs.TokenCounts.{tokens_in, tokens_before}
use Rattle.script_types.specs.TypingExpressions.{Setting, query_gives, check_expression, check_asked, check_query_place, is_query_known, prefix_kind, rule_of, left_fits, right_fits, query_takes, serves}
use Rattle.script_types.specs.Elaboration.{Asking, attribute_named, attribute_question, asking_of, expression_of, asked_of}
use Rattle.script_laws.proofs.TypedAlike.{Same, same_then, same_after, same_end, same_self, same_test}
use Rattle.script_laws.proofs.TypedLeaves.{kind_of, leaf_same}

abbrev gives : Asking → Kind
gives x = x.kind

attribute_found : (o : Option AttributeCode) (at : ℕ) (make : AttributeCode → Asking) → ((x : AttributeCode) → (make x).kind ≡ x.kind) → Same gives (known at o >>= λ x. (let z : Checked Asking = Ok (make x) in z)) (known at (option_map (λ x. x.kind) o))
attribute_found None at make h = refl
attribute_found (Some x) at make h = let same = h x in cc

asking_same : (s : Setting) (at : ℕ) (found : Kind) (x : Query) → Same gives (asking_of s at found x) (query_gives s at x)
asking_same s at found (q.Plain f) = refl
asking_same s at found (q.Masked event) = refl
asking_same s at found (q.Attribute name) = attribute_found (attribute_named name s.block) at (λ x. record { kind = x.kind; question = attribute_question s.codes x }) (λ _. refl)
asking_same s at found (q.Profile table name) = same_end (λ (x : Kind). x) gives (known at (row_kind table name s.codes)) (known at (row_kind table name s.codes)) _ (same_self (known at (row_kind table name s.codes))) (λ _. refl)
asking_same s at found (q.HasProfile table) = refl

pub expression_same : (s : Setting) (scope : Scope) (at : ℕ) (x : Expression) → Same kind_of (expression_of s scope at x) (check_expression s scope at x)
expression_same s scope at (tree.Leaf leaf) = leaf_same s scope at leaf
expression_same s scope at (tree.Unary op x) =
    same_then kind_of kind_of _ _ _ _ (expression_same s scope (at + 1) x) (λ one.
    same_after kind_of (tested bad.Mismatch (at + 1) (serves x one.kind (prefix_kind op))) _ _ (λ _. refl))
expression_same s scope at (tree.Binary op x y) =
    same_then kind_of kind_of _ _ _ _ (expression_same s scope at x) (λ one.
    same_after kind_of (tested bad.Mismatch at (left_fits (rule_of op) x one.kind)) _ _ (λ _.
    same_then kind_of kind_of _ _ _ _ (expression_same s scope (at + tokens_in x + 1) y) (λ other.
    same_after kind_of (tested bad.Mismatch (at + tokens_in x + 1) (right_fits (rule_of op) x one.kind y other.kind)) _ _ (λ _. refl))))
expression_same s scope at (tree.Ask query x) =
    same_after kind_of (tested bad.Name (at + 2) (is_query_known s.codes query)) _ _ (λ _.
    same_then kind_of kind_of _ _ _ _ (expression_same s scope (at + tokens_before query) x) (λ one.
    same_after kind_of (tested bad.Mismatch (at + tokens_before query) (list_any (serves x one.kind) (query_takes query))) _ _ (λ _.
    same_then gives kind_of _ _ _ _ (asking_same s (at + tokens_before query + tokens_in x + 1) one.kind query) (λ asking.
    same_after kind_of (check_query_place s at query) _ _ (λ _. refl)))))
expression_same s scope at (tree.Group x) = expression_same s scope (at + 1) x

abbrev pub nothing : {A : Type 0} → A → Unit {0}
nothing x = tt

pub asked_same : (s : Setting) (scope : Scope) (asked : Kind) (at : ℕ) (x : Expression) → Same nothing (asked_of s scope asked at x) (check_asked s scope asked at x)
asked_same s scope asked at x = same_then kind_of nothing _ _ _ _ (expression_same s scope at x) (λ one. same_test (tested bad.Mismatch at (serves x one.kind asked)) _)
