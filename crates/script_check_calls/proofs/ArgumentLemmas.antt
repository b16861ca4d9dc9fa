-- Arguments, from one place on: the first, and those behind it. And how many tokens they have.
use Rattle.std.proofs.Common.{◌≡◌, ◌+◌, ◌-◌, ◌<◌, ℕ, Bool, true, false, List, [], ◌∷◌, ◌++◌, length, drop, get_or, map, Ok, Err, refl, sym, ap, ◌∙◌, arith, add-one, drop-cons, drop-drop}
use Rattle.std.specs.Prelude.{slice_get}
use Rattle.std.proofs.lemmas.List.{length-append}
use Rattle.script_tree.specs.declared.tree.Expr.{Expr}
use Rattle.script_tree.specs.Tree.{Expression, tree_of}
use Rattle.script_tree.specs.Spelling.{spell_expression, spell_more}
use Rattle.script_types.specs.declared.codes.FieldCode.{FieldCode}
use Rattle.script_types.specs.Scopes.{Scope}
use Rattle.script_types.specs.TokenCounts.{tokens_in, tokens_in_arguments}
use Rattle.script_types.specs.TypingExpressions.{Setting}
use Rattle.script_types.specs.TypingResult.{Checked}
use Rattle.script_types.specs.TypingStatements.{argument_fits}
use Rattle.script_types.specs.Program.{Term}
use Rattle.script_types.specs.Elaboration.{Typed, expression_of}
use Rattle.script_types.specs.ElaborationOfStatements.{arguments_of}
use Rattle.script_check_calls.specs.Parts.{argument_made}
use Rattle.script_check_terms.specs.declared.fault.ScriptFault.{ScriptFault}
use Rattle.script_check_terms.specs.Answers.{Refuses}
use Rattle.script_check_calls.proofs.PartLemmas.{behind, then_more, first_behind, part_made, part_refused}

fits_or_not : (s : Setting) (scope : Scope) (ps : List FieldCode) (at : ℕ) (x : Expression) (more : List Expression) (one : Typed) (fits : Bool) → expression_of s scope at x ≡ Ok one → argument_fits (slice_get ps 0) x one.kind ≡ fits → arguments_of s scope ps at (x ∷ more) ≡ then_more (argument_made s scope (slice_get ps 0) at x) (arguments_of s scope (drop 1 ps) (at + tokens_in x + 1) more)
fits_or_not s scope ps at x more one true e h = rw (e, h) refl
fits_or_not s scope ps at x more one false e h = rw (e, h) refl

made_or_not : (s : Setting) (scope : Scope) (ps : List FieldCode) (at : ℕ) (x : Expression) (more : List Expression) (m : Checked Typed) → expression_of s scope at x ≡ m → arguments_of s scope ps at (x ∷ more) ≡ then_more (argument_made s scope (slice_get ps 0) at x) (arguments_of s scope (drop 1 ps) (at + tokens_in x + 1) more)
made_or_not s scope ps at x more (Ok one) e = fits_or_not s scope ps at x more one (argument_fits (slice_get ps 0) x one.kind) e refl
made_or_not s scope ps at x more (Err fault) e = rw e refl

pub arguments_next : (s : Setting) (scope : Scope) (ps : List FieldCode) (at : ℕ) (xs : List Expr) (i : ℕ) (x : Expr) → i < length xs → x ≡ get_or xs i x → arguments_of s scope (drop i ps) at (map tree_of (drop i xs)) ≡ then_more (argument_made s scope (slice_get ps i) at (tree_of x)) (arguments_of s scope (drop (i + 1) ps) (at + tokens_in (tree_of x) + 1) (map tree_of (drop (i + 1) xs)))
arguments_next s scope ps at xs i x lt is =
    let next : drop i xs ≡ x ∷ drop (i + 1) xs = rw (drop-cons xs i x lt, ← is, add-one) refl in
    ap (λ ys. arguments_of s scope (drop i ps) at (map tree_of ys)) next
    ∙ made_or_not s scope (drop i ps) at (tree_of x) (map tree_of (drop (i + 1) xs)) (expression_of s scope at (tree_of x)) refl
    ∙ ap (λ p. then_more (argument_made s scope p at (tree_of x)) (arguments_of s scope (drop 1 (drop i ps)) (at + tokens_in (tree_of x) + 1) (map tree_of (drop (i + 1) xs)))) (first_behind ps i)
    ∙ ap (λ qs. then_more (argument_made s scope (slice_get ps i) at (tree_of x)) (arguments_of s scope qs (at + tokens_in (tree_of x) + 1) (map tree_of (drop (i + 1) xs)))) (drop-drop 1 i ps)

-- what the arguments from place i on give
abbrev pub arguments_from : Setting → Scope → List FieldCode → ℕ → List Expr → ℕ → Checked (List Term)
arguments_from s scope ps at xs i = arguments_of s scope (drop i ps) at (map tree_of (drop i xs))

pub argument_refused : (s : Setting) (scope : Scope) (ps : List FieldCode) (at : ℕ) (xs : List Expr) (i : ℕ) (x : Expr) (done : List Term) (whole : Checked (List Term)) (e : ScriptFault) → i < length xs → x ≡ get_or xs i x → behind done (arguments_from s scope ps at xs i) ≡ whole → Refuses (argument_made s scope (slice_get ps i) at (tree_of x)) e → Refuses whole e
argument_refused s scope ps at xs i x done whole e lt is h r = part_refused done (argument_made s scope (slice_get ps i) at (tree_of x)) (arguments_from s scope ps (at + tokens_in (tree_of x) + 1) xs (i + 1)) whole e (ap (behind done) (sym (arguments_next s scope ps at xs i x lt is)) ∙ h) r

pub argument_done : (s : Setting) (scope : Scope) (ps : List FieldCode) (at : ℕ) (xs : List Expr) (i : ℕ) (x : Expr) (done : List Term) (whole : Checked (List Term)) (made : Term) → i < length xs → x ≡ get_or xs i x → behind done (arguments_from s scope ps at xs i) ≡ whole → argument_made s scope (slice_get ps i) at (tree_of x) ≡ Ok made → behind (done ++ made ∷ []) (arguments_from s scope ps (at + tokens_in (tree_of x) + 1) xs (i + 1)) ≡ whole
argument_done s scope ps at xs i x done whole made lt is h r = part_made done made (argument_made s scope (slice_get ps i) at (tree_of x)) (arguments_from s scope ps (at + tokens_in (tree_of x) + 1) xs (i + 1)) whole (ap (behind done) (sym (arguments_next s scope ps at xs i x lt is)) ∙ h) r

-- with a comma before each
abbrev pub tokens_with_commas : List Expr → ℕ
tokens_with_commas xs = length (spell_more (map tree_of xs))

pub tokens_next : (xs : List Expr) (i : ℕ) (x : Expr) → i < length xs → x ≡ get_or xs i x → tokens_with_commas (drop i xs) ≡ 1 + tokens_in (tree_of x) + tokens_with_commas (drop (i + 1) xs)
tokens_next xs i x lt is =
    let next : drop i xs ≡ x ∷ drop (i + 1) xs = rw (drop-cons xs i x lt, ← is, add-one) refl in
    let both : length (spell_expression (tree_of x) ++ spell_more (map tree_of (drop (i + 1) xs))) ≡ tokens_in (tree_of x) + tokens_with_commas (drop (i + 1) xs) = length-append (spell_expression (tree_of x)) (spell_more (map tree_of (drop (i + 1) xs))) in
    ap tokens_with_commas next ∙ (let e : length (spell_more (tree_of x ∷ map tree_of (drop (i + 1) xs))) ≡ 1 + tokens_in (tree_of x) + tokens_with_commas (drop (i + 1) xs) = omega (arith, both) in e)

pub commas_between : (xs : List Expr) → tokens_in_arguments (map tree_of xs) ≡ tokens_with_commas xs - 1
commas_between [] = refl
commas_between (x ∷ xs) = omega arith
