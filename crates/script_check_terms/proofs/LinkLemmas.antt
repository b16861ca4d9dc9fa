-- One operator more: what its facts give.
use Rattle.std.proofs.Common.{◌≡◌, ◌<◌, ◌+◌, ◌++◌, ℕ, Bool, true, false, List, take, length, get_or, Ok, Err, Result, refl, sym, ap, subst, ◌∙◌, arith}
use Rattle.script_tree.specs.declared.symbol.Operator.{Operator}
use Rattle.script_tree.specs.declared.tree.Expr.{Expr}
use Rattle.script_tree.specs.Tree.{Expression, Binary, tree_of, joined}
use Rattle.script_types.specs.declared.misuse.CheckBad.{CheckBad}
use Rattle.script_types.specs.declared.misuse.CheckBad.TheVariants as bad
use Rattle.script_types.specs.TypingResult.{Checked, ◌>>=◌, tested}
use Rattle.script_types.specs.TypingExpressions.{Setting, is_nothing, left_fits, rule_of}
use Rattle.script_types.specs.Scopes.{Scope}
use Rattle.script_types.specs.Elaboration.{Typed, expression_of}
use Rattle.script_types.specs.TokenCounts.{tokens_in}
use Rattle.script_check_terms.specs.declared.fault.ScriptFault.{ScriptFault}
use Rattle.script_check_terms.specs.declared.expression.TypedTerm.{TypedTerm}
use Rattle.script_check_terms.specs.declared.joining.Side.{Side}
use Rattle.script_check_terms.specs.declared.operator.Operand.{Operand}
use Rattle.script_check_terms.specs.declared.operator.Rule.{Rule}
use Rattle.script_check_terms.specs.Answers.{Refuses, Gives}
use Rattle.script_check_terms.specs.Rules.{rule_in}
use Rattle.script_check_terms.specs.TypedTerms.{typed_of}
use Rattle.script_check_terms.specs.Links.{Makes}
use Rattle.script_check_terms.proofs.ChainLemmas.{refuses_then, tokens_binary, chain_refuses, joined_next}

abbrev pub side : TypedTerm → Bool → Side
side made nothing = record { made = made; is_nothing = nothing }

abbrev pub operand : Side → Operand
operand x = record { kind = x.made.kind; is_nothing = x.is_nothing }

pub passed : (kind : CheckBad) (at : ℕ) (b : Bool) (u : Unit {0}) → tested kind at b ≡ Ok u → b ≡ true
passed kind at true u h = refl
passed kind at false u h = absurd cc

-- the test of the left operand
pub fits_left : (rule : Rule) (op : Operator) (o : Operand) (one : Side) (made : TypedTerm) (nothing fits : Bool) (x : Expression) → ((z : Expression) → is_nothing z ≡ o.is_nothing → fits ≡ left_fits (rule_in rule) z o.kind) → rule_in rule ≡ rule_of op → o ≡ operand one → one ≡ side made nothing → is_nothing x ≡ nothing → fits ≡ left_fits (rule_of op) x made.kind
fits_left rule op o one made nothing fits x f r e d n =
    let whole : o ≡ operand (side made nothing) = e ∙ ap operand d in
    f x (n ∙ sym (ap (λ z. z.is_nothing) whole)) ∙ ap (λ z. left_fits (rule_in rule) x z.kind) whole ∙ ap (λ q. left_fits q x made.kind) r

pub left_unfit : (s : Setting) (scope : Scope) (at : ℕ) (op : Operator) (x y : Expression) (one : Typed) (fits : Bool) (e : ScriptFault) → expression_of s scope at x ≡ Ok one → fits ≡ left_fits (rule_of op) x one.kind → Refuses (tested bad.Mismatch at fits) e → Refuses (expression_of s scope at (Binary op x y)) e
left_unfit s scope at op x y one fits e h f r = rw h (refuses_then _ _ e (subst (λ b. Refuses (tested bad.Mismatch at b) e) f r))

pub right_refused : (s : Setting) (scope : Scope) (at start : ℕ) (op : Operator) (x y : Expression) (one : Typed) (e : ScriptFault) → expression_of s scope at x ≡ Ok one → left_fits (rule_of op) x one.kind ≡ true → start ≡ at + tokens_in x + 1 → Refuses (expression_of s scope start y) e → Refuses (expression_of s scope at (Binary op x y)) e
right_refused s scope at start op x y one e h f st r = rw (h, f) (refuses_then _ _ e (subst (λ n. Refuses (expression_of s scope n y) e) st r))

abbrev pub Joins : Operator → ℕ → Side → Side → Result TypedTerm ScriptFault → Type 0
Joins op start one other result = (s : Setting) (scope : Scope) (at : ℕ) (x y : Expression) → is_nothing x ≡ one.is_nothing → is_nothing y ≡ other.is_nothing → expression_of s scope at x ≡ Ok (typed_of one.made) → left_fits (rule_of op) x one.made.kind ≡ true → at + tokens_in x + 1 ≡ start → expression_of s scope start y ≡ Ok (typed_of other.made) → Gives typed_of result (expression_of s scope at (Binary op x y))

pub step_gives : (s : Setting) (scope : Scope) (at start : ℕ) (op : Operator) (x y : Expression) (made right : TypedTerm) (n m : Bool) (one other : Side) (result : Result TypedTerm ScriptFault) → Joins op start one other result → one ≡ side made n → other ≡ side right m → is_nothing x ≡ n → is_nothing y ≡ m → expression_of s scope at x ≡ Ok (typed_of made) → left_fits (rule_of op) x made.kind ≡ true → start ≡ at + tokens_in x + 1 → expression_of s scope start y ≡ Ok (typed_of right) → Gives typed_of result (expression_of s scope at (Binary op x y))
step_gives s scope at start op x y made right n m one other result joins a b nx ny h f st k =
    let all : Joins op start (side made n) (side right m) result = subst (λ z. Joins op start z (side right m) result) a (subst (λ z. Joins op start one z result) b joins) in
    all s scope at x y nx ny h f (sym st) k

pub start_is : (at start end : ℕ) (x : Expression) → start ≡ end + 1 → end ≡ at + tokens_in x → start ≡ at + tokens_in x + 1
start_is at start end x h e = omega arith

pub step_end : (at start end : ℕ) (op : Operator) (x y : Expression) → start ≡ at + tokens_in x + 1 → end ≡ start + tokens_in y → end ≡ at + tokens_in (Binary op x y)
step_end at start end op x y h e = let t = tokens_binary op x y in omega (arith, t)

pub link_refuses : (s : Setting) (scope : Scope) (at : ℕ) (x : Expression) (ys : List (Operator × Expr)) (i : ℕ) (y : Operator × Expr) (e : ScriptFault) → i < length ys → y ≡ get_or ys i y → Refuses (expression_of s scope at (Binary y.0 (joined x (take i ys)) (tree_of y.1))) e → Refuses (expression_of s scope at (joined x ys)) e
link_refuses s scope at x ys i y e lt is h = chain_refuses s scope at x ys (i + 1) e (subst (λ z. Refuses (expression_of s scope at z) e) (sym (joined_next x ys i y lt is)) h)

pub makes_next : (s : Setting) (scope : Scope) (at : ℕ) (x : Expression) (ys : List (Operator × Expr)) (i : ℕ) (y : Operator × Expr) (left : TypedTerm) → i < length ys → y ≡ get_or ys i y → expression_of s scope at (Binary y.0 (joined x (take i ys)) (tree_of y.1)) ≡ Ok (typed_of left) → left.end ≡ at + tokens_in (Binary y.0 (joined x (take i ys)) (tree_of y.1)) → Makes s scope at (joined x (take (i + 1) ys)) left
makes_next s scope at x ys i y left lt is made end = subst (λ z. Makes s scope at z left) (sym (joined_next x ys i y lt is)) (record { something = refl; made = made; end = end })
