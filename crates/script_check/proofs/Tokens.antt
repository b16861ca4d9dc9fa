-- How many tokens statements with blocks have, and statements one behind another.
use Rattle.std.proofs.Common.{◌≡◌, ◌+◌, ◌*◌, ◌<◌, ◌≤◌, ℕ, suc, List, ◌∷◌, ◌++◌, length, drop, get_or, refl, sym, ap, ◌∙◌, arith, length-append, drop-cons, add-one}
use Rattle.script_tree.specs.declared.tree.Over.{Over}
use Rattle.script_tree.specs.declared.tree.Over.TheVariants as v
use Rattle.script_tree.specs.declared.tree.Stmt.{Stmt}
use Rattle.script_tree.specs.Tree as tree
use Rattle.script_tree.specs.Tree.{Bytes, Expression, Statement, Statements, statement_of, statements_of}
use Rattle.script_tree.specs.Spelling.{spell_over, spell_expression, spell_statement, spell_statements}
use Rattle.script_types.specs.TokenCounts.{tokens_in, tokens_in_statement, tokens_in_statements}

pub tokens_if : (x : Expression) (body : Statements) → tokens_in_statement (tree.If x body) ≡ 3 + tokens_in x + tokens_in_statements body
tokens_if x body = grind (arith, length-append)

pub tokens_if_else : (x : Expression) (body other : Statements) → tokens_in_statement (tree.IfElse x body other) ≡ 6 + tokens_in x + tokens_in_statements body + tokens_in_statements other
tokens_if_else x body other = grind (arith, length-append)

pub tokens_while : (x : Expression) (body : Statements) → tokens_in_statement (tree.While x body) ≡ 3 + tokens_in x + tokens_in_statements body
tokens_while x body = grind (arith, length-append)

pub tokens_for : (name : Bytes) (list : Over) (body : Statements) → tokens_in_statement (tree.For name list body) ≡ 6 + tokens_in_statements body
tokens_for name v.Activities body = grind (arith, length-append)
tokens_for name (v.Children relation) body = grind (arith, length-append)

pub tokens_then : (y : Statement) (ys : Statements) → tokens_in_statements (tree.Then y ys) ≡ tokens_in_statement y + tokens_in_statements ys
tokens_then y ys = length-append (spell_statement y) (spell_statements ys)

-- the tokens from a statement on are its own and those behind it
pub tokens_from : (body : List Stmt) (i : ℕ) (y : Stmt) → i < length body → y ≡ get_or body i y → tokens_in_statements (statements_of (drop i body)) ≡ tokens_in_statement (statement_of y) + tokens_in_statements (statements_of (drop (i + 1) body))
tokens_from body i y lt is = rw (drop-cons body i y, add-one, ← is) (tokens_then (statement_of y) (statements_of (drop (suc i) body)))

-- a statement that is as long as the one at hand
pub falls : (a b t at most : ℕ) → 4 * a + 1 ≡ t → a ≡ b → at + a ≤ most → (4 * b < t) × (at + b ≤ most)
falls a b t at most less same fits = (omega (arith, less, same), omega (arith, same, fits))

-- a statement among those at hand
pub rest_falls : (all rest one more here at t most : ℕ) → 4 * all + 2 ≡ t → rest ≡ one + more → here + rest ≡ at + all → at ≤ here → at + all ≤ most → (4 * one + 1 < t) × (here + one ≤ most)
rest_falls all rest one more here at t most less parts count behind fits = (omega (arith, less, parts, count, behind), omega (arith, parts, count, fits))

pub rest_counts : (all rest one more n here at : ℕ) → rest ≡ one + more → n ≡ one → here + rest ≡ at + all → at ≤ here → ((here + n) + more ≡ at + all) × (at ≤ here + n)
rest_counts all rest one more n here at parts same count behind = (omega (arith, parts, same, count), omega (arith, behind))
