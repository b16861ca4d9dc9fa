-- What a statement with blocks is as a value, and what a chain of operators is.
use Rattle.std.proofs.Common.{◌≡◌, Vec, Box, Global, refl, ap, ◌∙◌}
use mathlib.Core.Former.{Count}
use Rattle.script_tree.specs.declared.symbol.Operator.{Operator}
use Rattle.script_tree.specs.declared.tree.Over.{Over}
use Rattle.script_tree.specs.declared.tree.Expr.{Expr, Chain, Chain', Row_of-Expr-Chain-1-2, end_of-Expr-Chain-1-2, more_of-Expr-Chain-1-2, items-the_row-Expr-Chain-1-2, items_hidden-the_row-Expr-Chain-1-2-0}
use Rattle.script_tree.specs.declared.tree.Stmt.{Stmt, If, If', IfElse, IfElse', While, While', For, For', Row_of-Stmt, end_of-Stmt, more_of-Stmt, items-the_row-Stmt, items_hidden-the_row-Stmt-0}
use Rattle.script_tree.specs.Tree as tree
use Rattle.script_tree.specs.Tree.{Bytes, Expression, Binary, Then, tree_of, joined_row, joined, statement_of, statements_of, row_of, binary_of}

row_items : (n : _) (row : Row_of-Stmt n) → row_of row ≡ statements_of (items-the_row-Stmt n row)
row_items n end_of-Stmt = refl
row_items n (more_of-Stmt y rest) = ap (Then (statement_of y)) (row_items _ rest)

abbrev first_row : Stmt → (n : Count) × Row_of-Stmt n
first_row (While' e _ row) = (_, row)
first_row (If' e _ row) = (_, row)
first_row (IfElse' e _ row _ other) = (_, row)
first_row (For' name over _ row) = (_, row)
first_row _ = (_, end_of-Stmt)

abbrev other_row : Stmt → (n : Count) × Row_of-Stmt n
other_row (IfElse' e _ row _ other) = (_, other)
other_row _ = (_, end_of-Stmt)

pub while_tree : (e : Expr) (v : Vec Stmt Global) → statement_of (While e v) ≡ tree.While (tree_of e) (statements_of v.items)
while_tree e v = let row = first_row (While e v) in ap (tree.While (tree_of e)) (row_items row.0 row.1 ∙ ap statements_of (items_hidden-the_row-Stmt-0 v))

pub if_tree : (e : Expr) (v : Vec Stmt Global) → statement_of (If e v) ≡ tree.If (tree_of e) (statements_of v.items)
if_tree e v = let row = first_row (If e v) in ap (tree.If (tree_of e)) (row_items row.0 row.1 ∙ ap statements_of (items_hidden-the_row-Stmt-0 v))

pub for_tree : (name : Bytes) (over : Over) (v : Vec Stmt Global) → statement_of (For name over v) ≡ tree.For name over (statements_of v.items)
for_tree name over v = let row = first_row (For name over v) in ap (tree.For name over) (row_items row.0 row.1 ∙ ap statements_of (items_hidden-the_row-Stmt-0 v))

pub if_else_tree : (e : Expr) (v w : Vec Stmt Global) → statement_of (IfElse e v w) ≡ tree.IfElse (tree_of e) (statements_of v.items) (statements_of w.items)
if_else_tree e v w =
    let row = first_row (IfElse e v w) in
    let other = other_row (IfElse e v w) in
    let a = row_items row.0 row.1 ∙ ap statements_of (items_hidden-the_row-Stmt-0 v) in
    let b = row_items other.0 other.1 ∙ ap statements_of (items_hidden-the_row-Stmt-0 w) in
    ap (λ y. tree.IfElse (tree_of e) y (row_of other.1)) a ∙ ap (tree.IfElse (tree_of e) (statements_of v.items)) b

row_joined : (x : Expression) (n : _) (row : Row_of-Expr-Chain-1-2 n) → joined_row x row ≡ joined x (items-the_row-Expr-Chain-1-2 n row)
row_joined x n end_of-Expr-Chain-1-2 = refl
row_joined x n (more_of-Expr-Chain-1-2 op y more) = row_joined (Binary op x (tree_of y)) _ more

abbrev chain_row : Expr → (n : Count) × Row_of-Expr-Chain-1-2 n
chain_row (Chain' _ x op y _ row) = (_, row)
chain_row _ = (_, end_of-Expr-Chain-1-2)

pub chain_tree : (x : Box (Expr × Operator × Expr) Global) (v : Vec (Operator × Expr) Global) → tree_of (Chain x v) ≡ joined (binary_of x.value) v.items
chain_tree x v =
    let row = chain_row (Chain x v) in
    row_joined (binary_of x.value) row.0 row.1 ∙ ap (joined (binary_of x.value)) (items_hidden-the_row-Expr-Chain-1-2-0 v)
