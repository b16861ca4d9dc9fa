-- Operands that are joined from left to right, as a value.
use Rattle.std.proofs.Common.{◌≡◌, List, [], ◌∷◌, ◌++◌, refl, ap, ◌∙◌}
use Rattle.script_tree.specs.declared.symbol.Operator.{Operator}
use Rattle.script_tree.specs.declared.tree.Expr.{Expr}
use Rattle.script_tree.specs.Tree.{Expression, Binary, tree_of, binary_of, joined}

pub one_joined : (x y : Expr × Operator × Expr) (xs : List (Operator × Expr)) → x ≡ y → xs ≡ [] → joined (binary_of x) xs ≡ binary_of y
one_joined x y xs is none = ap (joined (binary_of x)) none ∙ ap binary_of is

pub joined_last : (x : Expression) (xs : List (Operator × Expr)) (y : Operator × Expr) → joined x (xs ++ y ∷ []) ≡ Binary y.0 (joined x xs) (tree_of y.1)
joined_last x [] y = refl
joined_last x (z ∷ xs) y = joined_last (Binary z.0 x (tree_of z.1)) xs y
