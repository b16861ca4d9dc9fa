-- The operators behind a chain's first are less deep than the chain.
use Rattle.std.proofs.Common.{◌≡◌, ◌<◌, ◌+◌, ◌*◌, ℕ, List, Vec, Box, Global, ap, arith}
use denote.Param.Weighed.{most}
use Rattle.script_tree.specs.declared.symbol.Operator.{Operator}
use Rattle.script_tree.specs.declared.tree.Expr.{Expr, Chain}
use Rattle.script_tree.specs.declared.tree.Expr.TheViews.{sized-Chain}
use Rattle.script_tree.specs.declared.tree.Expr.TheShapes.{weighed-Expr-Chain-1-at-2}
use Rattle.script_tree.proofs.tree.Expr.TheLaws.{the_size}

abbrev pub links_depth : List (Operator × Expr) → ℕ
links_depth ys = most (λ y. weighed-Expr-Chain-1-at-2.weight Expr the_size y) ys

chain_deeper : (first : Box (Expr × Operator × Expr) Global) (more : Vec (Operator × Expr) Global) → links_depth more.items < the_size (Chain first more)
chain_deeper first more = let h = sized-Chain first more in omega (arith, h)

-- the measure of a walk over those operators is below that of the chain
pub links_fall : (x : Expr) (first : Box (Expr × Operator × Expr) Global) (more : Vec (Operator × Expr) Global) (ys : List (Operator × Expr)) (t : ℕ) → 2 * the_size x + 0 ≡ t → x ≡ Chain first more → ys ≡ more.items → 2 * links_depth ys + 1 < t
links_fall x first more ys t e is same =
    let less = chain_deeper first more in
    let depth : the_size x ≡ the_size (Chain first more) = ap the_size is in
    let links : links_depth ys ≡ links_depth more.items = ap links_depth same in
    omega (arith, less, depth, links, e)
