-- Which word or sign a token is.
use Rattle.std.proofs.Common.{◌≡◌, true, rules}
use denote.Enum.Bare.{sameb, same_true}
use Rattle.script_tree.specs.contracts.symbol.Fixed.{the_type}
use Rattle.script_tree.specs.declared.symbol.Fixed.{Fixed}

pub same : (y z : Fixed) → sameb the_type y z ≡ true → y ≡ z
same y z e = same_true the_type (search rules) y z e
