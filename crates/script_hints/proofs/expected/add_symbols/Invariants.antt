use Rattle.std.proofs.Common.{◌≡◌, ◌++◌, map, drop}
use Rattle.script_hints.specs.declared.choice.Choice.TheVariants as choice
use Rattle.script_hints.proofs.expected.add_symbols.Given as goal

-- the choices so far, and those of the rest
abbrev pub invariant-loop-symbol : goal.invariant-loop-symbol
invariant-loop-symbol l = l.list.items ++ map choice.Symbol (drop l.symbol-index l.symbols) ≡ l.initial.list.items ++ map choice.Symbol l.symbols
