use Rattle.std.proofs.Common.{◌≡◌, ◌++◌, drop}
use Rattle.std.specs.Prelude.{map}
use Rattle.slee_descriptor.proofs.naming.add_all.Given as goal

abbrev pub invariant-loop-item : goal.invariant-loop-item
invariant-loop-item g l = l.names.items ++ map g.T.Named.name_of (drop l.item-index l.items) ≡ l.initial.names.items ++ map g.T.Named.name_of l.items
