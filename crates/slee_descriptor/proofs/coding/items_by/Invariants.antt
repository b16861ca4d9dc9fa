use Rattle.std.proofs.Common.{◌≡◌, ◌++◌, drop}
use Rattle.std.specs.Prelude.{map}
use Rattle.slee_descriptor.proofs.coding.items_by.Given as goal

abbrev pub invariant-loop-part : goal.invariant-loop-part
invariant-loop-part g l = l.items.items ++ map (g.C.Coding.code l.coding) (drop l.part-index l.parts) ≡ map (g.C.Coding.code l.coding) l.parts
