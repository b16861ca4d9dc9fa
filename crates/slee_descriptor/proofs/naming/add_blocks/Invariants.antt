use Rattle.std.proofs.Common.{◌≡◌, ◌++◌, drop}
use Rattle.std.specs.Prelude.{flat_map}
use Rattle.slee_descriptor.specs.CodesOfParts.{block_names}
use Rattle.slee_descriptor.proofs.naming.add_blocks.Given as goal

abbrev pub invariant-loop-block : goal.invariant-loop-block
invariant-loop-block l = l.names.items ++ flat_map block_names (drop l.block-index l.blocks) ≡ l.initial.names.items ++ flat_map block_names l.blocks
