-- what is found among the blocks that are left is what is found among all
use Rattle.std.proofs.Common.{◌≡◌, drop, flat_map}
use Rattle.script_types.specs.Codes.{named}
use Rattle.snapshot_check_rows.proofs.declared.attribute_in.Given as goal

abbrev pub invariant-each : goal.invariant-each
invariant-each l =
    named (λ a. a.key) l.key (flat_map (λ b. b.attributes) (drop l.block-index l.blocks))
    ≡ named (λ a. a.key) l.key (flat_map (λ b. b.attributes) l.codes.blocks)
