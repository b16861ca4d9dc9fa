-- an attribute is found in this block, or behind it
use Rattle.std.proofs.Common.{ap, ◌∙◌}
use Rattle.snapshot_check_rows.proofs.DeclaredLemmas.{keyed, found_here, found_behind}
use Rattle.snapshot_check_rows.proofs.declared.attribute_in.Goals as goal

pub returns-in-Some : goal.returns-in-Some
returns-in-Some c =
    found_here c.as_slice-blocks.result.now c.each.block-index c.block-item.result c.args.key.now c.in-Some.attribute.now _ c.each-test.true c.block-item.is
    (c.in-Some.ensures ∙ ap (keyed c.args.key.now) c.as_slice.ensures) c.each.invariant

pub each-preserved : goal.each-preserved
each-preserved c =
    found_behind c.as_slice-blocks.result.now c.each.block-index c.block-item.result c.args.key.now _ c.each-test.true c.block-item.is
    (c.in-None.ensures ∙ ap (keyed c.args.key.now) c.as_slice.ensures) c.each.invariant
