use Rattle.handler_check.proofs.Lists.{block_made}
use Rattle.handler_check.proofs.block.check_block.Goals as goal
use Rattle.script_types.specs.CodesOf.{codes_of}

pub returns : goal.returns
returns c =
    block_made (codes_of c.args.home.now.codes.now) c.args.home.now.number c.args.home.now.block.now _ c.as_slice.result.now c.as_slice.ensures
    c.in_ok-handlers.ensures c.in_ok-methods.ensures c.in_ok-exception.ensures c.in_ok-rolled_back.ensures c.in_ok-remove.ensures c.in_ok-masks_of.ensures
