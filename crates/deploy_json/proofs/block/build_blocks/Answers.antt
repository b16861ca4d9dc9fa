use Rattle.deploy_json.specs.Shapes.{IsBlock}
use Rattle.deploy_json.proofs.Each.{item_next}
use Rattle.deploy_json.proofs.block.build_blocks.Goals as goal

pub block_at-requires : goal.block_at-requires
block_at-requires c = item_next IsBlock c.args.items.now c.loop-i.i c.index-items-i.result c.loop-i-test.true c.index-items-i.is c.loop-i.invariant.fits
