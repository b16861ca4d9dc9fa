use Rattle.deploy_json.specs.Shapes.{IsHandler}
use Rattle.deploy_json.proofs.Each.{item_next}
use Rattle.deploy_json.proofs.handler.build_handlers.Goals as goal

pub handler_at-requires : goal.handler_at-requires
handler_at-requires c = item_next IsHandler c.args.items.now c.loop-i.i c.index-items-i.result c.loop-i-test.true c.index-items-i.is c.loop-i.invariant.fits
