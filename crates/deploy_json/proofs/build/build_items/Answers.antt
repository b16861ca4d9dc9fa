use Rattle.deploy_json.proofs.Each.{item_next}
use Rattle.deploy_json.proofs.build.build_items.Goals as goal

pub build-requires : goal.build-requires
build-requires g c = item_next (g.B.Build.fits c.args.form.now) c.args.items.now c.loop-item.item-index c.item-item.result c.loop-item-test.true c.item-item.is c.loop-item.invariant.fits
