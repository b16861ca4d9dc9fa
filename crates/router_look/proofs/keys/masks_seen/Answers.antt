-- masks rise, and so do their events
use Rattle.router_look.proofs.MaskLemmas.{events_rise}
use Rattle.router_look.proofs.keys.masks_seen.Goals as goal

pub names-requires : goal.names-requires
names-requires c = rw (c.of.ensures, c.masks.ensures) (events_rise c.args.entity.0 c.args.activity.0 c.args.stores.now.state.masks c.ordered.ensures.masks)
