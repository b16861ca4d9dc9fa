use Rattle.router_state.specs.Restoring.{link_of, masks_of}
use Rattle.snapshot_read.proofs.TurnLemmas.{map_on, flat_on}
use Rattle.snapshot_read.proofs.link_rows.link_rows.Goals as goal

pub parts-preserved : goal.parts-preserved
parts-preserved c =
    let cut = c.in-Some.ensures.steps.0 in
    record {
      can_next = tt;
      is_finite = tt;
      links = map_on link_of _ _ _ _ _ _ cut c.in_ok-add_link.ensures.links c.parts.invariant.links;
      masks = flat_on masks_of _ _ _ _ _ _ cut c.in_ok-add_link.ensures.masks c.parts.invariant.masks;
    }
