use Rattle.snapshot_read.proofs.TurnLemmas.{map_on}
use Rattle.snapshot_read.proofs.link_rows.add_masks.Invariants.{mask_of}
use Rattle.snapshot_read.proofs.link_rows.add_masks.Goals as goal

pub events-preserved : goal.events-preserved
events-preserved c = record {
  can_next = tt;
  is_finite = tt;
  rows = map_on (mask_of c.args.entity c.args.activity) _ _ _ _ _ _ c.in-Some.ensures.steps.0 c.in_ok-push.ensures.items c.events.invariant.rows;
}
