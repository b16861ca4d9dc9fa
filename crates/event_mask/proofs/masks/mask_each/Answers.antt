-- one event more is masked
use Rattle.std.proofs.Common.{length, arith, ap}
use Rattle.event_mask.proofs.MaskLemmas.{mask_on}
use Rattle.event_mask.proofs.masks.mask_each.Goals as goal

pub each-preserved : goal.each-preserved
each-preserved c =
    let cut = c.in-Some.ensures.steps.0 in
    let count = ap length cut in
    record {
      can_next = tt;
      is_finite = tt;
      rows = mask_on _ _ _ _ _ _ _ _ cut c.put_row.ensures.rows c.each.invariant.rows;
      room = omega (arith, count, c.each.invariant.room, c.put_row.ensures.room);
      spent = omega (arith, count, c.each.invariant.spent, c.put_row.ensures.room);
    }
