-- one row more comes to the end
use Rattle.std.proofs.Common.{length, arith, ap}
use Rattle.router_state.specs.Fields.{field_before}
use Rattle.router_state.specs.Keys.{field_key}
use Rattle.snapshot_stores.proofs.FillLemmas.{turn}
use Rattle.snapshot_stores.proofs.OrderedLemmas.{fields}
use Rattle.snapshot_stores.proofs.flat.fields_of.Goals as goal

pub rows-preserved : goal.rows-preserved
rows-preserved c =
    let cut = c.in-Some.ensures.steps.0 in
    let count = ap length cut in
    record {
      can_next = tt;
      is_finite = tt;
      rows = turn field_key field_before fields _ _ _ _ _ _ c.requires cut c.restore.ensures.rows c.rows.invariant.rows;
      room = omega (arith, count, c.rows.invariant.room, c.restore.ensures.room);
    }
