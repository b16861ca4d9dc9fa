-- one row more comes to the end
use Rattle.std.proofs.Common.{◌∙◌, length, arith, ap}
use Rattle.router_state.specs.Profiles.{row_before}
use Rattle.router_state.specs.Keys.{profile_row_key}
use Rattle.snapshot_stores.proofs.FillLemmas.{turn}
use Rattle.snapshot_stores.proofs.OrderedLemmas as orders
use Rattle.snapshot_stores.proofs.flat.profiles_of.Goals as goal

pub rows-preserved : goal.rows-preserved
rows-preserved c =
    let cut = c.in-Some.ensures.steps.0 in
    let count = ap length cut in
    record {
      can_next = tt;
      is_finite = tt;
      rows = turn profile_row_key row_before orders.rows _ _ _ _ _ _ c.requires cut c.restore.ensures.rows c.rows.invariant.rows;
      room = omega (arith, count, c.rows.invariant.room, c.restore.ensures.room);
      tables = c.restore.ensures.tables ∙ c.rows.invariant.tables;
    }
