-- one row more comes to the end
use Rattle.std.proofs.Common.{◌<◌, ◌∙◌, length, arith, ap}
use Rattle.timer_facility.specs.Views.{timer_before}
use Rattle.router_state.specs.declared.rows.Timer.{Timer}
use Rattle.router_state.specs.Keys.{timer_key}
use Rattle.snapshot_stores.proofs.FillLemmas.{turn, fact_first}
use Rattle.snapshot_stores.proofs.OrderedLemmas.{timers}
use Rattle.snapshot_stores.proofs.SoundLemmas.{below_each}
use Rattle.snapshot_stores.proofs.flat.timers_of.Goals as goal

pub restore-requires-clause-below : goal.restore-requires-clause-below
restore-requires-clause-below c =
    let low = fact_first (λ (row : Timer). row.number.0 < c.args.next) _ _ _ _ _ c.in-Some.ensures.steps.0 c.rows.invariant.rows (below_each (λ (row : Timer). row.number.0) c.args.next c.args.rows.items c.requires.below) in
    omega (arith, low, c.rows.invariant.next)

pub rows-preserved : goal.rows-preserved
rows-preserved c =
    let cut = c.in-Some.ensures.steps.0 in
    let count = ap length cut in
    record {
      can_next = tt;
      is_finite = tt;
      rows = turn timer_key timer_before timers _ _ _ _ _ _ c.requires.rises cut c.restore.ensures.timers c.rows.invariant.rows;
      next = c.restore.ensures.next ∙ c.rows.invariant.next;
      room = omega (arith, count, c.rows.invariant.room, c.restore.ensures.room);
    }
