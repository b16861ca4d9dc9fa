-- the bytes of one timer more
use Rattle.router_state.specs.Snapshot.{spelled_timer}
use Rattle.snapshot_write.proofs.ListLemmas.{bytes_more}
use Rattle.snapshot_write.proofs.timers.put_timers.Goals as goal

pub rows-preserved : goal.rows-preserved
rows-preserved c = bytes_more spelled_timer c.args.timers.now.timers c.rows.place c.at.result.now _ _ _ c.at.ensures c.in_ok-put_timer.ensures c.rows.invariant
