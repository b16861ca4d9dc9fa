-- five numbers, and then what the timer keeps
use Rattle.std.proofs.lemmas.Result.{on_ok_weaker}
use Rattle.snapshot_write.proofs.WholeLemmas.{timer_put}
use Rattle.snapshot_write.proofs.timers.put_timer.Goals as goal

pub returns : goal.returns
returns c =
    on_ok_weaker c.write_keep.result
    (λ last. timer_put c.args.row.now c.args.into.now.items _ _ _ _ _ _
    c.in_ok-write_u64.ensures.ok c.in_ok-write_u64-2.ensures.ok c.in_ok-write_u64-3.ensures.ok c.in_ok-write_u64-4.ensures.ok c.in_ok-write_u64-5.ensures.ok last)
    c.write_keep.ensures
