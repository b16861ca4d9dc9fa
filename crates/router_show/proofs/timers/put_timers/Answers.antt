-- one line more
use Rattle.router_state.specs.Show.{timer_line}
use Rattle.router_show.proofs.KeptLemmas.{line_more}
use Rattle.router_show.proofs.timers.put_timers.Goals as goal

pub rows-preserved : goal.rows-preserved
rows-preserved c = line_more timer_line c.args.timers.now.timers c.rows.place c.at.result.now _ _ _ c.at.ensures c.in_ok-put_timer.ensures c.rows.invariant
