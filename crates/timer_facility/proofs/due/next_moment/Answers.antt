-- a timer that goes on has another moment
use Rattle.std.proofs.Common.{arith}
use Rattle.router_state.specs.Timers.{due_count}
use Rattle.timer_facility.proofs.DueLemmas.{moment_fits}
use Rattle.timer_facility.proofs.due.next_moment.Goals as goal

pub overflow_cast-result : goal.overflow_cast-result
overflow_cast-result c = let fits = moment_fits c.args.timer.now (due_count c.args.timer.now c.args.to) c.requires (omega arith) in omega arith
