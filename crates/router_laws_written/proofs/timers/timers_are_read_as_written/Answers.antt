use Rattle.router_laws_written.proofs.Beginnings.{timers_read}
use Rattle.router_laws_written.proofs.timers.timers_are_read_as_written.Goals as goal

pub returns : goal.returns
returns c = timers_read
