use Rattle.std.proofs.Common.{ap}
use Rattle.slee_container.specs.Container.{View}
use Rattle.worker_threads.proofs.SeatLemmas.{same_goes}
use Rattle.worker_threads.proofs.sharing.halted.Goals as goal

pub returns : goal.returns
returns g c =
    same_goes c.args.container c.halt_memory.new.self (ap (λ (v : View g.row.D.Denot). v.setup) c.halt_memory.ensures) (ap (λ (v : View g.row.D.Denot). v.history) c.halt_memory.ensures)
