-- the calls give the rows of the run in turn
use Rattle.std.proofs.Common.{refl}
use Rattle.std.proofs.lemmas.Iterator.Consumers.{nth_from_yields_List, YieldsList-from_first}
use Rattle.event_queue.proofs.queues.row_in.Goals as goal

pub returns : goal.returns
returns c =
    let ran = c.nth.ensures.ran in
    nth_from_yields_List c.nth.result _ c.args.place (ran.0, ran.1, ran.2) (YieldsList-from_first (λ x. x.now) (λ run. run) c.args.run refl)
