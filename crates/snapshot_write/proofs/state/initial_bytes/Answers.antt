-- the stores that are made hold the initial state
use Rattle.std.proofs.Common.{ap, ◌∙◌}
use Rattle.std.proofs.lemmas.Result.{IfOk-weaker}
use Rattle.router_state.specs.Snapshot.{spelled_state}
use Rattle.snapshot_write.proofs.state.initial_bytes.Goals as goal

pub returns : goal.returns
returns c = IfOk-weaker c.bytes_of.result _ _ (λ bytes is. is ∙ ap (spelled_state 2) c.in_ok-first.ensures) c.bytes_of.ensures
