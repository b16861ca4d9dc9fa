-- the text is that of the stores' state
use Rattle.std.proofs.Common.{◌≡◌, subst}
use Rattle.std.specs.Prelude.{IfOk}
use Rattle.router_state.specs.Restoring.{snapshot_text}
use Rattle.router_core.specs.States.{StateView}
use Rattle.router_core.proofs.state.State.snapshot_text.Goals as goal

pub returns-clause-text : goal.returns-clause-text
returns-clause-text c = subst (λ (s : StateView). IfOk c.snapshot_text.result (λ bytes. bytes.items ≡ snapshot_text 2 s.state)) c.self.view_is c.snapshot_text.ensures.text
