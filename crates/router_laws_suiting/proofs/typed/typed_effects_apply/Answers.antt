use Rattle.std.proofs.Common.{[]}
use Rattle.router_laws_applying.proofs.Beginning.{delivery_applies}
use Rattle.router_laws_suiting.proofs.Joining.{all_typed_suit}
use Rattle.router_laws_suiting.specs.Known.{IsDrawn}
use Rattle.router_laws_suiting.proofs.typed.typed_effects_apply.Goals as goal

pub returns : goal.returns
returns c = λ s x es sound deployed waits found typed spelled refs guard room.
    delivery_applies s x es sound deployed waits found (all_typed_suit s x.entity.number.0 x.entity.block x.activity (IsDrawn s) (record { activity = λ n h. h; timer = λ n h. h; no_activity = λ n h. h; no_timer = λ n h. h }) [] es typed spelled refs) guard room
