-- How an activity goes.
use Rattle.std.specs.Prelude.{ℕ}
use Rattle.slee_value.specs.declared.ids.ActivityId.{ActivityId}
use Rattle.router_state.specs.declared.change.Change.{Change}
use Rattle.router_state.specs.declared.change.Change.TheVariants as changes

-- an entity's masks on the activity go
abbrev pub forgetting : ActivityId → ℕ → Change
forgetting a e = changes.ForgetMasks (record { 0 = e }) a
