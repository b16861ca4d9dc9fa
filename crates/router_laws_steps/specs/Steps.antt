-- What is asked of a choice, and of a history, so that what it leaves is well formed.
use Rattle.router_laws_sound.specs.Rooms.{HasRoom}
use Rattle.router_laws_steps.specs.Reads.{IsReadChoice}
use Rattle.router_state.specs.Fits.{is_u64}
use Rattle.router_state.specs.State.{State}
use Rattle.router_steps.specs.Steps.{after, is_enabled}
use Rattle.std.proofs.Common.{true, ◌≡◌}
use Rattle.trace_history.specs.declared.choice.Choice.{Choice}

-- The choice is enabled, its line was read, and behind it the numbers that come next and the count of lines have 64 bits.
pub record CanStep (s : State) (c : Choice) : Type 0 where
  pub enabled : is_enabled s c ≡ true
  pub read : IsReadChoice c
  pub room : HasRoom (after s c)
  pub count : is_u64 (after s c).inputs ≡ true
