-- What working together leaves of a container.
use Rattle.std.specs.Prelude.{◌≡◌}
use mathlib.Core.List.{IsPrefix}
use Rattle.trace_history.specs.Histories.{choices_of}
use Rattle.slee_turn.specs.Knowledge.{Knowledge}
use Rattle.slee_container.specs.Container.{View}
use Rattle.slee_container.specs.Turns.{setup_told}

-- it is of the same run, and its history goes on
pub record GoesOnWith {D : Type 0} (old new : View D) : Type 0 where
  pub setup : setup_told new.setup ≡ setup_told old.setup
  pub history : IsPrefix (choices_of old.history) (choices_of new.history)

-- it is of the run that is known, and its history goes on from what was seen
pub record IsOf {D : Type 0} (known : Knowledge) (v : View D) : Type 0 where
  pub setup : setup_told v.setup ≡ known.setup
  pub history : IsPrefix known.seen (choices_of v.history)
