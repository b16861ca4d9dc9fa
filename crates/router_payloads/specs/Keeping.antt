-- When the payload of a step is one from which its choice is read back.
use Rattle.std.specs.Prelude.{◌≡◌, ◌<◌, ◌^◌, Some, IsTrue}
use Rattle.trace_history.specs.declared.choice.Choice.{Choice}
use Rattle.trace_history.specs.declared.choice.Choice.TheVariants as choices
use Rattle.slee_effect.specs.Fitting.{FitEffects}
use Rattle.router_state.specs.State.{State}
use Rattle.router_steps.specs.Histories.{is_choice}
use Rattle.router_steps.specs.Steps.{Subject, Taking, Selecting, Delivering, Finishing, subject_of}

-- the number of the choice's activity is one of 64 bits
abbrev pub HasNumber : Choice → Type 0
HasNumber (choices.Input signal) = Unit {0}
HasNumber (choices.Initial a) = a.0 < 2 ^ 64
HasNumber (choices.Deliver a) = a.0 < 2 ^ 64
HasNumber (choices.Finish a) = a.0 < 2 ^ 64

-- the effects of a delivery have bytes
abbrev pub HasBytes : Subject → Type 0
HasBytes (Taking signal action) = Unit {0}
HasBytes (Selecting x) = Unit {0}
HasBytes (Delivering x) = FitEffects x.delivered.effects
HasBytes (Finishing x) = Unit {0}

-- The choice is about this, a line can give it, and its numbers and effects have bytes.
pub record IsSpelled (s : State) (c : Choice) (x : Subject) : Type 0 where
  pub subject : subject_of s c ≡ Some x
  pub valid : IsTrue (is_choice c)
  pub number : HasNumber c
  pub bytes : HasBytes x
