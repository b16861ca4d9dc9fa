-- Choices one after another.
use Rattle.std.specs.Prelude.{◌≡◌, ℕ, List, [], ◌∷◌, Option, Some, None, IsTrue}
use Rattle.trace_history.specs.declared.choice.Choice.{Choice}
use Rattle.router_state.specs.State.{State}
use Rattle.router_steps.specs.Histories.{is_choice}
use Rattle.router_steps.specs.Payloads.{choice_in, payload}
use Rattle.router_steps.specs.Steps.{after, is_enabled}

-- the format in which records are written
abbrev pub written_format : ℕ
written_format = 2

-- the state after these choices
abbrev pub after_all : State → List Choice → State
after_all s [] = s
after_all s (c ∷ cs) = after_all (after s c) cs

-- each choice may be made where it stands
abbrev pub AreEnabled : State → List Choice → Type 0
AreEnabled s [] = Unit {0}
AreEnabled s (c ∷ cs) = IsTrue (is_enabled s c) × AreEnabled (after s c) cs

-- each signal is one that a line can give
abbrev pub AreChoices : List Choice → Type 0
AreChoices [] = Unit {0}
AreChoices (c ∷ cs) = IsTrue (is_choice c) × AreChoices cs

-- each choice is read back from what the journal keeps of it
abbrev pub AreReadAgain : State → List Choice → Type 0
AreReadAgain s [] = Unit {0}
AreReadAgain s (c ∷ cs) = (choice_in written_format (payload written_format s c) ≡ Some c) × AreReadAgain (after s c) cs
