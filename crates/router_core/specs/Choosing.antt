-- Which choices are planned without selectors.
use Rattle.trace_history.specs.declared.choice.Choice.{Choice}
use Rattle.trace_history.specs.declared.choice.Choice.TheVariants as choices

-- the choice is no initial selection
abbrev pub IsNoInitial : Choice → Type 0
IsNoInitial (choices.Input signal) = Unit {0}
IsNoInitial (choices.Initial a) = ⊥
IsNoInitial (choices.Deliver a) = Unit {0}
IsNoInitial (choices.Finish a) = Unit {0}
