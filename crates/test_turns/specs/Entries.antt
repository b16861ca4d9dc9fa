-- Entries that are numbers, as a history.
use Rattle.std.specs.Prelude.{ℕ, List, map}
use Rattle.trace_history.specs.declared.choice.Choice.{Choice}
use Rattle.trace_history.specs.declared.choice.Choice.TheVariants as choices

-- each stands for the finish of that activity
abbrev pub history_of : List ℕ → List Choice
history_of numbers = map (λ n. choices.Finish (record { 0 = n })) numbers
