-- The byte for how a run of a script ends.
use Rattle.std.specs.Prelude.{ℕ, ◌+◌}
use Rattle.script_meaning.specs.declared.outcome.FailKind.{FailKind}
use Rattle.script_meaning.specs.declared.outcome.FailKind.TheVariants as failures
use Rattle.script_meaning.specs.declared.outcome.Outcome.{Outcome}
use Rattle.script_meaning.specs.declared.outcome.Outcome.TheVariants as outcomes

-- the place of a failure among all kinds, from 0
abbrev pub failure_place : FailKind → ℕ
failure_place failures.Thrown = 0
failure_place failures.Overflow = 1
failure_place failures.ZeroDivisor = 2
failure_place failures.Budget = 3
failure_place failures.Gone = 4
failure_place failures.Ending = 5
failure_place failures.NotNull = 6
failure_place failures.Bound = 7
failure_place failures.Unbound = 8
failure_place failures.Detached = 9
failure_place failures.NoRow = 10
failure_place failures.Depth = 11
failure_place failures.Observed = 12
failure_place failures.Range = 13
failure_place failures.TooLong = 14
failure_place failures.TooMuch = 15

-- 0 for fine, 1 for asked, and from 2 on the failures
abbrev pub outcome_byte : Outcome → ℕ
outcome_byte outcomes.Fine = 0
outcome_byte outcomes.Asked = 1
outcome_byte (outcomes.Broken kind) = 2 + failure_place kind
