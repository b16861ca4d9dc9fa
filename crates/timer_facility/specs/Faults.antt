-- Why there is no list of due occurrences.
use Rattle.std.specs.Prelude.{◌≡◌, ℕ, ◌<◌, ◌≤◌}
use Rattle.router_state.specs.Timing.{occurrence_limit}
use Rattle.timer_facility.specs.declared.occurrences.DueFault.{DueFault}
use Rattle.timer_facility.specs.declared.occurrences.DueFault.TheVariants as faults

-- too many with their number, or want of memory where there are not too many
abbrev pub IsFaultOf : ℕ → DueFault → Type 0
IsFaultOf count (faults.TooMany n) = (n ≡ count) × (occurrence_limit < count)
IsFaultOf count faults.NoMemory = count ≤ occurrence_limit
