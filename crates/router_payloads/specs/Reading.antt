-- Which bytes of a step take memory to read: those with a line, and those with effects.
use Rattle.std.specs.Prelude.{ℕ, Bool, false, ◌&&◌, ◌||◌, ◌==◌, nat_le, if◌then◌else◌, List, [], ◌∷◌, length, take, drop}
use Rattle.std.specs.Int.{w32, from_le_bytes}
use Rattle.slee_effect.specs.Memory.{takes_memory}

-- a count of 32 bits, and so many bytes behind it
abbrev pub is_counted : List ℕ → Bool
is_counted bytes = nat_le 4 (length bytes) && (from_le_bytes w32 (take 4 bytes) == length (drop 4 bytes))

-- an outcome, and effects that take memory
abbrev pub outcome_takes_memory : List ℕ → Bool
outcome_takes_memory [] = false
outcome_takes_memory (outcome ∷ bytes) = nat_le outcome 17 && takes_memory bytes

-- the bytes are 1 and a line, or 3, an activity, and such an outcome
abbrev pub step_takes_memory : List ℕ → Bool
step_takes_memory [] = false
step_takes_memory (kind ∷ rest) = ((kind == 1) && is_counted rest) || ((kind == 3) && (nat_le 8 (length rest) && outcome_takes_memory (drop 8 rest)))

-- the same of a payload in a format
abbrev pub payload_takes_memory : ℕ → List ℕ → Bool
payload_takes_memory format bytes = if format == 2 then nat_le 8 (length bytes) && step_takes_memory (drop 8 bytes) else step_takes_memory bytes
