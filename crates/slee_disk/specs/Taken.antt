-- How much of a source was taken.
use Rattle.std.specs.Prelude.{◌≡◌, ℕ, ◌<◌, ◌≤◌, List, length}
use Rattle.std.specs.Io.KnownBytes.{Consumes}
use Rattle.std.specs.declared.option.Option.{Option}

-- n bytes of a source were taken
abbrev pub ConsumesSome : Option (List ℕ) → Option (List ℕ) → ℕ → Type 0
ConsumesSome old new n = (bytes : List ℕ) × (length bytes ≡ n) × Consumes old new bytes

-- some bytes of a source were taken, at most n
abbrev pub ConsumesWithin : Option (List ℕ) → Option (List ℕ) → ℕ → Type 0
ConsumesWithin old new n = (bytes : List ℕ) × (0 < length bytes) × (length bytes ≤ n) × Consumes old new bytes

-- at most n bytes of a source were taken
abbrev pub ConsumesUpTo : Option (List ℕ) → Option (List ℕ) → ℕ → Type 0
ConsumesUpTo old new n = (bytes : List ℕ) × (length bytes ≤ n) × Consumes old new bytes
