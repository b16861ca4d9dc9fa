-- The rows to which entries lead.
use Rattle.std.specs.Prelude.{ℕ, Bool, if◌then◌else◌, List, [], ◌∷◌, Option, Some, None}
use Rattle.rows_index.specs.declared.entry.Entry.{Entry}

-- the row, where there is one that passes, or else what comes later
abbrev pub or_later : {Row : Type 0} → (Row → Bool) → Option Row → Option Row → Option Row
or_later passes None later = later
or_later passes (Some row) later = if passes row then Some row else later

-- the first of the rows at the entries' numbers that passes
abbrev pub first_found : {Row : Type 0} → (ℕ → Option Row) → (Row → Bool) → List Entry → Option Row
first_found at passes [] = None
first_found at passes (e ∷ entries) = or_later passes (at e.number) (first_found at passes entries)
