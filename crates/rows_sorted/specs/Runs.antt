-- The first row that passes a test, taken out.
use Rattle.std.specs.Prelude.{Bool, if◌then◌else◌, List, [], ◌∷◌}

-- the first row that passes is gone
abbrev pub without_first : {Row : Type 0} → (Row → Bool) → List Row → List Row
without_first passes [] = []
without_first passes (row ∷ rows) = if passes row then rows else row ∷ without_first passes rows
