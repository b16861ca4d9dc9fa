-- The text of lines.
use Rattle.std.specs.Prelude.{ℕ, List, ◌∷◌, [], ◌++◌}
use Rattle.std.specs.List.{flat_map}

-- a line and its newline
abbrev pub line_text : List ℕ → List ℕ
line_text line = line ++ 10 ∷ []

-- lines, each with its newline
abbrev pub line_texts : List (List ℕ) → List ℕ
line_texts lines = flat_map line_text lines
