-- The text of a history.
use Rattle.std.specs.Prelude.{ℕ, ◌+◌, List, [], ◌∷◌, ◌++◌, codes, decimal}
use Rattle.trace_history.specs.Lines.{line_texts}
use Rattle.trace_history.specs.declared.entry.Entry.{Entry}

-- the number, a space and the lines, the first of which is the heading
abbrev pub entry_text : ℕ → List (List ℕ) → List ℕ
entry_text number lines = decimal number ++ (codes " " ++ line_texts lines)

-- the entries, numbered from this number on
abbrev pub trace_from : ℕ → List Entry → List ℕ
trace_from number [] = []
trace_from number (e ∷ es) = entry_text number e.lines ++ trace_from (number + 1) es

-- the entries, numbered from 1
abbrev pub trace_text : List Entry → List ℕ
trace_text history = trace_from 1 history
