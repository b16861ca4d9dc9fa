-- The counts that a trial prints, as the lines of a trace say them.
use Rattle.std.specs.Prelude.{ℕ, ◌+◌, ◌<◌, ◌==◌, if◌then◌else◌, Bool, List, [], ◌∷◌, ◌++◌, length, codes, decimal}
use Rattle.std.specs.List.{fold, starts_with}
use Rattle.signal_script.specs.Lines.{lines_of}
use Rattle.trace_history.specs.Trace.{trace_text}
use Rattle.trace_history.specs.declared.entry.Entry.{Entry}
use Rattle.slee_run.specs.declared.summing.Summary.{Summary}

-- what stands behind the first space of a line: behind the number in a heading, else behind the first of two
abbrev pub behind_space : List ℕ → List ℕ
behind_space [] = []
behind_space (b ∷ bs) = if b == 32 then bs else behind_space bs

-- one more where it is so
abbrev pub one_if : Bool → ℕ
one_if is = if is then 1 else 0

-- what a line adds to the counts
abbrev pub with_line : Summary → List ℕ → Summary
with_line s line = record {
  inputs = s.inputs + one_if (starts_with (λ b c. b == c) (behind_space line) (codes "input "));
  started = s.started + one_if (starts_with (λ b c. b == c) (behind_space line) (codes " started "));
  deliveries = s.deliveries + one_if (starts_with (λ b c. b == c) (behind_space line) (codes "deliver "));
  refused = s.refused + one_if (starts_with (λ b c. b == c) (behind_space line) (codes " refused "));
}

-- nothing is counted yet
abbrev pub no_lines : Summary
no_lines = record { inputs = 0; started = 0; deliveries = 0; refused = 0 }

-- the counts of a text's lines
abbrev pub summary_of : List ℕ → Summary
summary_of text = fold with_line no_lines (lines_of text)

-- each count is below this
pub record AreBelow (n : ℕ) (s : Summary) : Type 0 where
  pub inputs : s.inputs < n
  pub started : s.started < n
  pub deliveries : s.deliveries < n
  pub refused : s.refused < n

-- a count, with its label
abbrev pub count_line : List ℕ → ℕ → List ℕ
count_line label count = label ++ (decimal count ++ codes "\n")

-- the lines of the counts of so many entries
abbrev pub counted_text : Summary → ℕ → List ℕ
counted_text s entries =
    count_line (codes "lines ") s.inputs ++ (count_line (codes "entries ") entries ++ (count_line (codes "started ") s.started
    ++ (count_line (codes "deliveries ") s.deliveries ++ count_line (codes "refused ") s.refused)))

-- the summary of a history: how many lines were taken, how many entries there are, how many activities were started, how many
-- deliveries were made, and how many lines were refused
abbrev pub summary_text : List Entry → List ℕ
summary_text history = counted_text (summary_of (trace_text history)) (length history)
