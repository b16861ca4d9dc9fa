-- Where the texts of entries end.
use Rattle.std.specs.Prelude.{◌≡◌, ℕ, ◌+◌, ◌<◌, List, length, take, slice_index_or}
use Rattle.trace_history.specs.Trace.{trace_text}
use Rattle.trace_history.specs.declared.entry.Entry.{Entry}

-- There is an end for each entry: how long the text is of the entries up to it.
pub record AreEndsOf (entries : List Entry) (ends : List ℕ) : Type 0 where
  pub number : length ends ≡ length entries
  pub each : (i : ℕ) → i < length entries → slice_index_or ends i 0 ≡ length (trace_text (take (i + 1) entries))
