-- What contracts see of a history.
use Rattle.std.specs.Prelude.{ℕ, ◌+◌, ◌≤◌, List, length}
use Rattle.trace_history.specs.Trace.{entry_text}
use Rattle.trace_history.specs.declared.entry.Entry.{Entry}

-- the entries, and how many more entries and how many bytes of their text can be added without memory
pub record HistoryView : Type 0 where
  pub entries : List Entry
  pub room : ℕ
  pub text_room : ℕ

-- An entry of these lines can be added without memory.
pub record HasRoomForLines (lines : List (List ℕ)) (history : HistoryView) : Type 0 where
  pub entry : 1 ≤ history.room
  pub text : length (entry_text (length history.entries + 1) lines) ≤ history.text_room
