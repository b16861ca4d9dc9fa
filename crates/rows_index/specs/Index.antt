-- What an index of rows is.
use Rattle.std.specs.Prelude.{ℕ, Bool, ◌≡◌, ◌==◌, ◌&&◌, List}
use Rattle.std.specs.List.{sum_by}
use Rattle.rows_sorted.specs.Keys.{Key, pair_key, key_before, Rises}
use Rattle.rows_index.specs.declared.entry.Entry.{Entry}

-- an entry's key: its key, and then its number
abbrev pub entry_key : Entry → Key
entry_key e = pair_key e.key e.number

-- by key, then by number
abbrev pub entry_before : Entry → Entry → Bool
entry_before x y = key_before (entry_key x) (entry_key y)

-- the two entries are the same
abbrev pub is_entry : Entry → Entry → Bool
is_entry x y = (y.key == x.key) && (y.number == x.number)

-- The entries rise, and they are those of the rows: whatever is summed up over the ones comes to what it does over the others.
pub record IsIndex {Row : Type 0} (entry : Row → Entry) (rows : List Row) (entries : List Entry) : Type 0 where
  pub rises : Rises entry_key entries
  pub same : (f : Entry → ℕ) → sum_by f entries ≡ sum_by (λ row. f (entry row)) rows
