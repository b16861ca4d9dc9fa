-- A batch in memory.
use Rattle.std.specs.Prelude.{◌≡◌, ℕ, List, [], Result, Ok, Err}
use Rattle.std.specs.List.{AllByRecursion}
use Rattle.commit_journal.specs.Spelling.{FitsText}
use Rattle.commit_journal.specs.Reading.{payloads_of}
use Rattle.commit_journal.specs.Kept.{batched}

-- the payloads that were read, and none at a fault
abbrev pub or_none : Result (List (List ℕ)) ℕ → List (List ℕ)
or_none (Ok payloads) = payloads
or_none (Err at) = []

-- the payloads that bytes from a gate on stand for
unfoldable pub payloads_in : List ℕ → List (List ℕ)
payloads_in bytes = or_none (payloads_of bytes)

-- the bytes of a batch are those of its payloads
pub record IsBatch (bytes : List ℕ) : Type 0 where
  pub spelled : bytes ≡ batched (payloads_in bytes)
  pub fits : AllByRecursion FitsText (payloads_in bytes)
