-- The bytes of a side: an open gate, a header, a record for each payload, and then one closed gate. Numbers and bytes
-- are spelled as in values.
use Rattle.std.specs.Prelude.{ℕ, ◌+◌, ◌<◌, ◌^◌, List, [], ◌∷◌, ◌++◌, length, codes}
use Rattle.std.specs.List.{flat_map}
use Rattle.slee_value.specs.Bytes.{spelled_u64, spelled_bytes}
use Rattle.commit_journal.specs.declared.format.Format.{Format}
use Rattle.commit_journal.specs.declared.format.Format.TheVariants.{One, Two}
use Rattle.commit_journal.specs.declared.gate.TheConstants.{OPEN_GATE}
use Rattle.commit_journal.specs.declared.limits.TheConstants.{RECORD_FRAME, SIDE_FRAME}

-- the name of a format
abbrev pub magic : Format → List ℕ
magic One = codes "SLEEJ1"
magic Two = codes "SLEEJ2"

-- its number
abbrev pub format_number : Format → ℕ
format_number One = 1
format_number Two = 2

-- what stands before the records
pub record Head : Type 0 where
  pub format : Format
  pub generation : ℕ
  pub deployment : List ℕ
  -- empty for the initial state
  pub snapshot : List ℕ

-- a record is an open gate and the payload, its count first
abbrev pub recorded : List ℕ → List ℕ
recorded payload = OPEN_GATE ∷ spelled_bytes payload

-- what stands between the first gate and the first record's
abbrev pub header : Head → List ℕ
header head = magic head.format ++ (spelled_u64 head.generation ++ (spelled_bytes head.deployment ++ spelled_bytes head.snapshot))

-- a side as far as its last gate
abbrev pub spelled : Head → List (List ℕ) → List ℕ
spelled head payloads = OPEN_GATE ∷ (header head ++ flat_map recorded payloads)

-- bytes that can be counted: their count is a number of 32 bits
abbrev pub FitsText : List ℕ → Type 0
FitsText bytes = length bytes < 2 ^ 32

-- the same of a head: its generation is a number of 64 bits
pub record FitsHead (head : Head) : Type 0 where
  pub generation : head.generation < 2 ^ 64
  pub deployment : FitsText head.deployment
  pub snapshot : FitsText head.snapshot

-- its frame and the payload for each record
abbrev pub records_size : List (List ℕ) → ℕ
records_size [] = 0
records_size (payload ∷ payloads) = RECORD_FRAME + length payload + records_size payloads

-- the size of a side, its last gate included
abbrev pub size : Head → List (List ℕ) → ℕ
size head payloads = SIDE_FRAME + length head.deployment + length head.snapshot + records_size payloads
