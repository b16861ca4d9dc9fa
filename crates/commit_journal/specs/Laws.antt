-- The spelling of sides and the reading of them are one.
use Rattle.std.specs.Prelude.{◌≡◌, ◌≢◌, ℕ, ◌<◌, List, [], ◌∷◌, ◌++◌, length, get_or, Ok, Err, Some}
use Rattle.std.specs.List.{flat_map, AllByRecursion}
use Rattle.slee_value.specs.Bytes.{spelled_bytes}
use Rattle.slee_disk.specs.declared.side.Side.{Side}
use Rattle.slee_disk.specs.Sides.{Sides, on}
use Rattle.commit_journal.specs.declared.gate.TheConstants.{OPEN_GATE}
use Rattle.commit_journal.specs.Spelling.{Head, recorded, header, spelled, FitsText, FitsHead, records_size}
use Rattle.commit_journal.specs.Reading.{payloads_of, Header, front, Kept, recovered}
use Rattle.commit_journal.specs.Kept.{StandsIn, StandsFound, Keeps}

-- each number of the list is one of 8 bits
abbrev pub IsBytes : List ℕ → Type 0
IsBytes bytes = (i : ℕ) → get_or bytes i 0 < 256

-- an open gate and a header, and this follows it
pub record BeginsWith (head : Head) (rest bytes : List ℕ) : Type 0 where
  pub parts : bytes ≡ OPEN_GATE ∷ (header head ++ rest)
  pub fits : FitsHead head
  pub some : rest ≢ []

-- records, then a closed gate, and anything behind it
pub record AreRecords (payloads : List (List ℕ)) (bytes : List ℕ) : Type 0 where
  pub gate : ℕ
  pub tail : List ℕ
  pub shut : gate ≢ OPEN_GATE
  pub parts : bytes ≡ flat_map recorded payloads ++ gate ∷ tail
  pub fits : AllByRecursion FitsText payloads

-- records, and then an open gate behind which no payload and gate stand; so far from here is that gate
pub record AreShort (at : ℕ) (bytes : List ℕ) : Type 0 where
  pub payloads : List (List ℕ)
  pub behind : List ℕ
  pub parts : bytes ≡ flat_map recorded payloads ++ OPEN_GATE ∷ behind
  pub place : at ≡ records_size payloads
  pub short : (payload rest : List ℕ) → FitsText payload → rest ≢ [] → behind ≢ spelled_bytes payload ++ rest

-- a side that begins with a header is read as that header
abbrev pub HeadersAreRead : Type 0
HeadersAreRead = (head : Head) (rest bytes : List ℕ) → BeginsWith head rest bytes → front bytes ≡ Header head rest

-- and a side that is read as one begins with it
abbrev pub HeadersWereSpelled : Type 0
HeadersWereSpelled = (head : Head) (rest bytes : List ℕ) → IsBytes bytes → front bytes ≡ Header head rest → BeginsWith head rest bytes

-- records up to a closed gate are read as their payloads
abbrev pub RecordsAreRead : Type 0
RecordsAreRead = (payloads : List (List ℕ)) (bytes : List ℕ) → AreRecords payloads bytes → payloads_of bytes ≡ Ok payloads

-- and bytes that are read as payloads are their records
abbrev pub RecordsWereSpelled : Type 0
RecordsWereSpelled = (payloads : List (List ℕ)) (bytes : List ℕ) → IsBytes bytes → bytes ≢ [] → payloads_of bytes ≡ Ok payloads → AreRecords payloads bytes

-- where a short record is told, it stands
abbrev pub ShortRecordsStand : Type 0
ShortRecordsStand = (at : ℕ) (bytes : List ℕ) → IsBytes bytes → payloads_of bytes ≡ Err at → AreShort at bytes

-- two sides of which one counts are read as what it keeps
abbrev pub SidesAreRead : Type 0
SidesAreRead = (kept : Kept) (at : ℕ) (tail : List ℕ) (sides : Sides) → StandsIn kept at tail sides → Keeps kept sides

-- and two sides that are read so have one that counts, with this deployment
abbrev pub SidesWereSpelled : Type 0
SidesWereSpelled = (deployment : List ℕ) (kept : Kept) (sides : Sides) → ((side : Side) → IsBytes (on side sides)) → recovered deployment sides ≡ Ok (Some kept)
    → (kept.head.deployment ≡ deployment) × StandsFound kept (length (spelled kept.head kept.payloads)) sides
