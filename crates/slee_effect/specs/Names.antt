-- Which names can stand next among the fields of an event, and where reading one stops.
use Rattle.std.specs.Prelude.{◌≡◌, ℕ, ◌+◌, ◌-◌, ◌<◌, ◌≤◌, Bool, true, List, ◌++◌, length, take, Option, Some, None, Err, IsUtf8, IsTrue, ⊤}
use Rattle.std.specs.List.{AllByRecursion}
use Rattle.slee_value.specs.Order.{is_below}
use Rattle.slee_value.specs.Bytes.{spelled_text, FitsText}
use Rattle.slee_value.specs.Reading.{Fault}
use Rattle.slee_effect.specs.Reading.{name_at}

-- the name before, if there is one, is a text
abbrev pub IsName : Option (List ℕ) → Type 0
IsName None = ⊤
IsName (Some before) = IsUtf8 before

-- whether a name comes after the one before, if there is one
abbrev pub follows : Option (List ℕ) → List ℕ → Bool
follows None name = true
follows (Some before) name = is_below before name

-- the bytes of some name that can stand next are these and more
abbrev pub BeginsNext : Option (List ℕ) → List ℕ → Type 0
BeginsNext before front = (name : List ℕ) × (more : List ℕ) × FitsText name × IsTrue (follows before name) × (spelled_text name ≡ front ++ more)

-- No name that can stand next begins with the bytes up to and with this one. One begins with those before it, if there are any.
pub record IsFirstFault (before : Option (List ℕ)) (bytes : List ℕ) (at : ℕ) : Type 0 where
  pub within : at ≤ length bytes
  pub begins : 0 < at → BeginsNext before (take at bytes)
  pub ends : at < length bytes → ¬ (BeginsNext before (take (at + 1) bytes))

-- reading a name stops at the first byte that can't go on
abbrev pub StopsFirst : Option (List ℕ) → List ℕ → Fault → Type 0
StopsFirst before bytes fault = IsName before → AllByRecursion (λ b. b < 256) bytes → name_at before bytes ≡ Err fault → IsFirstFault before bytes (length bytes - fault.left)
