-- What reading a value answers.
use Rattle.std.specs.Prelude.{◌≡◌, ℕ, ◌+◌, ◌-◌, ◌<◌, ◌≤◌, List, ◌++◌, length, take, drop, Result, Ok, Err}
use Rattle.slee_value.specs.declared.value.Value.{Value}
use Rattle.slee_value.specs.declared.fault.ValueFault.{ValueFault}
use Rattle.slee_value.specs.declared.fault.ValueFault.TheVariants.{Bad, NoMemory}
use Rattle.slee_value.specs.Bytes.{spelling_of_value, Fits}
use Rattle.slee_value.specs.Reading.{value_at}

-- the first n bytes are the bytes of the value
pub record IsFront (bytes : List ℕ) (value : Value) (n : ℕ) : Type 0 where
  pub fits : Fits value
  pub within : n ≤ length bytes
  pub spelled : take n bytes ≡ spelling_of_value value

-- the value was read, all of its bytes and no more, unless memory ran out
abbrev pub IsRead : Value → Result (Value × ℕ) ValueFault → Type 0
IsRead value (Ok x) = (x.0 ≡ value) × (x.1 ≡ length (spelling_of_value value))
IsRead value (Err NoMemory) = Unit {0}
IsRead value (Err (Bad at kind)) = ⊥

-- some value's bytes are these and more
abbrev pub BeginsValue : List ℕ → Type 0
BeginsValue front = (value : Value) × (more : List ℕ) × Fits value × (spelling_of_value value ≡ front ++ more)

-- the bytes before this one begin a value, and with it they begin none; or all of them begin one
pub record IsFirstBad (bytes : List ℕ) (at : ℕ) : Type 0 where
  pub within : at ≤ length bytes
  pub begins : BeginsValue (take at bytes)
  pub ends : at < length bytes → ¬ (BeginsValue (take (at + 1) bytes))

-- where the fault stands
abbrev pub StandsRight : List ℕ → ValueFault → Type 0
StandsRight bytes NoMemory = Unit {0}
StandsRight bytes (Bad at kind) = IsFirstBad bytes at

-- the answer is that of reading from left to right
abbrev pub Answers : List ℕ → Result (Value × ℕ) ValueFault → Type 0
Answers bytes (Ok x) = value_at bytes ≡ Ok (x.0, drop x.1 bytes)
Answers bytes (Err NoMemory) = Unit {0}
Answers bytes (Err (Bad at kind)) = value_at bytes ≡ Err (record { left = length bytes - at; kind = kind })
