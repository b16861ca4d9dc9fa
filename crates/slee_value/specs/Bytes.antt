-- The bytes of values. Numbers have their low byte first.
use Rattle.std.specs.Prelude.{ℕ, ◌<◌, ◌^◌, ℤ, Bool, true, false, List, [], ◌∷◌, ◌++◌, length, Option, Some, None, IsUtf8, FitsSigned, ⊤}
use Rattle.std.specs.List.{AllByRecursion}
use Rattle.std.specs.Int.{w8, w32, w64, to_le_bytes, cast_unsigned, from_bool}
use Rattle.slee_value.specs.declared.tag.TheConstants.{INT_TAG, TEXT_TAG, FLAG_TAG, ACTIVITY_TAG, TIMER_TAG}
use Rattle.slee_value.specs.declared.value.Value.{Value}
use Rattle.slee_value.specs.declared.value.Value.TheVariants.{Int, Text, Bool as Flag, Activity, Timer}

-- a number of 32 bits, of 64 bits, and one with a sign
abbrev pub spelled_u32 : ℕ → List ℕ
spelled_u32 n = to_le_bytes w32 n

abbrev pub spelled_u64 : ℕ → List ℕ
spelled_u64 n = to_le_bytes w64 n

abbrev pub spelled_i64 : ℤ → List ℕ
spelled_i64 z = spelled_u64 (cast_unsigned w64 z)

-- a byte with a sign
abbrev pub spelled_i8 : ℤ → List ℕ
spelled_i8 z = cast_unsigned w8 z ∷ []

-- bytes of any kind are their count and they themselves
abbrev pub spelled_bytes : List ℕ → List ℕ
spelled_bytes bytes = spelled_u32 (length bytes) ++ bytes

-- so is a text
abbrev pub spelled_text : List ℕ → List ℕ
spelled_text text = spelled_bytes text

-- a flag is a byte, 0 or 1
abbrev pub spelled_flag : Bool → List ℕ
spelled_flag flag = from_bool flag ∷ []

-- an option is a flag, and where that is set its item
abbrev pub spelled_option : {A : Type 0} → (A → List ℕ) → Option A → List ℕ
spelled_option spell None = spelled_flag false
spelled_option spell (Some x) = spelled_flag true ++ spell x

-- the bytes of a value: a byte for its type, and then its own
abbrev pub spelling_of_value : Value → List ℕ
spelling_of_value (Int number) = INT_TAG ∷ spelled_i64 number
spelling_of_value (Text text) = TEXT_TAG ∷ spelled_text text
spelling_of_value (Flag flag) = FLAG_TAG ∷ spelled_flag flag
spelling_of_value (Activity activity) = ACTIVITY_TAG ∷ spelled_u64 activity.0
spelling_of_value (Timer timer) = TIMER_TAG ∷ spelled_u64 timer.0

-- what has a spelling as an option: none, or some that has one
abbrev pub FitsOption : {A : Type 0} → (A → Type 0) → Option A → Type 0
FitsOption fits None = ⊤
FitsOption fits (Some x) = fits x

-- bytes that have a spelling: their count is a number of 32 bits
pub record FitsBytes (bytes : List ℕ) : Type 0 where
  pub each : AllByRecursion (λ b. b < 256) bytes
  pub short : length bytes < 2 ^ 32

-- a text that has a spelling is UTF-8, and its length is a number of 32 bits
pub record FitsText (text : List ℕ) : Type 0 where
  pub utf8 : IsUtf8 text
  pub short : length text < 2 ^ 32

-- what has a spelling: its numbers are in the range of their types, and its text is one
abbrev pub Fits : Value → Type 0
Fits (Int number) = FitsSigned w64 number
Fits (Text text) = FitsText text
Fits (Flag flag) = ⊤
Fits (Activity activity) = activity.0 < 2 ^ 64
Fits (Timer timer) = timer.0 < 2 ^ 64

-- a text in the value has a length of 32 bits; of values in memory nothing else is wanted
abbrev pub IsShort : Value → Type 0
IsShort (Int number) = ⊤
IsShort (Text text) = length text < 2 ^ 32
IsShort (Flag flag) = ⊤
IsShort (Activity activity) = ⊤
IsShort (Timer timer) = ⊤
