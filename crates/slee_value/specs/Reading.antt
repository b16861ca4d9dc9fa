-- Reading bytes from left to right, with the first byte that can't go on.
use Rattle.std.specs.Prelude.{◌≡◌, ℕ, ℤ, zero, suc, ◌+◌, ◌-◌, Bool, true, false, ◌&&◌, ◌||◌, List, [], ◌∷◌, length, take, drop, slice_index, Option, Some, None, Result, Ok, Err, nat_lt, nat_le, ◌==◌, if◌then◌else◌}
use Rattle.std.specs.Int.{Width, w8, w32, w64, byte_len, from_le_bytes, cast_signed}
use Rattle.std.specs.Str.{is_utf8}
use Rattle.std.specs.Str.Lossy.{utf8_valid_len, utf8_invalid_len}
use Rattle.slee_value.specs.declared.tag.TheConstants.{INT_TAG, TEXT_TAG, FLAG_TAG, ACTIVITY_TAG, TIMER_TAG}
use Rattle.slee_value.specs.declared.value.Value.{Value}
use Rattle.slee_value.specs.declared.value.Value.TheVariants.{Int, Text, Bool as Flag, Activity, Timer}
use Rattle.slee_value.specs.declared.fault.ValueBad.{ValueBad}
use Rattle.slee_value.specs.declared.fault.ValueBad.TheVariants as bad
use Rattle.slee_value.specs.declared.fault.PartFault.{PartFault}
use Rattle.slee_value.specs.declared.fault.PartFault.TheVariants as faults

-- A fault: how many bytes are left from the first one that can't go on, and what is wrong. None are
-- left where the bytes end too early.
pub record Fault : Type 0 where
  pub left : ℕ
  pub kind : ValueBad

-- the first of these bytes can't go on
abbrev pub refuse : {A : Type 0} → List ℕ → ValueBad → Result A Fault
refuse bytes kind = Err (record { left = length bytes; kind = kind })

-- the bytes end too early
abbrev pub ended : {A : Type 0} → Result A Fault
ended = Err (record { left = 0; kind = bad.Short })

-- what is read, and then what follows from it; the first fault ends it
infixl 10 ◌>>=◌
abbrev pub ◌>>=◌ : {A B : Type 0} → Result A Fault → (A → Result B Fault) → Result B Fault
(Ok x) >>= f = f x
(Err e) >>= f = Err e

-- a fault is the one that reading gives, unless memory ran out
abbrev pub Fails : {Y : Type 0} → PartFault → Result Y Fault → Type 0
Fails faults.NoMemory read = Unit {0}
Fails (faults.Bad left kind) read = read ≡ Err (record { left = left; kind = kind })

-- what a call returned, seen by view, is what reading gives, unless memory ran out
abbrev pub Gives : {X Y : Type 0} → (X → Y) → Result X PartFault → Result Y Fault → Type 0
Gives view (Ok x) read = read ≡ Ok (view x)
Gives view (Err e) read = Fails e read

-- A part is a value and the bytes behind it.
abbrev pub Part : Type 0 → Type 0
Part A = Result (A × List ℕ) Fault

-- what is read, made into something else
abbrev pub mapped : {A B : Type 0} → (A → B) → (List ℕ → Part A) → List ℕ → Part B
mapped make read bytes = read bytes >>= λ x. Ok (make x.0, x.1)

-- one part and then another
abbrev pub pair : {A B : Type 0} → (List ℕ → Part A) → (List ℕ → Part B) → List ℕ → Part (A × B)
pair first second bytes = first bytes >>= λ x. second x.1 >>= λ y. Ok ((x.0, y.0), y.1)

-- a number of this width
abbrev pub number_at : Width → List ℕ → Part ℕ
number_at w bytes = if nat_lt (length bytes) (byte_len w) then ended else Ok (from_le_bytes w (take (byte_len w) bytes), drop (byte_len w) bytes)

-- a byte, and one with a sign
abbrev pub byte_at : List ℕ → Part ℕ
byte_at [] = ended
byte_at (b ∷ rest) = Ok (b, rest)

abbrev pub i8_at : List ℕ → Part ℤ
i8_at = mapped (cast_signed w8) byte_at

-- a number of 64 bits with a sign
abbrev pub i64_at : List ℕ → Part ℤ
i64_at = mapped (cast_signed w64) (number_at w64)

-- a flag, 0 or 1
abbrev pub flag_at : List ℕ → Part Bool
flag_at [] = ended
flag_at (zero ∷ rest) = Ok (false, rest)
flag_at (suc zero ∷ rest) = Ok (true, rest)
flag_at (suc (suc b) ∷ rest) = refuse (suc (suc b) ∷ rest) bad.Flag

-- an option is a flag, and where that is set its item
abbrev pub option_at : {A : Type 0} → (List ℕ → Part A) → List ℕ → Part (Option A)
option_at read bytes = flag_at bytes >>= λ x. if x.0 then mapped (λ item. Some item) read x.1 else Ok (None, x.1)

-- a count, and so many bytes of any kind
abbrev pub bytes_at : List ℕ → Part (List ℕ)
bytes_at bytes = number_at w32 bytes >>= λ n. if nat_lt (length n.1) n.0 then ended else Ok (take n.0 n.1, drop n.0 n.1)

-- how many bytes a character takes that begins with this byte, and 0 where none does
abbrev pub char_len : ℕ → ℕ
char_len b = if nat_lt b 0x80 then 1 else (if nat_lt b 0xC2 then 0 else (if nat_lt b 0xE0 then 2 else (if nat_lt b 0xF0 then 3 else (if nat_lt b 0xF5 then 4 else 0))))

-- Of bytes that aren't UTF-8: how many of them can begin a text of this length. Where the character that
-- stands behind the whole ones can't begin, or has no room, these are the whole ones.
abbrev pub good_len : ℕ → List ℕ → ℕ
good_len len bytes =
    let whole = utf8_valid_len bytes in
    let rest = drop whole bytes in
    let needs = char_len (slice_index rest 0) in
    if needs == 0 || nat_lt len (whole + needs) then whole else whole + utf8_invalid_len rest

-- what is wrong where only so many bytes of all of them are good
abbrev pub fault_behind : ℕ → ℕ → Fault
fault_behind good len = if good == len then (record { left = 0; kind = bad.Short }) else (record { left = len - good; kind = bad.Utf8 })

-- what is wrong with the text of this length at the front of the bytes, if something is
abbrev pub text_fault : ℕ → List ℕ → Option Fault
text_fault len bytes =
    if is_utf8 (take len bytes) then (if nat_lt (length bytes) len then Some (record { left = 0; kind = bad.Short }) else None)
    else Some (fault_behind (good_len len (take len bytes)) (length bytes))

-- this, unless there is a fault
abbrev pub unless_fault : {A : Type 0} → Option Fault → A → Result A Fault
unless_fault None x = Ok x
unless_fault (Some fault) x = Err fault

-- a length, and a text of that length
unfoldable pub text_at : List ℕ → Part (List ℕ)
text_at bytes = do
  len ← number_at w32 bytes
  unless_fault (text_fault len.0 len.1) (take len.0 len.1, drop len.0 len.1)

-- What is read behind each of some first bytes: the rows of a table.
abbrev pub Rows : Type 0 → Type 0
Rows A = List (ℕ × (List ℕ → Part A))

-- no row has this first byte
abbrev pub no_row : {A : Type 0} → List ℕ → Part A
no_row bytes = Err (record { left = length bytes + 1; kind = bad.Tag })

-- what is read behind this first byte
abbrev pub row_of : {A : Type 0} → Rows A → ℕ → List ℕ → Part A
row_of [] tag = no_row
row_of (row ∷ rows) tag = if tag == row.0 then row.1 else row_of rows tag

-- the part at the front of the bytes, by its first byte
abbrev pub tagged : {A : Type 0} → Rows A → List ℕ → Part A
tagged rows [] = ended
tagged rows (tag ∷ bytes) = row_of rows tag bytes

-- the values of each type, behind the byte for it
abbrev pub values_by_tag : Rows Value
values_by_tag =
    (INT_TAG, mapped (λ n. Int n) i64_at)
    ∷ (TEXT_TAG, mapped (λ text. Text text) text_at)
    ∷ (FLAG_TAG, mapped (λ flag. Flag flag) flag_at)
    ∷ (ACTIVITY_TAG, mapped (λ n. Activity (record { 0 = n })) (number_at w64))
    ∷ (TIMER_TAG, mapped (λ n. Timer (record { 0 = n })) (number_at w64))
    ∷ []

-- the value at the front of the bytes, and the bytes behind it
abbrev pub value_at : List ℕ → Part Value
value_at = tagged values_by_tag
