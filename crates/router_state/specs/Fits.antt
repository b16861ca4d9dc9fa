-- Numbers, texts and values that have a spelling, and named values that are as they were declared.
use Rattle.std.specs.Prelude.{ℕ, ◌^◌, ◌-◌, ℤ, pos, nat_lt, nat_le, int_lt, unsigned_abs, Bool, true, false, ◌&&◌, if◌then◌else◌, List, [], ◌∷◌, length, Option, Some, None}
use Rattle.std.specs.Str.{bytes_eq, is_utf8}
use Rattle.slee_value.specs.Kinds.{kind_of}
use Rattle.slee_value.specs.declared.kind.Kind.{Kind}
use Rattle.slee_value.specs.declared.value.Value.{Value}
use Rattle.slee_value.specs.declared.value.Value.TheVariants as values
use Rattle.script_types.specs.declared.codes.FieldCode.{FieldCode}
use Rattle.script_meaning.specs.Same.{same_kind}

-- a number of 32 bits
abbrev pub is_u32 : ℕ → Bool
is_u32 n = nat_lt n (2 ^ 32)

-- a number of 64 bits
abbrev pub is_u64 : ℕ → Bool
is_u64 n = nat_lt n (2 ^ 64)

-- a number of 64 bits after which there is another one
abbrev pub has_next : ℕ → Bool
has_next n = nat_lt n (2 ^ 64 - 1)

-- a number of 64 bits with a sign
abbrev pub is_i64 : ℤ → Bool
is_i64 z = if int_lt z (pos 0) then nat_le (unsigned_abs z) (2 ^ 63) else nat_lt (unsigned_abs z) (2 ^ 63)

-- a priority, from -128 to 127
abbrev pub is_priority : ℤ → Bool
is_priority z = if int_lt z (pos 0) then nat_le (unsigned_abs z) 128 else nat_lt (unsigned_abs z) 128

-- a number from 1, below the next one
abbrev pub is_drawn : ℕ → ℕ → Bool
is_drawn next n = nat_lt 0 n && nat_lt n next

-- UTF-8 whose length is a number of 32 bits
abbrev pub is_text : List ℕ → Bool
is_text text = is_utf8 text && is_u32 (length text)

-- an option has nothing, or something that passes
abbrev pub none_or : {A : Type 0} → (A → Bool) → Option A → Bool
none_or passes None = true
none_or passes (Some x) = passes x

-- a value fits, and an activity or timer that it names was there once; the numbers are the next ones
abbrev pub is_value : ℕ → ℕ → Value → Bool
is_value next_activity next_timer (values.Int n) = is_i64 n
is_value next_activity next_timer (values.Text text) = is_text text
is_value next_activity next_timer (values.Bool b) = true
is_value next_activity next_timer (values.Activity a) = nat_lt a.0 next_activity
is_value next_activity next_timer (values.Timer t) = nat_lt t.0 next_timer

-- a value is of a kind
abbrev pub is_of_kind : Kind → Value → Bool
is_of_kind kind value = same_kind kind (kind_of value)

-- the named values are the declared ones, each once and of its kind
abbrev pub are_declared : List FieldCode → List (List ℕ × Value) → Bool
are_declared [] [] = true
are_declared [] (field ∷ fields) = false
are_declared (d ∷ ds) [] = false
are_declared (d ∷ ds) (field ∷ fields) = bytes_eq d.name field.0 && (is_of_kind d.kind field.1 && are_declared ds fields)
