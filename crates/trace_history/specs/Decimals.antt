-- Decimal numbers in words.
use Rattle.std.specs.Prelude.{ℕ, ◌+◌, ◌-◌, ◌*◌, ◌^◌, ℤ, pos, negsuc, Bool, false, not, ◌&&◌, ◌||◌, ◌==◌, nat_lt, nat_le, if◌then◌else◌, List, [], ◌∷◌, length, Some, None, Option}
use Rattle.std.specs.List.{fold, list_all}
use Rattle.slee_value.specs.Name.{is_digit}

-- digits without a leading zero, but 0 itself
abbrev pub is_decimal : List ℕ → Bool
is_decimal [] = false
is_decimal (b ∷ bs) = list_all is_digit (b ∷ bs) && (not (b == 48) || length bs == 0)

-- the number that digits stand for
abbrev pub decimal_value : List ℕ → ℕ
decimal_value digits = fold (λ n b. 10 * n + (b - 48)) 0 digits

-- the number of digits where it is below 2^63
abbrev pub not_negative : List ℕ → Option ℤ
not_negative digits = if is_decimal digits && nat_lt (decimal_value digits) (2 ^ 63) then Some (pos (decimal_value digits)) else None

-- the number below 0 of digits behind a sign, where it is at least -(2^63)
abbrev pub negative : List ℕ → Option ℤ
negative digits =
    if is_decimal digits && (nat_le 1 (decimal_value digits) && nat_le (decimal_value digits) (2 ^ 63))
    then Some (negsuc (decimal_value digits - 1)) else None

-- the number of 64 bits with a sign that a word stands for; 0 has no sign
abbrev pub int_in : List ℕ → Option ℤ
int_in [] = None
int_in (b ∷ bs) = if b == 45 then negative bs else not_negative (b ∷ bs)
