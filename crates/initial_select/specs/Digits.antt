-- Digits that are noted one after another.
use Rattle.std.specs.Prelude.{ℕ, List, [], ◌∷◌, ◌++◌, ◌&&◌, length, nat_lt, if◌then◌else◌}
use Rattle.slee_value.specs.Name.{is_digit}

-- The digits with one more byte, where that is a digit and there are fewer than three.
abbrev pub noted : List ℕ → ℕ → List ℕ
noted digits byte = if nat_lt (length digits) 3 && is_digit byte then digits ++ byte ∷ [] else digits
