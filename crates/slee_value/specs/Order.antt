-- Byte order of texts and names.
use Rattle.std.specs.Prelude.{ℕ, Bool, true, ◌&&◌, List, [], ◌∷◌, map}
use Rattle.std.specs.Cmp.Lexicographic.{slice_cmp}
use Rattle.std.specs.Ordering.{is_lt, nat_cmp}
use Rattle.std.specs.declared.cmp.Ordering.{Ordering}

-- how two texts compare: by the first byte in which they differ, and a front comes before the whole
abbrev pub byte_order : List ℕ → List ℕ → Ordering
byte_order x y = slice_cmp nat_cmp x y

-- whether x comes before y
abbrev pub is_below : List ℕ → List ℕ → Bool
is_below x y = is_lt (byte_order x y)

-- whether each name comes before the next
abbrev pub rises : List (List ℕ) → Bool
rises [] = true
rises (x ∷ []) = true
rises (x ∷ y ∷ zs) = is_below x y && rises (y ∷ zs)

-- the names of a list of pairs of a name and something
abbrev pub names_of : {A : Type 0} → List (List ℕ × A) → List (List ℕ)
names_of fields = map (λ f. f.0) fields
