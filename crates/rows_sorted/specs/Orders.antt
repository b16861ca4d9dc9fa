-- The orders in which lists stand, and how a list is put in order.
use Rattle.std.specs.Prelude.{ℕ, Bool, true, ◌==◌, ◌||◌, ◌&&◌, nat_lt, if◌then◌else◌, List, [], ◌∷◌, ◌++◌, filter}
use Rattle.std.specs.List.{list_all}
use Rattle.std.specs.Str.{bytes_eq}
use Rattle.slee_value.specs.Order.{is_below}

-- by the first number, then by the second
abbrev pub pair_before : ℕ → ℕ → ℕ → ℕ → Bool
pair_before a b c d = nat_lt a c || ((a == c) && nat_lt b d)

-- by the number, then by the text
abbrev pub text_before : ℕ → List ℕ → ℕ → List ℕ → Bool
text_before a name c other = nat_lt a c || ((a == c) && is_below name other)

-- by the two numbers, then by the text
abbrev pub triple_before : ℕ → ℕ → List ℕ → ℕ → ℕ → List ℕ → Bool
triple_before a b name c d other = nat_lt a c || ((a == c) && text_before b name d other)

-- the two pairs of numbers are the same
abbrev pub same_pair : ℕ → ℕ → ℕ → ℕ → Bool
same_pair a b c d = (a == c) && (b == d)

-- the two numbers are the same, and so are the texts behind them
abbrev pub same_text : ℕ → List ℕ → ℕ → List ℕ → Bool
same_text a name c other = (a == c) && bytes_eq name other

-- each row stands before the next one
abbrev pub rises_by : {Row : Type 0} → (Row → Row → Bool) → List Row → Bool
rises_by before [] = true
rises_by before (x ∷ []) = true
rises_by before (x ∷ y ∷ rows) = before x y && rises_by before (y ∷ rows)

-- the rows rise by this number
abbrev pub rises_in : {Row : Type 0} → (Row → ℕ) → List Row → Bool
rises_in number rows = rises_by (λ x y. nat_lt (number x) (number y)) rows

-- the rows' numbers are below this one
abbrev pub are_below : {Row : Type 0} → (Row → ℕ) → ℕ → List Row → Bool
are_below number n rows = list_all (λ row. nat_lt (number row) n) rows

-- A row in its place in a list that rises: the rows that stand before it, the row, and those behind it. One that stands in the same place gives way.
abbrev pub put : {Row : Type 0} → (Row → Row → Bool) → Row → List Row → List Row
put before row rows = filter (λ other. before other row) rows ++ row ∷ filter (λ other. before row other) rows

-- a thing put before the first one that it comes before
abbrev pub inserted : {X : Type 0} → (X → X → Bool) → X → List X → List X
inserted before x [] = x ∷ []
inserted before x (y ∷ ys) = if before x y then x ∷ y ∷ ys else y ∷ inserted before x ys

-- Things in order; of two that come in the same place the later one stands first.
abbrev pub sorted : {X : Type 0} → (X → X → Bool) → List X → List X
sorted before [] = []
sorted before (x ∷ xs) = inserted before x (sorted before xs)
