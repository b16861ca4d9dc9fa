-- The key by which the rows of a list rise, and what stands before it.
use Rattle.std.specs.Prelude.{ℕ, ◌==◌, Bool, ◌&&◌, IsTrue, List, []}
use Rattle.std.specs.Str.{bytes_eq}
use Rattle.rows_sorted.specs.Orders.{rises_by, triple_before}

-- two numbers and a text; a row that has fewer parts has 0 or no text in their place
pub record Key : Type 0 where
  pub first : ℕ
  pub second : ℕ
  pub text : List ℕ

-- by the first number, then by the second one, then by the text
abbrev pub key_before : Key → Key → Bool
key_before x y = triple_before x.first x.second x.text y.first y.second y.text

-- the two keys are the same
abbrev pub is_key : Key → Key → Bool
is_key x y = (x.first == y.first) && ((x.second == y.second) && bytes_eq x.text y.text)

-- the two keys have the same numbers
abbrev pub is_pair : ℕ → ℕ → Key → Bool
is_pair first second x = (x.first == first) && (x.second == second)

-- the rows rise by their keys
abbrev pub Rises : {Row : Type 0} → (Row → Key) → List Row → Type 0
Rises key rows = IsTrue (rises_by (λ x y. key_before (key x) (key y)) rows)

-- the key that is a number alone
abbrev pub number_key : ℕ → Key
number_key first = record { first = first; second = 0; text = [] }

-- the key that is a pair of numbers
abbrev pub pair_key : ℕ → ℕ → Key
pair_key first second = record { first = first; second = second; text = [] }

-- the key that is a number and a text
abbrev pub text_key : ℕ → List ℕ → Key
text_key first text = record { first = first; second = 0; text = text }
