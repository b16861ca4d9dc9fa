-- What a contract sees of numbers with their sums.
use Rattle.std.specs.Prelude.{ℕ, refl, List}
use Rattle.std.specs.Coded.{Coded, code_by, coded×, coded_ℕ, coded_list}

-- the numbers in order, and for how many there is memory
pub record Counted : Type 0 where
  pub numbers : List ℕ
  pub places : ℕ

-- numbers and places are stored as a pair
abbrev pub counted_code : Coded Counted
counted_code =
    code_by (List ℕ × ℕ) (coded× (coded_list coded_ℕ) coded_ℕ) (λ c. (c.numbers, c.places))
    (λ p. record { numbers = p.0; places = p.1 }) (λ _. refl)
