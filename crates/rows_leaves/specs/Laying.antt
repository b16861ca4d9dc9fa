-- What a contract sees of rows in leaves, and how the leaves stand.
use Rattle.std.specs.Prelude.{ℕ, refl, List, [], ◌∷◌}
use Rattle.std.specs.Coded.{Coded, code_by, coded×, coded_ℕ, coded_list}
use Rattle.rows_sorted.specs.Keys.{Key}
use Rattle.rows_leaves.specs.declared.leaf.Numbers.{Numbers}

-- the rows in order, and how many more are taken without memory
pub record Laid (Row : Type 0) : Type 0 where
  pub rows : List Row
  pub room : ℕ

-- rows and their room are stored as a pair
abbrev pub laid_code : {Row : Type 0} → Coded Row → Coded (Laid Row)
laid_code {Row} code =
    code_by (List Row × ℕ) (coded× (coded_list code) coded_ℕ) (λ l. (l.rows, l.room))
    (λ p. record { rows = p.0; room = p.1 }) (λ _. refl)

-- the key of the last row
abbrev pub last_key : {Row : Type 0} → (Row → Key) → List Row → Key
last_key key [] = record { first = 0; second = 0; text = [] }
last_key key (x ∷ []) = key x
last_key key (x ∷ y ∷ rows) = last_key key (y ∷ rows)

-- the numbers of a key
abbrev pub numbers_of : Key → Numbers
numbers_of k = record { first = k.first; second = k.second }
