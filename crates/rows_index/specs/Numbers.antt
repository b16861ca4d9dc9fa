-- The number that a text is made into.
use Rattle.std.specs.Prelude.{ℕ, ◌+◌, ◌*◌, ◌%◌, List, [], ◌∷◌}

-- the numbers are below this prime
abbrev pub limit : ℕ
limit = 549755813881

-- what each byte multiplies the number by
abbrev pub factor : ℕ
factor = 10368889

-- the number behind further bytes
abbrev pub number_from : ℕ → List ℕ → ℕ
number_from n [] = n
number_from n (byte ∷ text) = number_from ((n + byte + 1) * factor % limit) text

-- the number of a text
abbrev pub number_of : List ℕ → ℕ
number_of text = number_from 0 text * factor % limit

-- the number of a text behind another number
abbrev pub number_with : ℕ → List ℕ → ℕ
number_with before text = number_from (before % limit) text * factor % limit
