-- Histories over restarts.
use Rattle.std.specs.Prelude.{◌≡◌, List, ◌++◌}

-- the first list is a prefix of the second
abbrev pub IsPrefix : {X : Type 0} → List X → List X → Type 0
IsPrefix {X} xs ys = (rest : List X) × (xs ++ rest ≡ ys)
