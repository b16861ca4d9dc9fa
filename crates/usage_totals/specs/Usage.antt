-- What the lines of a history say of usage.
use Rattle.std.specs.Prelude.{ℕ, ℤ, pos, if◌then◌else◌, List, [], ◌∷◌, Some, None, Option, option_and_then, codes}
use Rattle.std.specs.Option.{unwrap_or}
use Rattle.std.specs.Str.{bytes_eq}
use Rattle.trace_history.specs.Decimals.{int_in}

-- the words behind the first one, where the first is this one and others follow
abbrev pub behind : List ℕ → List (List ℕ) → Option (List (List ℕ))
behind word (first ∷ second ∷ words) = if bytes_eq first word then Some (second ∷ words) else None
behind word words = None

-- the name of the count and the amount in the words behind `usage`: an entity, the name and the amount
abbrev pub amount_in : List (List ℕ) → Option (List ℕ × ℤ)
amount_in (entity ∷ name ∷ amount ∷ []) = Some (name, unwrap_or (int_in amount) (pos 0))
amount_in words = None

-- the same in the words of a line, where it is a usage line; the two spaces before it give two empty words
abbrev pub usage_in : List (List ℕ) → Option (List ℕ × ℤ)
usage_in words = option_and_then amount_in (option_and_then (behind (codes "usage")) (option_and_then (behind []) (behind [] words)))
