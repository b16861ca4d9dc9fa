-- The fields of an event that is fired: each name stands once.
use Rattle.std.specs.Prelude.{◌≡◌, ℕ, zero, suc, false, List, [], ◌∷◌, map, bytes_eq, if◌then◌else◌}
use Rattle.std.specs.List.{list_any}
use Rattle.slee_value.specs.Order.{is_below}
use Rattle.slee_effect.specs.declared.value.Val.{Val}
use Rattle.script_types.specs.Program.{Term, OnActivities}
use Rattle.script_types.specs.Program as p

-- the place of the first field whose name is above this one
abbrev pub place_in : List ℕ → List (List ℕ × Val) → ℕ
place_in name [] = zero
place_in name (x ∷ xs) = if is_below name x.0 then zero else suc (place_in name xs)

-- names of which none stands twice, nor is given before
abbrev pub AreApart : List (List ℕ) → List (List ℕ) → Type 0
AreApart given [] = Unit {0}
AreApart given (name ∷ names) = (list_any (bytes_eq name) given ≡ false) × AreApart (name ∷ given) names

abbrev pub names_in : List (List ℕ × Term) → List (List ℕ)
names_in fields = map (λ f. f.0) fields

-- An event that a step fires has no field twice.
abbrev pub FiresOnce : OnActivities → Type 0
FiresOnce (p.Fire event x service fields) = AreApart [] (names_in fields)
FiresOnce _ = Unit {0}
