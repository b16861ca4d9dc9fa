-- Numbers in the values of fields leave their names.
use Rattle.std.proofs.Common.{◌≡◌, ℕ, suc, List, [], ◌∷◌, length, map, refl, ap}
use Rattle.slee_value.specs.Order.{rises, names_of}
use Rattle.slee_effect.specs.declared.value.Val.{Val}
use Rattle.slee_effect.specs.declared.next.Next.{Next}
use Rattle.slee_effect.specs.Resolving.{resolved_field}

same_names : (next : Next) (fields : List (List ℕ × Val)) → names_of (map (resolved_field next) fields) ≡ names_of fields
same_names next [] = refl
same_names next (f ∷ fields) = ap (λ (ns : List (List ℕ)). f.0 ∷ ns) (same_names next fields)

pub names_stay : (next : Next) (fields : List (List ℕ × Val)) → rises (names_of (map (resolved_field next) fields)) ≡ rises (names_of fields)
names_stay next fields = ap rises (same_names next fields)

pub len_stays : (next : Next) (fields : List (List ℕ × Val)) → length (map (resolved_field next) fields) ≡ length fields
len_stays next [] = refl
len_stays next (f ∷ fields) = ap suc (len_stays next fields)
