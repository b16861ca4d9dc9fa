-- The name of the last field.
use Rattle.std.proofs.Common.{◌≡◌, ℕ, ◌-◌, List, [], ◌∷◌, ◌++◌, length, Some, refl, ap, ◌∙◌, arith}
use Rattle.std.specs.Prelude.{slice_get, option_map}
use Rattle.std.proofs.lemmas.List.{length-append}
use Rattle.slee_effect.specs.declared.value.Val.{Val}
use Rattle.slee_effect.specs.Reading.{last_name}

got_behind : {A : Type 0} (front : List A) (x : A) → slice_get (front ++ x ∷ []) (length front) ≡ Some x
got_behind [] x = refl
got_behind (y ∷ front) x = got_behind front x

pub last_pushed : (fields : List (List ℕ × Val)) (field : List ℕ × Val) → last_name (fields ++ field ∷ []) ≡ Some field.0
last_pushed fields field =
    let n : length (fields ++ field ∷ []) - 1 ≡ length fields = omega (arith, length-append fields (field ∷ [])) in
    ap (λ (i : ℕ). option_map (λ (f : List ℕ × Val). f.0) (slice_get (fields ++ field ∷ []) i)) n ∙ ap (option_map (λ (f : List ℕ × Val). f.0)) (got_behind fields field)
