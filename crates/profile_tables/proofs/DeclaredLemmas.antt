-- Attributes beside those that are declared.
use Rattle.std.proofs.Common.{◌≡◌, ℕ, suc, Bool, false, true, List, [], ◌∷◌, length, refl, ap}
use Rattle.std.specs.Prelude.{◌&&◌, ◌≢◌}
use Rattle.std.specs.Str.{bytes_eq}
use Rattle.slee_value.specs.declared.value.Value.{Value}
use Rattle.script_types.specs.declared.codes.FieldCode.{FieldCode}
use Rattle.router_state.specs.Fits.{are_declared, is_of_kind}

none_behind : (a b : Bool) → a && (b && false) ≡ false
none_behind true true = refl
none_behind true false = refl
none_behind false b = refl

-- lists of different lengths don't fit
pub others : (ds : List FieldCode) (fs : List (List ℕ × Value)) → length ds ≢ length fs → are_declared ds fs ≡ false
others [] [] apart = absurd (apart refl)
others [] (f ∷ fs) apart = refl
others (d ∷ ds) [] apart = refl
others (d ∷ ds) (f ∷ fs) apart =
    let rest = others ds fs (λ same. apart (ap suc same)) in
    rw rest (none_behind (bytes_eq d.name f.0) (is_of_kind d.kind f.1))
