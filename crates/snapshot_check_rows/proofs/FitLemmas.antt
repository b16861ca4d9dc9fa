-- What has a spelling, and named values beside the declared ones.
use Rattle.std.proofs.Common.{◌≡◌, ℕ, zero, suc, ◌≤◌, ℤ, pos, Bool, true, false, List, [], ◌∷◌, length, drop, map, refl, sym, ap, ◌∙◌, arith, inl, inr, FitsSigned, w8, w64}
use Rattle.std.specs.Prelude.{negsuc, nat_lt, ◌&&◌}
use Rattle.std.specs.Str.{bytes_eq, IsUtf8, is_utf8}
use Rattle.std.proofs.lemmas.Bool.{cases_Bool}
use Rattle.std.proofs.lemmas.Bool.Decides.{nat_tests}
use Rattle.std.proofs.lemmas.Str.{is_utf8-from_IsUtf8, IsUtf8-from_is_utf8}
use Rattle.slee_value.specs.declared.value.Value.{Value}
use Rattle.script_types.specs.declared.codes.FieldCode.{FieldCode}
use Rattle.router_state.specs.Fits.{are_declared, is_i64, is_of_kind, is_priority, is_text}

pub priority_fits : (z : ℤ) → FitsSigned w8 z → true ≡ is_priority z
priority_fits (pos n) fits = let low = fits.sfits in grind (arith, nat_tests, low)
priority_fits (negsuc n) fits = let low = fits.sfits in grind (arith, nat_tests, low)

pub number_fits : (z : ℤ) → FitsSigned w64 z → true ≡ is_i64 z
number_fits (pos n) fits = let low = fits.sfits in grind (arith, nat_tests, low)
number_fits (negsuc n) fits = let low = fits.sfits in grind (arith, nat_tests, low)

-- a text of fewer bytes than so many is one of those that are written
pub text_fits : (text : List ℕ) → IsUtf8 text → nat_lt (length text) 4294967296 ≡ is_text text
text_fits text utf8 = let good = is_utf8-from_IsUtf8 text utf8 in rw good refl

pub bytes_fit : (bytes text : List ℕ) → (text ≡ bytes) × IsUtf8 bytes → nat_lt (length bytes) 4294967296 ≡ is_text bytes
bytes_fit bytes text both = text_fits bytes both.1

pub bytes_unfit : (bytes : List ℕ) → (IsUtf8 bytes → ⊥) → false ≡ is_text bytes
bytes_unfit bytes none = elim (cases_Bool (is_utf8 bytes)) [
  | inl good ↦ absurd (none (IsUtf8-from_is_utf8 bytes good))
  | inr bad ↦ rw bad refl
]

-- the named values one after another

three : (x y z : Bool) → (x && y) ≡ true → (x && (y && z)) ≡ z
three true true z both = refl
three true false z both = absurd (cc)
three false y z both = absurd (cc)

not_three : (x y z : Bool) → (x && y) ≡ false → (x && (y && z)) ≡ false
not_three true true z both = absurd (cc)
not_three true false z both = refl
not_three false y z both = refl

module _ {T : Type 0} (pair : T → List ℕ × Value) where
  pub one_declared : (d : FieldCode) (ds : List FieldCode) (field : T) (more : List T) → (bytes_eq d.name (pair field).0 && is_of_kind d.kind (pair field).1) ≡ true
      → are_declared (d ∷ ds) (map pair (field ∷ more)) ≡ are_declared ds (map pair more)
  one_declared d ds field more is = three (bytes_eq d.name (pair field).0) (is_of_kind d.kind (pair field).1) (are_declared ds (map pair more)) is

  pub not_declared : (d : FieldCode) (ds : List FieldCode) (field : T) (more : List T) → (bytes_eq d.name (pair field).0 && is_of_kind d.kind (pair field).1) ≡ false
      → are_declared (d ∷ ds) (map pair (field ∷ more)) ≡ false
  not_declared d ds field more is = not_three (bytes_eq d.name (pair field).0) (is_of_kind d.kind (pair field).1) (are_declared ds (map pair more)) is

  -- a declared field is left over
  pub left_over : (ds : List FieldCode) (fields : List T) (i : ℕ) (whole : Bool) → 1 ≤ length ds → length fields ≤ i → are_declared ds (map pair (drop i fields)) ≡ whole → false ≡ whole
  left_over [] fields i whole some past same = absurd (omega (arith, some))
  left_over (d ∷ ds) fields i whole some past same = ap (λ (xs : List T). are_declared (d ∷ ds) (map pair xs)) (sym (nothing_left fields i past)) ∙ same
    where
      nothing_left : {X : Type 0} (xs : List X) (i : ℕ) → length xs ≤ i → drop i xs ≡ []
      nothing_left [] zero past = refl
      nothing_left [] (suc i) past = refl
      nothing_left (x ∷ xs) zero past = absurd (omega (arith, past))
      nothing_left (x ∷ xs) (suc i) past = nothing_left xs i (omega (arith, past))

-- a list of which each thing stays as it is
pub all_same : {X : Type 0} (xs : List X) → map (λ (x : X). x) xs ≡ xs
all_same [] = refl
all_same (x ∷ xs) = ap (λ rest. x ∷ rest) (all_same xs)
