-- What stands first with a name, by its place.
use Rattle.std.proofs.Common.{◌≡◌, ◌+◌, ℕ, Bool, true, false, List, [], ◌∷◌, cond, Option, Some, None, find, slice_get, option_map, option_and_then, refl, ◌∙◌, ap, add-one}
use Rattle.std.specs.List.{position_from}

shifted_by : (b : Bool) (n : ℕ) (o p : Option ℕ) → o ≡ option_map (λ k. k + 1) p → cond b (Some (n + 1)) o ≡ option_map (λ k. k + 1) (cond b (Some n) p)
shifted_by true n o p e = refl
shifted_by false n o p e = e

shifted : {A : Type 0} → (t : A → Bool) (xs : List A) (n : ℕ) → position_from t (n + 1) xs ≡ option_map (λ k. k + 1) (position_from t n xs)
shifted t [] n = refl
shifted t (x ∷ xs) n = shifted_by (t x) n _ _ (shifted t xs (n + 1))

behind : {A : Type 0} → (x : A) (xs : List A) (o : Option ℕ) → option_and_then (slice_get (x ∷ xs)) (option_map (λ k. k + 1) o) ≡ option_and_then (slice_get xs) o
behind x xs None = refl
behind x xs (Some k) = ap (slice_get (x ∷ xs)) (add-one k)

found_by : {A : Type 0} → (b : Bool) (x : A) (xs : List A) (o : Option ℕ) (r : Option A) → option_and_then (slice_get (x ∷ xs)) o ≡ r → option_and_then (slice_get (x ∷ xs)) (cond b (Some 0) o) ≡ cond b (Some x) r
found_by true x xs o r e = refl
found_by false x xs o r e = e

at_its_place : {A : Type 0} → (t : A → Bool) (xs : List A) → option_and_then (slice_get xs) (position_from t 0 xs) ≡ find t xs
at_its_place t [] = refl
at_its_place t (x ∷ xs) = found_by (t x) x xs _ _ (ap (option_and_then (slice_get (x ∷ xs))) (shifted t xs 0) ∙ behind x xs (position_from t 0 xs) ∙ at_its_place t xs)

-- what stands first with a name stands at the place that is the first with it
pub found_at : {A : Type 0} → (t : A → Bool) (xs : List A) (o : Option ℕ) → o ≡ position_from t 0 xs → option_and_then (slice_get xs) o ≡ find t xs
found_at t xs o e = ap (option_and_then (slice_get xs)) e ∙ at_its_place t xs
