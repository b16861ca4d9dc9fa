-- The number of a key, as parts and as a deployment say it, and the alias that stands first.
use Rattle.std.proofs.Common.{◌≡◌, ◌+◌, ℕ, Bool, true, false, ◌<◌, List, [], ◌∷◌, cond, length, map, Some, None, nat_lt, position, bytes_eq, refl, sym, ◌∙◌, arith}
use Rattle.std.specs.Prelude.{IfSome}
use Rattle.std.proofs.lemmas.Bool.Decides.{nat_tests}
use Rattle.std.specs.List.{position_from, position_or_len}
use Rattle.std.proofs.lemmas.Iterator.Adapters.{position_from-zero}
use Rattle.deploy_model.proofs.Noting.{turned}
use Rattle.deploy_model.specs.Tables.{key_number}

numbered : {A B : Type 0} → (f : A → B) (name : B → List ℕ) (q : List ℕ) (xs : List A) (n : ℕ) → position_from (λ b. bytes_eq (name b) q) n (map f xs) ≡ position_from (λ x. bytes_eq q (name (f x))) n xs
numbered f name q [] n = refl
numbered f name q (x ∷ xs) n = λ i. cond (turned (name (f x)) q i) (Some n) (numbered f name q xs (n + 1) i)

-- what stands first with a key has the same place in the list that is made item by item
pub placed : {A B : Type 0} → (f : A → B) (name : B → List ℕ) (q : List ℕ) (xs : List A) → position (λ b. bytes_eq (name b) q) (map f xs) ≡ key_number (λ x. name (f x)) xs q
placed f name q xs = position_from-zero (λ b. bytes_eq (name b) q) (map f xs) ∙ numbered f name q xs 0

-- lists that are made of the same parts, item by item, with the same names
pub same_place : {A B C : Type 0} → (f : A → B) (g : A → C) (name : B → List ℕ) (other : C → List ℕ) (q : List ℕ) (xs : List A) → ((x : A) → name (f x) ≡ other (g x)) → position (λ b. bytes_eq (name b) q) (map f xs) ≡ position (λ c. bytes_eq (other c) q) (map g xs)
same_place f g name other q xs same = placed f name q xs ∙ (λ i. key_number (λ x. same x i) xs q) ∙ sym (placed g other q xs)

place_below : (b : Bool) (n m most : ℕ) → nat_lt n m ≡ b → m < most → IfSome (cond b (Some n) None) (λ i. i < most)
place_below true n m most e lt = grind (arith, nat_tests)
place_below false n m most e lt = tt

-- a place is below the length
pub within : {A : Type 0} → (p : A → Bool) (xs : List A) (most : ℕ) → length xs < most → IfSome (position p xs) (λ i. i < most)
within p xs most lt = place_below _ (position_or_len p xs) (length xs) most refl lt
