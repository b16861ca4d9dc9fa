-- What is found in the parts of a deployment is what the deployment has there.
use Rattle.std.proofs.Common.{◌≡◌, ◌+◌, ◌∙◌, ℕ, List, [], ◌∷◌, Option, Some, None, cond, map, option_map, position, bytes_eq, refl, ap, sym}
use Rattle.std.specs.Prelude.{slice_get}
use Rattle.std.specs.List.{position_from}
use Rattle.std.proofs.lemmas.Iterator.Adapters.{position_from-zero}
use Rattle.std.proofs.lemmas.Option.{slice_get-map}
use Rattle.deploy_model.proofs.Noting.{turned}
use Rattle.deploy_model.specs.Tables.{key_number}

numbered : {A B : Type 0} → (f : A → B) (name : B → List ℕ) (q : List ℕ) (xs : List A) (n : ℕ) → position_from (λ b. bytes_eq (name b) q) n (map f xs) ≡ position_from (λ x. bytes_eq q (name (f x))) n xs
numbered f name q [] n = refl
numbered f name q (x ∷ xs) n = λ i. cond (turned (name (f x)) q i) (Some n) (numbered f name q xs (n + 1) i)

-- what stands first with a key has the same place in the list that is made item by item
pub placed : {A B : Type 0} → (f : A → B) (name : B → List ℕ) (q : List ℕ) (xs : List A) → position (λ b. bytes_eq (name b) q) (map f xs) ≡ key_number (λ x. name (f x)) xs q
placed f name q xs = position_from-zero (λ b. bytes_eq (name b) q) (map f xs) ∙ numbered f name q xs 0

-- what is read of an item of a list is read of what is made of it
pub read_of : {A B C : Type 0} → (f : A → B) (g : B → C) (xs : List A) (n : ℕ) (o : Option A) → o ≡ slice_get xs n → option_map (λ a. g (f a)) o ≡ option_map g (slice_get (map f xs) n)
read_of f g xs n None is = ap (option_map g) (ap (option_map f) is ∙ sym (slice_get-map f xs n))
read_of f g xs n (Some a) is = ap (option_map g) (ap (option_map f) is ∙ sym (slice_get-map f xs n))
