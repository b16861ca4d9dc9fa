-- The first that passes, and what stands before it.
use Rattle.std.proofs.Common.{◌≡◌, ℕ, Bool, true, false, List, [], ◌∷◌, Some, None, cond, map, option_map, find, position, take, refl, ap, arith}
use Rattle.std.specs.List.{position_or_len}
use Rattle.std.proofs.lemmas.List.{take_all}
use Rattle.std.proofs.lemmas.Bool.Decides.{nat_tests}

made_at : {A B : Type 0} → (b : Bool) (f : A → B) (p : B → Bool) (x : A) (xs : List A) → find p (map f xs) ≡ option_map f (find (λ y. p (f y)) xs) → cond b (Some (f x)) (find p (map f xs)) ≡ option_map f (cond b (Some x) (find (λ y. p (f y)) xs))
made_at true f p x xs h = refl
made_at false f p x xs h = h

-- the first of what is made of items is made of the first of these
pub find_made : {A B : Type 0} → (f : A → B) (p : B → Bool) (xs : List A) → find p (map f xs) ≡ option_map f (find (λ x. p (f x)) xs)
find_made f p [] = refl
find_made f p (x ∷ xs) = made_at (p (f x)) f p x xs (find_made f p xs)

place_is : (b : Bool) (n m : ℕ) → cond b (Some m) None ≡ Some n → n ≡ m
place_is true n m h = cc
place_is false n m h = absurd cc

no_place : (b : Bool) (m : ℕ) → cond b (Some m) None ≡ None → b ≡ false
no_place true m h = absurd cc
no_place false m h = refl

-- a place that is there is the length of what stands before
pub place_before : {A : Type 0} → (p : A → Bool) (xs : List A) (n : ℕ) → position p xs ≡ Some n → take n xs ≡ take (position_or_len p xs) xs
place_before p xs n h = ap (λ m. take m xs) (place_is _ n _ h)

-- where there is no place, all stands before it
pub none_before : {A : Type 0} → (p : A → Bool) (xs : List A) → position p xs ≡ None → take (position_or_len p xs) xs ≡ xs
none_before p xs h = take_all _ xs (let e = no_place _ _ h in grind (arith, nat_tests))
