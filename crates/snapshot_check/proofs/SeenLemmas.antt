-- Keys made one by one stand for what the rows do.
use Rattle.std.proofs.Common.{◌≡◌, ℕ, ◌+◌, ◌<◌, ◌≤◌, List, [], ◌∷◌, ◌++◌, drop, get_or, length, map, refl, sym, ap, ◌∙◌}
use Rattle.std.proofs.lemmas.List.{append-nil, append_assoc, at_drop_all, drop_more}

map_joined : {A B : Type 0} (f : A → B) (xs : List A) (y : A) → map f (xs ++ y ∷ []) ≡ map f xs ++ f y ∷ []
map_joined f [] y = refl
map_joined f (x ∷ xs) y = ap (λ rest. f x ∷ rest) (map_joined f xs y)

-- one more key
pub seen_on : {K V X : Type 0} (f : K → V) (g : X → V) (xs : List X) (keys more : List K) (k : K) (i : ℕ) (x : X) → i < length xs → x ≡ get_or xs i x → f k ≡ g x → more ≡ keys ++ k ∷ []
    → map f keys ++ map g (drop i xs) ≡ map g xs → map f more ++ map g (drop (i + 1) xs) ≡ map g xs
seen_on f g xs keys more k i x within is alike pushed before =
    ap (λ ks. map f ks ++ map g (drop (i + 1) xs)) pushed
    ∙ ap (λ front. front ++ map g (drop (i + 1) xs)) (map_joined f keys k)
    ∙ append_assoc (map f keys) (f k ∷ []) (map g (drop (i + 1) xs))
    ∙ ap (λ v. map f keys ++ v ∷ map g (drop (i + 1) xs)) (alike ∙ ap g is)
    ∙ ap (λ rest. map f keys ++ map g rest) (sym (drop_more xs i x within))
    ∙ before

-- all keys
pub seen_all : {K V X : Type 0} (f : K → V) (g : X → V) (xs : List X) (keys : List K) (i : ℕ) → length xs ≤ i → map f keys ++ map g (drop i xs) ≡ map g xs → map f keys ≡ map g xs
seen_all f g xs keys i past before = sym (at_drop_all (λ rest. map f keys ++ map g rest) xs i past ∙ append-nil (map f keys)) ∙ before
