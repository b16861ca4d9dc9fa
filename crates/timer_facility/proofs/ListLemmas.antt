-- What holds of each in lists that are made of others, and lists of occurrences as they grow.
use Rattle.std.proofs.Common.{◌≡◌, ℕ, ◌+◌, ◌-◌, ◌≤◌, List, [], ◌∷◌, ◌++◌, map, reverse, refl, sym, ap, subst, ◌∙◌, arith, append_assoc}
use Rattle.std.specs.List.{AllByRecursion, flat_map, range_with_len}
use Rattle.std.proofs.lemmas.Grind.{reverse_onto}
use Rattle.std.proofs.lemmas.List.FromFn.{map-range_with_len_more}
use Rattle.router_state.specs.Timers.{due_count}
use Rattle.router_state.specs.declared.rows.Timer.{Timer}
use Rattle.router_state.specs.Timing.{Occurrence, occurrence_of, fired_count, fired_of}

pub all_mapped : {X Y : Type 0} (f : X → Y) (P : Y → Type 0) → ((x : X) → P (f x)) → (xs : List X) → AllByRecursion P (map f xs)
all_mapped f P any [] = tt
all_mapped f P any (x ∷ xs) = (any x, all_mapped f P any xs)

pub all_joined : {X : Type 0} (P : X → Type 0) (xs ys : List X) → AllByRecursion P xs → AllByRecursion P ys → AllByRecursion P (xs ++ ys)
all_joined P [] ys all also = also
all_joined P (x ∷ xs) ys all also = (all.0, all_joined P xs ys all.1 also)

pub all_flat : {X Y : Type 0} (P : Y → Type 0) (g : X → List Y) (xs : List X) → AllByRecursion (λ x. AllByRecursion P (g x)) xs → AllByRecursion P (flat_map g xs)
all_flat P g [] all = tt
all_flat P g (x ∷ xs) all = all_joined P (g x) (flat_map g xs) all.0 (all_flat P g xs all.1)

pub all_any : {X : Type 0} (P : X → Type 0) → ((x : X) → P x) → (xs : List X) → AllByRecursion P xs
all_any P any [] = tt
all_any P any (x ∷ xs) = (any x, all_any P any xs)

pub all_reversed : {X : Type 0} (P : X → Type 0) (xs : List X) → AllByRecursion P xs → AllByRecursion P (reverse xs)
all_reversed P [] all = tt
all_reversed P (x ∷ xs) all = subst (λ ys. AllByRecursion P ys) (sym (reverse_onto xs x [])) (all_joined P (reverse xs) (x ∷ []) (all_reversed P xs all.1) (all.0, tt))

-- one more occurrence behind those from the first on
pub one_more : (t : Timer) (first place : ℕ) (ys : List Occurrence) → first ≤ place
    → (ys ++ map (occurrence_of t) (range_with_len first (place - first))) ++ occurrence_of t place ∷ [] ≡ ys ++ map (occurrence_of t) (range_with_len first (place + 1 - first))
one_more t first place ys reached =
    let later : place + 1 - first ≡ (place - first) + 1 = omega arith in
    let there : first + (place - first) ≡ place = omega arith in
    append_assoc ys _ _ ∙ ap (λ rest. ys ++ rest) (sym (map-range_with_len_more (occurrence_of t) first (place - first) place there) ∙ (rw later refl))

-- with the last one all that are fired are there
pub all_there : (t : Timer) (to first count place : ℕ) (ys : List Occurrence) → count ≡ due_count t to → fired_count to t ≤ count → first ≡ count - fired_count to t → place ≡ count
    → ys ++ map (occurrence_of t) (range_with_len first (place - first)) ≡ ys ++ fired_of to t
all_there t to first count place ys is few from at =
    let some : place - first ≡ fired_count to t = omega arith in
    let begun : first ≡ due_count t to - fired_count to t = omega arith in
    ap (λ rest. ys ++ map (occurrence_of t) rest) (ap (range_with_len first) some ∙ ap (λ n. range_with_len n (fired_count to t)) begun)
