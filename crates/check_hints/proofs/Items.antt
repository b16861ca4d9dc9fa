-- Items of lists that are made of other lists, and of numbers.
use Rattle.std.proofs.Common.{◌≡◌, ◌∙◌, ◌+◌, ℕ, List, [], ◌∷◌, ◌++◌, ap, append_assoc, arith, map, slice_get, sym}
use Rattle.std.specs.Prelude.{option_map}
use Rattle.std.specs.List.{range_with_len}
use Rattle.std.proofs.lemmas.List.FromFn.{map-range_with_len_more}
use Rattle.std.proofs.lemmas.Option.{slice_get-map}

pub item_mapped : {A B : Type 0} (make : A → B) (xs : List A) (n : ℕ) → slice_get (map make xs) n ≡ option_map make (slice_get xs n)
item_mapped make xs n = slice_get-map make xs n

-- one more is made of a number
pub one_more : {A : Type 0} (make : ℕ → A) (front old new : List A) (n k : ℕ) → new ≡ old ++ make k ∷ [] → k ≡ n → old ≡ front ++ map make (range_with_len 0 n) → new ≡ front ++ map make (range_with_len 0 (n + 1))
one_more make front old new n k e same h =
    let none : 0 + n ≡ n = omega arith in
    e ∙ ap (λ x. old ++ make x ∷ []) same ∙ ap (λ l. l ++ make n ∷ []) h ∙ append_assoc front (map make (range_with_len 0 n)) (make n ∷ [])
    ∙ ap (λ l. front ++ l) (sym (map-range_with_len_more make 0 n n none))
