-- What is spelled in fewer than 2^64 bytes is read again: parts behind one another, and lists.
use Rattle.std.proofs.Common.{◌≡◌, ℕ, ◌^◌, ◌<◌, ◌≤◌, List, [], ◌∷◌, ◌++◌, length, map, refl, ◌∙◌, append_assoc, arith}
use Rattle.std.specs.Prelude.{Ok, flat_map}
use Rattle.std.specs.List.{AllByRecursion}
use Rattle.std.specs.Int.{w64}
use Rattle.std.proofs.lemmas.List.{length-append, map-id}
use Rattle.slee_value.specs.Bytes.{spelled_u64}
use Rattle.slee_value.specs.Reading.{Part, ◌>>=◌, number_at}
use Rattle.slee_value.proofs.PartLemmas.{reads_u64}
use Rattle.router_state.specs.Parsing.{items_at, list_at}
use Rattle.router_state.specs.Snapshot.{listed}

-- the front of some bytes is read, and then what follows from it
pub front : {A B : Type 0} (read : List ℕ → Part A) (f : A × List ℕ → Part B) (a rest : List ℕ) (x : A) → ((more : List ℕ) → read (a ++ more) ≡ Ok (x, more)) → (read (a ++ rest) >>= f) ≡ f (x, rest)
front read f a rest x again = rw (again rest) refl

-- so is the front of the first of two
pub step : {A B : Type 0} (read : List ℕ → Part A) (f : A × List ℕ → Part B) (a b rest : List ℕ) (x : A) → ((more : List ℕ) → read (a ++ more) ≡ Ok (x, more)) → (read ((a ++ b) ++ rest) >>= f) ≡ f (x, b ++ rest)
step read f a b rest x again = rw (append_assoc a b rest) (rw (again (b ++ rest)) refl)

-- What fits and is spelled in fewer than 2^64 bytes is read again, seen by view; it has a byte at least.
pub record Again {A B : Type 0} (spell : A → List ℕ) (fits : A → Type 0) (view : A → B) (read : List ℕ → Part B) : Type 0 where
  pub back : (x : A) (rest : List ℕ) → fits x → length (spell x) < 2 ^ 64 → read (spell x ++ rest) ≡ Ok (view x, rest)
  pub some : (x : A) → 1 ≤ length (spell x)

pub left_short : (a b : List ℕ) → length (a ++ b) < 2 ^ 64 → length a < 2 ^ 64
left_short a b short = omega (arith, length-append a b)

pub right_short : (a b : List ℕ) → length (a ++ b) < 2 ^ 64 → length b < 2 ^ 64
right_short a b short = omega (arith, length-append a b)

pub again_u64 : Again spelled_u64 (λ n. n < 2 ^ 64) (λ n. n) (number_at w64)
again_u64 = record { back = λ n rest fits short. reads_u64.again n rest fits; some = λ n. omega arith }

module _ {A B : Type 0} (spell : A → List ℕ) (fits : A → Type 0) (view : A → B) (read : List ℕ → Part B) (again : Again spell fits view read) where
  -- each item has a byte
  items_long : (items : List A) → length items ≤ length (flat_map spell items)
  items_long [] = omega arith
  items_long (x ∷ items) = omega (arith, again.some x, items_long items, length-append (spell x) (flat_map spell items))

  items_again : (items : List A) (rest : List ℕ) → AllByRecursion fits items → length (flat_map spell items) < 2 ^ 64 → items_at read (length items) (flat_map spell items ++ rest) ≡ Ok (map view items, rest)
  items_again [] rest fit short = refl
  items_again (x ∷ items) rest fit short =
      step read _ (spell x) (flat_map spell items) rest (view x) (λ more. again.back x more fit.0 (left_short (spell x) (flat_map spell items) short))
      ∙ rw (items_again items rest fit.1 (right_short (spell x) (flat_map spell items) short)) refl

  list_back : (items : List A) (rest : List ℕ) → AllByRecursion fits items → length (listed spell items) < 2 ^ 64 → list_at read (listed spell items ++ rest) ≡ Ok (map view items, rest)
  list_back items rest fit short =
      let all = right_short (spelled_u64 (length items)) (flat_map spell items) short in
      let few : length items < 2 ^ 64 = omega (arith, items_long items) in
      step (number_at w64) _ (spelled_u64 (length items)) (flat_map spell items) rest (length items) (λ more. reads_u64.again (length items) more few)
      ∙ items_again items rest fit all

  -- so is a list
  pub again_list : Again (listed spell) (AllByRecursion fits) (map view) (list_at read)
  again_list = record { back = list_back; some = λ items. omega (arith, length-append (spelled_u64 (length items)) (flat_map spell items)) }

-- a list of things that are read as themselves
pub again_items : {A : Type 0} (spell : A → List ℕ) (fits : A → Type 0) (read : List ℕ → Part A) → Again spell fits (λ x. x) read → Again (listed spell) (AllByRecursion fits) (λ xs. xs) (list_at read)
again_items spell fits read again =
    let all = again_list spell fits (λ x. x) read again in
    record { back = λ items rest fit short. all.back items rest fit short ∙ rw (map-id items) refl; some = all.some }
