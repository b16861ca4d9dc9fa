-- Reading items one after the other, as a loop does.
use Rattle.std.proofs.Common.{◌≡◌, ℕ, suc, ◌-◌, ◌+◌, ◌≤◌, ◌<◌, List, [], ◌∷◌, ◌++◌, Ok, Err, refl, sym, ap, ◌∙◌, append_assoc, arith}
use Rattle.std.proofs.lemmas.List.{append-nil}
use Rattle.slee_value.specs.declared.fault.PartFault.{PartFault}
use Rattle.slee_value.specs.declared.fault.PartFault.TheVariants as parts
use Rattle.slee_value.specs.Reading.{Part, ◌>>=◌, Fails}
use Rattle.router_state.specs.Parsing.{items_at}

-- what was read before, and what is still read
abbrev pub with_front : {A : Type 0} → List A → Part (List A) → Part (List A)
with_front front read = read >>= λ x. Ok (front ++ x.0, x.1)

regroup : {A : Type 0} (front : List A) (n : A) (read : Part (List A)) → with_front front (read >>= λ x. Ok (n ∷ x.0, x.1)) ≡ with_front (front ++ n ∷ []) read
regroup {A} front n (Ok x) = ap (λ (ns : List A). Ok (ns, x.1)) (simp append_assoc)
regroup front n (Err f) = refl

pub items_go_on : {A : Type 0} (item_at : List ℕ → Part A) (front : List A) (count i : ℕ) (bytes : List ℕ) (n : A) (after : List ℕ) (total : Part (List A)) → i < count → item_at bytes ≡ Ok (n, after)
    → with_front front (items_at item_at (count - i) bytes) ≡ total → with_front (front ++ n ∷ []) (items_at item_at (count - (i + 1)) after) ≡ total
items_go_on item_at front count i bytes n after total lt h so_far =
    let k : count - i ≡ suc (count - (i + 1)) = omega arith in
    let one : with_front front (items_at item_at (count - i) bytes) ≡ with_front (front ++ n ∷ []) (items_at item_at (count - (i + 1)) after) = rw (k, h) (regroup front n (items_at item_at (count - (i + 1)) after)) in
    sym one ∙ so_far

pub items_end : {A : Type 0} (item_at : List ℕ → Part A) (e : PartFault) (front : List A) (count i : ℕ) (bytes : List ℕ) (total : Part (List A)) → i < count → Fails e (item_at bytes)
    → with_front front (items_at item_at (count - i) bytes) ≡ total → Fails e total
items_end item_at parts.NoMemory front count i bytes total lt h so_far = tt
items_end item_at (parts.Bad left kind) front count i bytes total lt h so_far =
    let k : count - i ≡ suc (count - (i + 1)) = omega arith in
    let one : with_front front (items_at item_at (count - i) bytes) ≡ Err (record { left = left; kind = kind }) = rw (k, h) refl in
    sym so_far ∙ one

pub items_done : {A : Type 0} (item_at : List ℕ → Part A) (front : List A) (count i : ℕ) (bytes : List ℕ) (total : Part (List A)) → count ≤ i → with_front front (items_at item_at (count - i) bytes) ≡ total → total ≡ Ok (front, bytes)
items_done {A} item_at front count i bytes total le so_far =
    let k : count - i ≡ 0 = omega arith in
    let one : with_front front (items_at item_at (count - i) bytes) ≡ Ok (front, bytes) = rw k (ap (λ (ns : List A). Ok (ns, bytes)) (append-nil front)) in
    sym so_far ∙ one
