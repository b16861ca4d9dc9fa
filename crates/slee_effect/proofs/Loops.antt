-- Reading one after the other, as a loop does.
use Rattle.std.proofs.Common.{◌≡◌, ℕ, suc, ◌-◌, ◌+◌, ◌≤◌, ◌<◌, List, [], ◌∷◌, ◌++◌, Option, Some, Ok, Err, refl, sym, ap, ◌∙◌, append_assoc, arith}
use Rattle.std.proofs.lemmas.List.{append-nil}
use Rattle.slee_value.specs.declared.fault.PartFault.{PartFault}
use Rattle.slee_value.specs.declared.fault.PartFault.TheVariants as parts
use Rattle.slee_value.specs.Reading.{Part, ◌>>=◌, Fails}
use Rattle.slee_effect.specs.declared.value.Val.{Val}
use Rattle.slee_effect.specs.declared.effect.Effect.{Effect}
use Rattle.slee_effect.specs.Reading.{effect_at, items_at, field_at, rows_at}

-- what was read before, and what is still read
abbrev pub with_front : {A : Type 0} → List A → Part (List A) → Part (List A)
with_front front read = read >>= λ x. Ok (front ++ x.0, x.1)

regroup : {A : Type 0} (front : List A) (n : A) (read : Part (List A)) → with_front front (read >>= λ x. Ok (n ∷ x.0, x.1)) ≡ with_front (front ++ n ∷ []) read
regroup {A} front n (Ok x) = ap (λ (ns : List A). Ok (ns, x.1)) (simp append_assoc)
regroup front n (Err f) = refl

-- ---- effects

pub items_go_on : (front : List Effect) (count i : ℕ) (bytes : List ℕ) (n : Effect) (after : List ℕ) (total : Part (List Effect)) → i < count → effect_at bytes ≡ Ok (n, after)
    → with_front front (items_at (count - i) bytes) ≡ total → with_front (front ++ n ∷ []) (items_at (count - (i + 1)) after) ≡ total
unfolding items_at
items_go_on front count i bytes n after total lt h so_far =
    let k : count - i ≡ suc (count - (i + 1)) = omega arith in
    let one : with_front front (items_at (count - i) bytes) ≡ with_front (front ++ n ∷ []) (items_at (count - (i + 1)) after) = rw (k, h) (regroup front n (items_at (count - (i + 1)) after)) in
    sym one ∙ so_far

pub items_end : (e : PartFault) (front : List Effect) (count i : ℕ) (bytes : List ℕ) (total : Part (List Effect)) → i < count → Fails e (effect_at bytes)
    → with_front front (items_at (count - i) bytes) ≡ total → Fails e total
unfolding items_at
items_end parts.NoMemory front count i bytes total lt h so_far = tt
items_end (parts.Bad left kind) front count i bytes total lt h so_far =
    let k : count - i ≡ suc (count - (i + 1)) = omega arith in
    let one : with_front front (items_at (count - i) bytes) ≡ Err (record { left = left; kind = kind }) = rw (k, h) refl in
    sym so_far ∙ one

pub items_done : (front : List Effect) (count i : ℕ) (bytes : List ℕ) (total : Part (List Effect)) → count ≤ i → with_front front (items_at (count - i) bytes) ≡ total → total ≡ Ok (front, bytes)
unfolding items_at
items_done front count i bytes total le so_far =
    let k : count - i ≡ 0 = omega arith in
    let one : with_front front (items_at (count - i) bytes) ≡ Ok (front, bytes) = rw k (ap (λ (ns : List Effect). Ok (ns, bytes)) (append-nil front)) in
    sym so_far ∙ one

-- ---- fields

pub rows_go_on : (front : List (List ℕ × Val)) (before : Option (List ℕ)) (count i : ℕ) (bytes : List ℕ) (n : List ℕ × Val) (after : List ℕ) (total : Part (List (List ℕ × Val))) → i < count → field_at before bytes ≡ Ok (n, after)
    → with_front front (rows_at (count - i) before bytes) ≡ total → with_front (front ++ n ∷ []) (rows_at (count - (i + 1)) (Some n.0) after) ≡ total
unfolding rows_at
rows_go_on front before count i bytes n after total lt h so_far =
    let k : count - i ≡ suc (count - (i + 1)) = omega arith in
    let one : with_front front (rows_at (count - i) before bytes) ≡ with_front (front ++ n ∷ []) (rows_at (count - (i + 1)) (Some n.0) after) = rw (k, h) (regroup front n (rows_at (count - (i + 1)) (Some n.0) after)) in
    sym one ∙ so_far

pub rows_end : (e : PartFault) (front : List (List ℕ × Val)) (before : Option (List ℕ)) (count i : ℕ) (bytes : List ℕ) (total : Part (List (List ℕ × Val))) → i < count → Fails e (field_at before bytes)
    → with_front front (rows_at (count - i) before bytes) ≡ total → Fails e total
unfolding rows_at
rows_end parts.NoMemory front before count i bytes total lt h so_far = tt
rows_end (parts.Bad left kind) front before count i bytes total lt h so_far =
    let k : count - i ≡ suc (count - (i + 1)) = omega arith in
    let one : with_front front (rows_at (count - i) before bytes) ≡ Err (record { left = left; kind = kind }) = rw (k, h) refl in
    sym so_far ∙ one

pub rows_done : (front : List (List ℕ × Val)) (before : Option (List ℕ)) (count i : ℕ) (bytes : List ℕ) (total : Part (List (List ℕ × Val))) → count ≤ i → with_front front (rows_at (count - i) before bytes) ≡ total → total ≡ Ok (front, bytes)
unfolding rows_at
rows_done front before count i bytes total le so_far =
    let k : count - i ≡ 0 = omega arith in
    let one : with_front front (rows_at (count - i) before bytes) ≡ Ok (front, bytes) = rw k (ap (λ (ns : List (List ℕ × Val)). Ok (ns, bytes)) (append-nil front)) in
    sym so_far ∙ one
