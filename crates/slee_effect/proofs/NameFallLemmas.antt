-- Where a name falls, byte by byte of its length.
use Rattle.std.proofs.Common.{◌≡◌, ℕ, zero, suc, ◌+◌, ◌-◌, ◌<◌, ◌≤◌, cond, eqb, List, [], ◌∷◌, ◌++◌, length, get_or, take, drop, replicate, Some, None, refl, sym, ap, subst, ◌∙◌, arith, drop-cons}
use Rattle.std.specs.Prelude.{slice_set}
use Rattle.std.specs.Int.{w32, from_le_bytes}
use Rattle.std.proofs.lemmas.Bool.{ne_eqb, eq-eqb}
use Rattle.std.proofs.lemmas.List.{length-drop, length-take, drop_all}
use Rattle.slee_effect.specs.Rising.{reach, greatest_len, fall, name_fall}

take_one : (at : ℕ) (bytes : List ℕ) → at < length bytes → take at bytes ++ get_or bytes at 0 ∷ [] ≡ take (suc at) bytes
take_one at [] h = absurd (omega arith)
take_one zero (b ∷ bs) h = refl
take_one (suc at) (b ∷ bs) h = ap (λ (t : List ℕ). b ∷ t) (take_one at bs (omega arith))

set_one : (at k x : ℕ) (bytes : List ℕ) → at < length bytes → slice_set (take at bytes ++ replicate (suc k) x) at (get_or bytes at 0) ≡ take (suc at) bytes ++ replicate k x
set_one at k x [] h = absurd (omega arith)
set_one zero k x (b ∷ bs) h = refl
set_one (suc at) k x (b ∷ bs) h = ap (λ (t : List ℕ). b ∷ t) (set_one at k x bs (omega arith))

-- one byte more of the length is set
pub set_next : (len bytes : List ℕ) (at : ℕ) → at < 4 → at < length bytes → len ≡ take at bytes ++ replicate (4 - at) 255 → slice_set len at (get_or bytes at 0) ≡ take (at + 1) bytes ++ replicate (4 - (at + 1)) 255
set_next len bytes at lt h e =
    let next : suc at ≡ at + 1 = omega arith in
    let n : 4 - at ≡ suc (4 - (at + 1)) = omega arith in
    let P : ℕ → Type 0 = λ i. slice_set len at (get_or bytes at 0) ≡ take i bytes ++ replicate (4 - (at + 1)) 255 in
    subst P next (rw (e, n) (set_one at (4 - (at + 1)) 255 bytes h))

-- the number that the length is by its bytes so far
pub len_is : (len bytes : List ℕ) (at : ℕ) → at ≤ length bytes → len ≡ take at bytes ++ replicate (4 - at) 255 → from_le_bytes w32 len ≡ greatest_len (take at bytes)
len_is len bytes at h e =
    let n : length (take at bytes) ≡ at = omega (arith, length-take at bytes) in
    ap (from_le_bytes w32) e ∙ ap (λ (k : ℕ). from_le_bytes w32 (take at bytes ++ replicate (4 - k) 255)) (sym n)

cells : (before front : List ℕ) (k : ℕ) (b : ℕ) (bs : List ℕ) (m : ℕ) (bytes : List ℕ) → m ≡ suc k → bytes ≡ b ∷ bs
    → name_fall before front m bytes ≡ cond (eqb (reach before (greatest_len (front ++ b ∷ []))) 0) (Some (length (b ∷ bs))) (name_fall before (front ++ b ∷ []) k bs)
cells before front k b bs m bytes e f = rw (e, f) refl

step : (before bytes : List ℕ) (at : ℕ) → at < 4 → at < length bytes
    → name_fall before (take at bytes) (4 - at) (drop at bytes) ≡ cond (eqb (reach before (greatest_len (take (at + 1) bytes))) 0) (Some (length bytes - at)) (name_fall before (take (at + 1) bytes) (4 - (at + 1)) (drop (at + 1) bytes))
step before bytes at lt h =
    let next : suc at ≡ at + 1 = omega arith in
    let b : ℕ = get_or bytes at 0 in
    let rest : drop at bytes ≡ b ∷ drop (at + 1) bytes = drop-cons bytes at 0 h ∙ ap (λ (n : ℕ). b ∷ drop n bytes) next in
    let n : 4 - at ≡ suc (4 - (at + 1)) = omega arith in
    let left : length (b ∷ drop (at + 1) bytes) ≡ length bytes - at = omega (arith, length-drop (at + 1) bytes) in
    let front : take at bytes ++ b ∷ [] ≡ take (at + 1) bytes = take_one at bytes h ∙ ap (λ (i : ℕ). take i bytes) next in
    cells before (take at bytes) (4 - (at + 1)) b (drop (at + 1) bytes) (4 - at) (drop at bytes) n rest
    ∙ ap (λ (t : List ℕ). cond (eqb (reach before (greatest_len t)) 0) (Some (length (b ∷ drop (at + 1) bytes))) (name_fall before t (4 - (at + 1)) (drop (at + 1) bytes))) front
    ∙ ap (λ (i : ℕ). cond (eqb (reach before (greatest_len (take (at + 1) bytes))) 0) (Some i) (name_fall before (take (at + 1) bytes) (4 - (at + 1)) (drop (at + 1) bytes))) left

-- the bytes end within the length
pub len_short : (before bytes : List ℕ) (at : ℕ) → at < 4 → at ≡ length bytes → name_fall before (take at bytes) (4 - at) (drop at bytes) ≡ None
len_short before bytes at lt e =
    let n : 4 - at ≡ suc (4 - (at + 1)) = omega arith in
    rw (n, drop_all at bytes (omega arith)) refl

-- with this byte no length is long enough
pub len_falls : (before bytes : List ℕ) (at : ℕ) → at < 4 → at < length bytes → reach before (greatest_len (take (at + 1) bytes)) ≡ 0 → name_fall before (take at bytes) (4 - at) (drop at bytes) ≡ Some (length bytes - at)
len_falls before bytes at lt h z = step before bytes at lt h ∙ rw (eq-eqb _ _ z) refl

-- and with this one there may be one
pub len_goes_on : (before bytes : List ℕ) (at : ℕ) → at < 4 → at < length bytes → ¬ (reach before (greatest_len (take (at + 1) bytes)) ≡ 0)
    → name_fall before (take at bytes) (4 - at) (drop at bytes) ≡ name_fall before (take (at + 1) bytes) (4 - (at + 1)) (drop (at + 1) bytes)
len_goes_on before bytes at lt h z = step before bytes at lt h ∙ rw (ne_eqb _ _ z) refl

-- behind the length
pub len_whole : (before bytes : List ℕ) (at most : ℕ) → 4 ≤ at → at ≤ 4 → most ≡ reach before (greatest_len (take at bytes)) → name_fall before (take at bytes) (4 - at) (drop at bytes) ≡ fall before most (drop 4 bytes)
len_whole before bytes at most l h e =
    let four : at ≡ 4 = omega arith in
    let none : 4 - at ≡ 0 = omega arith in
    rw (none, e, four) refl
