-- Where a name falls behind the one before, byte by byte.
use Rattle.std.proofs.Common.{◌≡◌, ℕ, suc, ◌+◌, ◌-◌, ◌<◌, ◌≤◌, cond, ltb, List, [], ◌∷◌, length, get_or, drop, Some, None, refl, ap, ◌∙◌, arith, drop-cons}
use Rattle.std.proofs.lemmas.List.{length-drop, drop_all}
use Rattle.std.proofs.lemmas.Bool.{lt-ltb, le-ltb}
use Rattle.slee_effect.specs.Rising.{fall}

fall_open : (ps : List ℕ) (n : ℕ) → fall ps (suc n) [] ≡ None
fall_open [] n = refl
fall_open (p ∷ ps) n = refl

-- the one before is a front of the name
pub fall_past : (before bytes : List ℕ) (len at : ℕ) → at < len → at ≡ length before → fall (drop at before) (len - at) (drop at bytes) ≡ None
fall_past before bytes len at lt e =
    let n : len - at ≡ suc (len - (at + 1)) = omega arith in
    rw (n, drop_all at before (omega arith)) refl

-- the bytes end, and the name may still rise
pub fall_short : (before bytes : List ℕ) (len at : ℕ) → at < len → at ≡ length bytes → fall (drop at before) (len - at) (drop at bytes) ≡ None
fall_short before bytes len at lt e =
    let n : len - at ≡ suc (len - (at + 1)) = omega arith in
    rw (n, drop_all at bytes (omega arith)) (fall_open (drop at before) (len - (at + 1)))

fall_cells : (p : ℕ) (ps : List ℕ) (n : ℕ) (b : ℕ) (bs : List ℕ) (before bytes : List ℕ) (m : ℕ) → before ≡ p ∷ ps → m ≡ suc n → bytes ≡ b ∷ bs
    → fall before m bytes ≡ cond (ltb b p) (Some (length (b ∷ bs))) (cond (ltb p b) None (fall ps n bs))
fall_cells p ps n b bs before bytes m e k f = rw (e, k, f) refl

pub fall_step : (before bytes : List ℕ) (len at : ℕ) → at < len → at < length before → at < length bytes
    → fall (drop at before) (len - at) (drop at bytes) ≡ cond (ltb (get_or bytes at 0) (get_or before at 0)) (Some (length bytes - at)) (cond (ltb (get_or before at 0) (get_or bytes at 0)) None (fall (drop (at + 1) before) (len - (at + 1)) (drop (at + 1) bytes)))
fall_step before bytes len at lt h k =
    let next : suc at ≡ at + 1 = omega arith in
    let one : drop at before ≡ get_or before at 0 ∷ drop (at + 1) before = drop-cons before at 0 h ∙ ap (λ (n : ℕ). get_or before at 0 ∷ drop n before) next in
    let other : drop at bytes ≡ get_or bytes at 0 ∷ drop (at + 1) bytes = drop-cons bytes at 0 k ∙ ap (λ (n : ℕ). get_or bytes at 0 ∷ drop n bytes) next in
    let n : len - at ≡ suc (len - (at + 1)) = omega arith in
    let left : length (get_or bytes at 0 ∷ drop (at + 1) bytes) ≡ length bytes - at = omega (arith, length-drop (at + 1) bytes) in
    fall_cells (get_or before at 0) (drop (at + 1) before) (len - (at + 1)) (get_or bytes at 0) (drop (at + 1) bytes) (drop at before) (drop at bytes) (len - at) one n other ∙ ap (λ (i : ℕ). cond (ltb (get_or bytes at 0) (get_or before at 0)) (Some i) (cond (ltb (get_or before at 0) (get_or bytes at 0)) None (fall (drop (at + 1) before) (len - (at + 1)) (drop (at + 1) bytes)))) left

pub fall_rises : (before bytes : List ℕ) (len at : ℕ) → at < len → at < length before → at < length bytes → get_or before at 0 < get_or bytes at 0 → fall (drop at before) (len - at) (drop at bytes) ≡ None
fall_rises before bytes len at lt h k up = fall_step before bytes len at lt h k ∙ rw (le-ltb (get_or bytes at 0) (get_or before at 0) (omega arith), lt-ltb (get_or before at 0) (get_or bytes at 0) up) refl

pub fall_falls : (before bytes : List ℕ) (len at : ℕ) → at < len → at < length before → at < length bytes → get_or bytes at 0 < get_or before at 0 → fall (drop at before) (len - at) (drop at bytes) ≡ Some (length bytes - at)
fall_falls before bytes len at lt h k down = fall_step before bytes len at lt h k ∙ rw (lt-ltb (get_or bytes at 0) (get_or before at 0) down) refl

pub fall_same : (before bytes : List ℕ) (len at : ℕ) → at < len → at < length before → at < length bytes → get_or before at 0 ≤ get_or bytes at 0 → get_or bytes at 0 ≤ get_or before at 0 → fall (drop at before) (len - at) (drop at bytes) ≡ fall (drop (at + 1) before) (len - (at + 1)) (drop (at + 1) bytes)
fall_same before bytes len at lt h k up down = fall_step before bytes len at lt h k ∙ rw (le-ltb (get_or bytes at 0) (get_or before at 0) up, le-ltb (get_or before at 0) (get_or bytes at 0) down) refl

-- the name has ended within the one before, or with it
pub fall_ended : (before bytes : List ℕ) (len at : ℕ) → len ≤ at → at ≤ length bytes → at ≤ len → fall (drop at before) (len - at) (drop at bytes) ≡ Some (length bytes - len + 1)
fall_ended before bytes len at le h k =
    let n : len - at ≡ 0 = omega arith in
    let left : length (drop at bytes) + 1 ≡ length bytes - len + 1 = omega (arith, length-drop at bytes) in
    rw n (ap (λ (i : ℕ). Some i) left)
