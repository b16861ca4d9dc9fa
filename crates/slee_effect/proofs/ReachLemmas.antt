-- How far a text can go along with another, byte by byte.
use Rattle.std.proofs.Common.{◌≡◌, ℕ, zero, suc, ◌+◌, ◌-◌, ◌<◌, ◌≤◌, true, false, ltb, List, [], ◌∷◌, length, get_or, drop, refl, sym, ap, ◌∙◌, arith, drop-cons}
use Rattle.std.proofs.lemmas.Bool.{lt-ltb, le-ltb}
use Rattle.slee_effect.specs.Rising.{greatest_next, behind_next, further, reach_in, reach}

-- how far it is from the start, with so many bytes before and this far in them
abbrev pub from_start : ℕ → ℕ → ℕ → ℕ
from_start at most zero = most
from_start at most (suc k) = at + suc k

cells : (caps : List ℕ) (b : ℕ) (bs : List ℕ) (n : ℕ) (before : List ℕ) (m : ℕ) → before ≡ b ∷ bs → m ≡ suc n → reach_in caps before m ≡ further (reach_in (behind_next caps b) bs n) (ltb b (greatest_next caps m))
cells caps b bs n before m e k = rw (e, k) refl

step : (caps before : List ℕ) (len at : ℕ) → at < len → at < length before
    → reach_in caps (drop at before) (len - at) ≡ further (reach_in (behind_next caps (get_or before at 0)) (drop (at + 1) before) (len - (at + 1))) (ltb (get_or before at 0) (greatest_next caps (len - at)))
step caps before len at lt h =
    let next : suc at ≡ at + 1 = omega arith in
    let one : drop at before ≡ get_or before at 0 ∷ drop (at + 1) before = drop-cons before at 0 h ∙ ap (λ (n : ℕ). get_or before at 0 ∷ drop n before) next in
    let n : len - at ≡ suc (len - (at + 1)) = omega arith in
    cells caps (get_or before at 0) (drop (at + 1) before) (len - (at + 1)) (drop at before) (len - at) one n

can_rise : (at most k : ℕ) → from_start at most (further k true) ≡ from_start (at + 1) (at + 1) k
can_rise at most zero = refl
can_rise at most (suc k) = omega arith

cannot_rise : (at most k : ℕ) → from_start at most (further k false) ≡ from_start (at + 1) most k
cannot_rise at most zero = refl
cannot_rise at most (suc k) = omega arith

-- the text before can be raised at this byte
pub raised : (caps before : List ℕ) (len at most total : ℕ) → at < len → at < length before → get_or before at 0 < greatest_next caps (len - at)
    → from_start at most (reach_in caps (drop at before) (len - at)) ≡ total → from_start (at + 1) (at + 1) (reach_in (behind_next caps (get_or before at 0)) (drop (at + 1) before) (len - (at + 1))) ≡ total
raised caps before len at most total lt h up so_far =
    let k : ℕ = reach_in (behind_next caps (get_or before at 0)) (drop (at + 1) before) (len - (at + 1)) in
    sym (ap (from_start at most) (step caps before len at lt h ∙ ap (further k) (lt-ltb _ _ up)) ∙ can_rise at most k) ∙ so_far

-- and here it can't
pub not_raised : (caps before : List ℕ) (len at most total : ℕ) → at < len → at < length before → greatest_next caps (len - at) ≤ get_or before at 0
    → from_start at most (reach_in caps (drop at before) (len - at)) ≡ total → from_start (at + 1) most (reach_in (behind_next caps (get_or before at 0)) (drop (at + 1) before) (len - (at + 1))) ≡ total
not_raised caps before len at most total lt h down so_far =
    let k : ℕ = reach_in (behind_next caps (get_or before at 0)) (drop (at + 1) before) (len - (at + 1)) in
    sym (ap (from_start at most) (step caps before len at lt h ∙ ap (further k) (le-ltb _ _ down)) ∙ cannot_rise at most k) ∙ so_far

-- all of its bytes are passed
pub passed : (caps before : List ℕ) (len at most : ℕ) → len ≤ at → len ≤ length before → from_start at most (reach_in caps (drop at before) (len - at)) ≡ reach_in [] before len → most ≡ reach before len
passed caps before len at most le h so_far =
    let n : len - at ≡ 0 = omega arith in
    let here : most ≡ reach_in [] before len = rw n at so_far in
    rw (le-ltb (length before) len h) here
