-- Bytes written over others.
use Rattle.std.proofs.Common.{◌≡◌, ℕ, ◌+◌, ◌-◌, ◌≤◌, inl, inr, List, ◌++◌, length, take, drop, replicate, sym, ◌∙◌, ap, arith, length-append, append-nil, drop_of_length-le}
use Rattle.std.proofs.Math.Seq.{take-append-add}
use Rattle.std.proofs.lemmas.Bool.{cases_lt}
use Rattle.std.proofs.lemmas.List.{take-append-le, take-replicate, length-replicate}
use Rattle.slee_disk.specs.Sides.{filled, overwritten}

filled_short : (e : ℕ) (old : List ℕ) → e ≤ length old → filled e old ≡ old
filled_short e old within = let none : e - length old ≡ 0 = omega arith in ap (λ k. old ++ replicate k 0) none ∙ append-nil old

pub length_filled : (e : ℕ) (old : List ℕ) → length (filled e old) ≡ length old + (e - length old)
length_filled e old = length-append old (replicate (e - length old) 0) ∙ ap (λ k. length old + k) (length-replicate (e - length old) 0)

front_filled : (at e : ℕ) (old : List ℕ) → length old ≤ at → at ≤ e → take at (filled e old) ≡ old ++ replicate (at - length old) 0
front_filled at e old past within =
    let split : at ≡ length old + (at - length old) = omega arith in
    ap (λ k. take k (filled e old)) split
    ∙ take-append-add old (replicate (e - length old) 0) (at - length old)
    ∙ ap (λ zs. old ++ zs) (take-replicate (at - length old) (e - length old) 0 (omega arith))

take_filled : (at e : ℕ) (old : List ℕ) → at ≤ e → take at (filled e old) ≡ take at (filled at old)
take_filled at e old within = elim (cases_lt (length old) at) [
  | inl past ↦ front_filled at e old (omega arith) within ∙ sym (front_filled at at old (omega arith) (omega arith))
  | inr inside ↦ take-append-le at old (replicate (e - length old) 0) inside ∙ sym (take-append-le at old (replicate (at - length old) 0) inside)
]

drop_filled : (e : ℕ) (old : List ℕ) → drop e (filled e old) ≡ drop e old
drop_filled e old = elim (cases_lt (length old) e) [
  | inl past ↦ drop_of_length-le (filled e old) (omega (arith, length_filled e old)) ∙ sym (drop_of_length-le old (omega arith))
  | inr inside ↦ ap (drop e) (filled_short e old inside)
]

-- zeros are added up to the end of what is written, and then it is written
pub filled_overwritten : (at : ℕ) (piece old grown new : List ℕ) → grown ≡ filled (at + length piece) old → new ≡ take at grown ++ piece ++ drop (at + length piece) grown → new ≡ overwritten at piece old
filled_overwritten at piece old grown new grew wrote =
    wrote
    ∙ ap (λ g. take at g ++ piece ++ drop (at + length piece) g) grew
    ∙ ap (λ front. front ++ piece ++ drop (at + length piece) (filled (at + length piece) old)) (take_filled at (at + length piece) old (omega arith))
    ∙ ap (λ rest. take at (filled at old) ++ piece ++ rest) (drop_filled (at + length piece) old)
