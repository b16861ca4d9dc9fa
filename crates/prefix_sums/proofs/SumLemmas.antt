-- Sums of so many first numbers, and of blocks of them.
use Rattle.std.proofs.Common.{◌≡◌, ℕ, zero, suc, ◌+◌, ◌-◌, ◌*◌, ◌/◌, ◌<◌, ◌≤◌, List, [], ◌∷◌, length, length-set, take, set, get_or, sym, ap, ◌∙◌, arith, inl, inr}
use Rattle.std.specs.List.{sum}
use Rattle.std.proofs.lemmas.Bool.{cases_lt}
use Rattle.std.proofs.lemmas.List.{take-take, take-set-le, take_all}
use Rattle.std.proofs.lemmas.List.Sums.{sum_by-take-le, sum_by-cons, sum_by_more}
use Rattle.prefix_sums.specs.Levels.{AreSums, AreSumsUpTo}
use Rattle.prefix_sums.specs.declared.level.TheConstants.{BLOCK}

-- fewer first numbers are no more
pub up_to : (m n : ℕ) (xs : List ℕ) → m ≤ n → sum (take m xs) ≤ sum (take n xs)
up_to m n xs less = rw (sym (take-take m n xs less)) (sum_by-take-le (λ x. x) (take n xs) m)

-- where the last block has its sum, all have
pub all_sums : (numbers sums : List ℕ) (count : ℕ) → count ≡ length sums → AreSumsUpTo count numbers sums → length numbers ≤ BLOCK * length sums → AreSums numbers sums
all_sums numbers sums count is upto enough = record {
  before = λ n. elim (cases_lt n count) [
    | inl less ↦ upto.before n (omega (arith, less))
    | inr more ↦
        let sums_all : take n sums ≡ take count sums = take_all n sums (omega (arith, more, is)) ∙ sym (take_all count sums (omega (arith, is))) in
        let numbers_all : take (BLOCK * count) numbers ≡ take (BLOCK * n) numbers = take_all (BLOCK * count) numbers (omega (arith, is, enough)) ∙ sym (take_all (BLOCK * n) numbers (omega (arith, is, enough, more))) in
        ap (λ front. sum front) sums_all ∙ upto.before count (omega arith) ∙ ap (λ front. sum front) numbers_all
  ];
  enough = enough;
  few = omega (arith, upto.few, is);
}

-- the sums are as much as the numbers
pub as_much : (numbers sums : List ℕ) → AreSums numbers sums → sum sums ≡ sum numbers
as_much numbers sums are =
    ap (λ front. sum front) (sym (take_all (length sums) sums (omega arith))) ∙ are.before (length sums) ∙ ap (λ front. sum front) (take_all (BLOCK * length sums) numbers are.enough)

-- one number that is replaced among so many first ones
pub replaced_in : (n place y d : ℕ) (xs : List ℕ) → place < n → place < length xs → sum (take n (set xs place y)) + get_or xs place d ≡ sum (take n xs) + y
replaced_in n place y d [] inner within = absurd (omega (arith, within))
replaced_in zero place y d (x ∷ xs) inner within = absurd (omega (arith, inner))
replaced_in (suc n) zero y d (x ∷ xs) inner within = omega (arith, sum_by-cons (λ k. k) y (take n xs), sum_by-cons (λ k. k) x (take n xs))
replaced_in (suc n) (suc place) y d (x ∷ xs) inner within =
    omega (arith, sum_by-cons (λ k. k) x (take n (set xs place y)), sum_by-cons (λ k. k) x (take n xs), replaced_in n place y d xs (omega (arith, inner)) (omega (arith, within)))

-- a number is part of its block's sum
pub part_of_block : (numbers sums : List ℕ) (place block d : ℕ) → AreSums numbers sums → block ≡ place / BLOCK → place < length numbers → (block < length sums) × (get_or numbers place d ≤ get_or sums block d)
part_of_block numbers sums place block d are is within =
    let inner : block < length sums = omega (arith, is, within, are.enough) in
    let next : BLOCK * (block + 1) ≡ BLOCK * block + 64 = omega arith in
    let sum_next = sum_by_more (λ k. k) sums block d inner in
    let number_next = sum_by_more (λ k. k) numbers place d within in
    let low = up_to (BLOCK * block) place numbers (omega (arith, is)) in
    let high = up_to (place + 1) (BLOCK * (block + 1)) numbers (omega (arith, is)) in
    (inner, omega (arith, sum_next, number_next, low, high, are.before block, are.before (block + 1)))

-- the sums with a number replaced, and with that in its block's sum
pub replaced_sums : (numbers sums : List ℕ) (place block old before now : ℕ) → AreSums numbers sums → block ≡ place / BLOCK → place < length numbers
    → get_or numbers place 0 ≡ before → get_or sums block 0 ≡ old → AreSums (set numbers place now) (set sums block (old - before + now))
replaced_sums numbers sums place block old before now are is within before_is old_is =
    let part = part_of_block numbers sums place block 0 are is within in
    let new = old - before + now in
    record {
      before = λ n. elim (cases_lt block n) [
        | inl less ↦ omega (arith, part.1, before_is, old_is, are.before n, replaced_in n block new 0 sums less part.0, replaced_in (BLOCK * n) place now 0 numbers (omega (arith, is, less)) within)
        | inr more ↦
            ap (λ front. sum front) (take-set-le n sums block new more) ∙ are.before n
            ∙ ap (λ front. sum front) (sym (take-set-le (BLOCK * n) numbers place now (omega (arith, is, more))))
      ];
      enough = rw (length-set numbers place now, length-set sums block new) are.enough;
      few = rw (length-set numbers place now, length-set sums block new) are.few;
    }
