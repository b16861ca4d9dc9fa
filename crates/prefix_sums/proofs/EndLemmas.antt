-- Ends of numbers in their blocks.
use Rattle.std.proofs.Common.{◌≡◌, ℕ, ◌+◌, ◌-◌, ◌*◌, ◌/◌, ◌^◌, ◌<◌, ◌≤◌, List, length, length-set, take, set, get_or, min, ap, ◌∙◌, arith, inl, inr}
use Rattle.std.specs.List.{sum}
use Rattle.std.proofs.lemmas.Bool.{cases_lt}
use Rattle.std.proofs.lemmas.List.{take-set-le}
use Rattle.std.proofs.lemmas.List.Sums.{sum_by-take-le, sum_by_more}
use Rattle.prefix_sums.specs.Levels.{AreEnds}
use Rattle.prefix_sums.specs.declared.level.TheConstants.{BLOCK}
use Rattle.prefix_sums.proofs.SumLemmas.{replaced_in, up_to}

-- the end at a place of a block
pub end_in : (numbers ends : List ℕ) (block place : ℕ) → AreEnds numbers ends → BLOCK * block ≤ place → place < BLOCK * (block + 1) → place < length numbers
    → sum (take (BLOCK * block) numbers) + get_or ends place 0 ≡ sum (take (place + 1) numbers)
end_in numbers ends block place are least most within =
    let same : block ≡ place / BLOCK = omega (arith, least, most) in
    ap (λ b. sum (take (BLOCK * b) numbers) + get_or ends place 0) same ∙ are.all.up_to place within

-- a number is part of each end from it on in its block
pub part_of_end : (numbers ends : List ℕ) (place n : ℕ) → AreEnds numbers ends → place ≤ n → n < BLOCK * (place / BLOCK + 1) → n < length numbers → get_or numbers place 0 ≤ get_or ends n 0
part_of_end numbers ends place n are least most within =
    let inner : place < length numbers = omega (arith, least, within) in
    omega (
      arith,
      end_in numbers ends (place / BLOCK) n are (omega (arith, least)) most within,
      sum_by_more (λ k. k) numbers place 0 inner,
      up_to (BLOCK * (place / BLOCK)) place numbers (omega arith),
      up_to (place + 1) (n + 1) numbers (omega (arith, least)),
    )

-- with another number there, the end fits where all numbers do
pub end_fits : (numbers ends : List ℕ) (place now n : ℕ) → AreEnds numbers ends → place ≤ n → n < BLOCK * (place / BLOCK + 1) → n < length numbers → sum (set numbers place now) < 2 ^ 64
    → get_or ends n 0 - get_or numbers place 0 + now < 2 ^ 64
end_fits numbers ends place now n are least most within fits =
    omega (
      arith,
      fits,
      end_in numbers ends (place / BLOCK) n are (omega (arith, least)) most within,
      part_of_end numbers ends place n are least most within,
      replaced_in (n + 1) place now 0 numbers (omega (arith, least)) (omega (arith, least, within)),
      sum_by-take-le (λ x. x) (set numbers place now) (n + 1),
    )

-- the ends with another number at a place
module _ (numbers ends new : List ℕ) (place now end : ℕ) (are : AreEnds numbers ends) (within : place < length numbers) (is : end ≡ min (BLOCK * (place / BLOCK + 1)) (length numbers)) (count : length new ≡ length ends)
    (replaced : (n : ℕ) → place ≤ n → n < end → get_or new n 0 ≡ get_or ends n 0 - get_or numbers place 0 + now) (ahead : (n : ℕ) → n < place → get_or new n 0 ≡ get_or ends n 0) (behind : (n : ℕ) → end ≤ n → get_or new n 0 ≡ get_or ends n 0) where
  -- the sum of fewer numbers than those up to the place is the same
  low : (k : ℕ) → k ≤ place → sum (take k (set numbers place now)) ≡ sum (take k numbers)
  low k less = ap (λ front. sum front) (take-set-le k numbers place now less)

  -- and that of more changes by as much as the number
  high : (k : ℕ) → place < k → sum (take k (set numbers place now)) + get_or numbers place 0 ≡ sum (take k numbers) + now
  high k more = replaced_in k place now 0 numbers more within

  replaced_end : (n : ℕ) → n < length numbers → sum (take (BLOCK * (n / BLOCK)) (set numbers place now)) + get_or new n 0 ≡ sum (take (n + 1) (set numbers place now))
  replaced_end n inner = elim (cases_lt n place) [
    | inl less ↦ omega (arith, are.all.up_to n inner, ahead n less, low (BLOCK * (n / BLOCK)) (omega (arith, less)), low (n + 1) (omega (arith, less)))
    | inr least ↦ elim (cases_lt n end) [
      | inl most ↦
          let last : n < BLOCK * (place / BLOCK + 1) = omega (arith, is, most) in
          omega (arith, are.all.up_to n inner, replaced n least most, part_of_end numbers ends place n are least last inner, low (BLOCK * (n / BLOCK)) (omega (arith, last)), high (n + 1) (omega (arith, least)))
      | inr more ↦
          let later : place < BLOCK * (n / BLOCK) = omega (arith, is, more, inner) in
          omega (arith, are.all.up_to n inner, behind n more, high (BLOCK * (n / BLOCK)) later, high (n + 1) (omega (arith, least)))
    ]
  ]

  pub replaced_ends : AreEnds (set numbers place now) new
  replaced_ends = record {
    all = record {
      up_to = λ n less. replaced_end n (rw (length-set numbers place now) at less);
      there = rw (length-set numbers place now) (omega (arith, count, are.count));
      within = omega arith;
    };
    count = rw (length-set numbers place now) (omega (arith, count, are.count));
  }
