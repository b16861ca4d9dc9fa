-- Numbers in blocks, and levels above them: each number of a level is the sum of a block of the level below.
use Rattle.std.specs.Prelude.{◌≡◌, ℕ, ◌+◌, ◌*◌, ◌/◌, ◌^◌, ◌<◌, ◌≤◌, List, [], ◌∷◌, take, get_or, length, vec_len, vec_capacity}
use Rattle.std.specs.List.{AllByRecursion, sum}
use Rattle.prefix_sums.specs.declared.level.Level.{Level}
use Rattle.prefix_sums.specs.declared.level.TheConstants.{BLOCK}

-- so many first ends are each the sum of a block's numbers up to the one at the place
pub record AreEndsUpTo (count : ℕ) (numbers ends : List ℕ) : Type 0 where
  pub up_to : (n : ℕ) → n < count → sum (take (BLOCK * (n / BLOCK)) numbers) + get_or ends n 0 ≡ sum (take (n + 1) numbers)
  pub there : count ≤ length ends
  pub within : count ≤ length numbers

-- there is an end for each number
pub record AreEnds (numbers ends : List ℕ) : Type 0 where
  pub all : AreEndsUpTo (length numbers) numbers ends
  pub count : length ends ≡ length numbers

-- so many sums are those of as many first blocks
pub record AreSumsUpTo (count : ℕ) (numbers sums : List ℕ) : Type 0 where
  pub before : (n : ℕ) → n ≤ count → sum (take n sums) ≡ sum (take (BLOCK * n) numbers)
  pub there : count ≤ length sums
  pub few : BLOCK * count < length numbers + BLOCK

-- the sums are those of all blocks
pub record AreSums (numbers sums : List ℕ) : Type 0 where
  pub before : (n : ℕ) → sum (take n sums) ≡ sum (take (BLOCK * n) numbers)
  pub enough : length numbers ≤ BLOCK * length sums
  pub few : BLOCK * length sums < length numbers + BLOCK

-- each level above the numbers has the sums of the one below it, and its ends
abbrev pub AreAbove : List ℕ → List Level → Type 0
AreAbove numbers [] = Unit {0}
AreAbove numbers (next ∷ above) = AreSums numbers next.numbers.items × (AreEnds next.numbers.items next.ends.items × AreAbove next.numbers.items above)

-- the numbers at the top
abbrev pub top_of : List ℕ → List Level → List ℕ
top_of numbers [] = numbers
top_of numbers (next ∷ above) = top_of next.numbers.items above

-- the first level and those above it are right
pub record Stand (first : Level) (above : List Level) : Type 0 where
  pub ends : AreEnds first.numbers.items first.ends.items
  pub sums : AreAbove first.numbers.items above

-- they were right before the numbers from the place on changed
pub record Stood (first : Level) (above : List Level) (place : ℕ) : Type 0 where
  pub was : List ℕ
  pub ends : AreEnds was first.ends.items
  pub sums : AreAbove was above
  pub same : take place was ≡ take place first.numbers.items
  pub there : place ≤ length was
  pub within : place ≤ length first.numbers.items

-- there is memory for so many numbers
pub record HasPlaces (places : ℕ) (level : Level) : Type 0 where
  pub numbers : places ≤ vec_capacity level.numbers
  pub ends : places ≤ vec_capacity level.ends

-- above so many numbers there are levels enough that the last one is a block at most
abbrev pub IsReached : ℕ → List Level → Type 0
IsReached places above = places ≤ BLOCK ^ (length above + 1)

-- the levels are right and enough, there is memory for so many numbers in each, and all numbers together fit
pub record Holds (first : Level) (above : List Level) (places : ℕ) : Type 0 where
  pub stand : Stand first above
  pub memory : HasPlaces places first
  pub memory_above : AllByRecursion (HasPlaces places) above
  pub reached : IsReached places above
  pub within : vec_len first.numbers ≤ places
  pub fits : sum first.numbers.items < 2 ^ 64
