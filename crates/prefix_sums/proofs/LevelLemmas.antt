-- Levels whose numbers change.
use Rattle.std.proofs.Common.{◌≡◌, ℕ, ◌+◌, ◌-◌, ◌*◌, ◌/◌, ◌^◌, ◌<◌, ◌≤◌, List, [], ◌∷◌, ◌++◌, length, length-set, set, get_or, take, drop, refl, sym, ap, subst, ◌∙◌, arith}
use Rattle.std.specs.List.{AllByRecursion, sum}
use Rattle.std.proofs.lemmas.List.{take-take, take_all, take_at, get_or-set_same}
use Rattle.std.proofs.lemmas.List.Sums.{get_or-le-sum_by}
use Rattle.std.proofs.lemmas.Grind.{get_or_default_zero}
use Rattle.std.proofs.lemmas.Nat.{pow-add}
use Rattle.std.proofs.Math.Nat.{pow-le-pow_right}
use Rattle.prefix_sums.specs.Levels.{AreAbove, AreEnds, AreEndsUpTo, AreSums, AreSumsUpTo, HasPlaces, IsReached, Stand, Stood, top_of}
use Rattle.prefix_sums.specs.declared.level.Level.{Level}
use Rattle.prefix_sums.specs.declared.level.TheConstants.{BLOCK}
use Rattle.prefix_sums.proofs.SumLemmas.{as_much, part_of_block, replaced_sums}

pub fewer_places : (fewer more : ℕ) (levels : List Level) → fewer ≤ more → AllByRecursion (HasPlaces more) levels → AllByRecursion (HasPlaces fewer) levels
fewer_places fewer more [] less all = tt
fewer_places fewer more (level ∷ above) less all =
    (record { numbers = omega (arith, less, all.0.numbers); ends = omega (arith, less, all.0.ends) }, fewer_places fewer more above less all.1)

-- the level next to the first one has its sums, and is the first one of the others
pub next_stands : (first next : Level) (above rest : List Level) → above ≡ next ∷ rest → Stand first above → AreSums first.numbers.items next.numbers.items × Stand next rest
next_stands first next above rest is stand =
    let right : AreAbove first.numbers.items (next ∷ rest) = subst (AreAbove first.numbers.items) is stand.sums in
    (right.0, record { ends = right.1.0; sums = right.1.1 })

-- a level fewer is enough above the sums
pub sums_reached : (numbers sums : List ℕ) (count : ℕ) → AreSums numbers sums → length numbers ≤ BLOCK ^ (count + 1 + 1) → length sums ≤ BLOCK ^ (count + 1)
sums_reached numbers sums count are reached =
    let more : BLOCK ^ (count + 1 + 1) ≡ BLOCK ^ (count + 1) * 64 = pow-add 64 (count + 1) 1 in
    omega (arith, more, reached, are.few)

pub next_reached : (numbers sums : List ℕ) (next : Level) (above rest : List Level) → above ≡ next ∷ rest → AreSums numbers sums → IsReached (length numbers) above → IsReached (length sums) rest
next_reached numbers sums next above rest is are reached =
    let all : IsReached (length numbers) (next ∷ rest) = subst (IsReached (length numbers)) is reached in
    let one : length (next ∷ rest) ≡ length rest + 1 = omega arith in
    sums_reached numbers sums (length rest) are (subst (λ n. length numbers ≤ BLOCK ^ (n + 1)) one all)

-- so many levels are enough where fewer are
pub reached_by : (places count : ℕ) (levels : List Level) → places ≤ BLOCK ^ (count + 1) → count ≤ length levels → IsReached places levels
reached_by places count levels reached more =
    let one : 0 < BLOCK = omega arith in
    let less : count + 1 ≤ length levels + 1 = omega (arith, more) in
    omega (arith, reached, pow-le-pow_right one less)

-- the level at the top is as much as the numbers, no longer than they are, and a block at most
pub top_sum : (numbers : List ℕ) (above : List Level) → AreAbove numbers above → sum (top_of numbers above) ≡ sum numbers
top_sum numbers [] right = refl
top_sum numbers (next ∷ above) right = top_sum next.numbers.items above right.1.1 ∙ as_much numbers next.numbers.items right.0

pub top_short : (numbers : List ℕ) (above : List Level) → AreAbove numbers above → length (top_of numbers above) ≤ length numbers
top_short numbers [] right = omega arith
top_short numbers (next ∷ above) right = omega (arith, top_short next.numbers.items above right.1.1, right.0.few)

pub top_block : (numbers : List ℕ) (above : List Level) → AreAbove numbers above → IsReached (length numbers) above → length (top_of numbers above) ≤ BLOCK
top_block numbers [] right reached = reached
top_block numbers (next ∷ above) right reached = top_block next.numbers.items above right.1.1 (next_reached numbers next.numbers.items next (next ∷ above) above refl right.0 reached)

pub top_within : (numbers : List ℕ) (above : List Level) (rank : ℕ) → AreAbove numbers above → IsReached (length numbers) above → rank < sum numbers → rank < sum (take BLOCK (top_of numbers above))
top_within numbers above rank right reached within = rw (take_all BLOCK (top_of numbers above) (top_block numbers above right reached)) (omega (arith, within, top_sum numbers above right))

-- one more level with the sums of the one at the top
pub level_added : (numbers : List ℕ) (above : List Level) (level : Level) → AreAbove numbers above → AreSums (top_of numbers above) level.numbers.items → AreEnds level.numbers.items level.ends.items → AreAbove numbers (above ++ level ∷ [])
level_added numbers [] level right sums ends = (sums, (ends, tt))
level_added numbers (next ∷ above) level right sums ends = (right.0, (right.1.0, level_added next.numbers.items above level right.1.1 sums ends))

-- the level at the top has the sums of the one below it
pub level_gone : (numbers : List ℕ) (above : List Level) (level : Level) → AreAbove numbers (above ++ level ∷ []) → AreAbove numbers above × (AreSums (top_of numbers above) level.numbers.items × AreEnds level.numbers.items level.ends.items)
level_gone numbers [] level right = (tt, (right.0, right.1.0))
level_gone numbers (next ∷ above) level right = let rest = level_gone next.numbers.items above level right.1.1 in ((right.0, (right.1.0, rest.0)), rest.1)

pub top_added : (numbers : List ℕ) (above : List Level) (level : Level) → top_of numbers (above ++ level ∷ []) ≡ level.numbers.items
top_added numbers [] level = refl
top_added numbers (next ∷ above) level = top_added next.numbers.items above level

-- numbers that are the same up to a place are as much up to each place before it
pub as_before : (was numbers : List ℕ) (place n : ℕ) → take place was ≡ take place numbers → n ≤ place → sum (take n was) ≡ sum (take n numbers)
as_before was numbers place n same less = ap (λ front. sum front) (sym (take-take n place was less) ∙ ap (λ front. take n front) same ∙ take-take n place numbers less)

-- the ends and sums ahead of what changed are right
pub ends_kept : (first : Level) (above : List Level) (place : ℕ) → Stood first above place → AreEndsUpTo place first.numbers.items first.ends.items
ends_kept first above place stood = record {
  up_to = λ n less.
      let same = λ (k : ℕ) (few : k ≤ place). as_before stood.was first.numbers.items place k stood.same few in
      omega (arith, stood.ends.all.up_to n (omega (arith, less, stood.there)), same (BLOCK * (n / BLOCK)) (omega (arith, less)), same (n + 1) (omega (arith, less)));
  there = omega (arith, stood.there, stood.ends.count);
  within = stood.within;
}

module _ (first next : Level) (above rest : List Level) (place : ℕ) (is : above ≡ next ∷ rest) (stood : Stood first above place) where
  right : AreAbove stood.was (next ∷ rest)
  right = subst (AreAbove stood.was) is stood.sums

  pub sums_kept : AreSumsUpTo (place / BLOCK) first.numbers.items next.numbers.items
  sums_kept = record {
    before = λ n less. right.0.before n ∙ as_before stood.was first.numbers.items place (BLOCK * n) stood.same (omega (arith, less));
    there = omega (arith, stood.there, right.0.enough);
    few = omega (arith, stood.within);
  }

  -- and so is the level above, but for the sums that changed
  pub next_stood : (new : Level) → new.ends.items ≡ next.ends.items → take (place / BLOCK) new.numbers.items ≡ take (place / BLOCK) next.numbers.items → AreSums first.numbers.items new.numbers.items → Stood new rest (place / BLOCK)
  next_stood new same kept sums = record {
    was = next.numbers.items;
    ends = rw same right.1.0;
    sums = right.1.1;
    same = sym kept;
    there = omega (arith, stood.there, right.0.enough);
    within = omega (arith, stood.within, sums.enough);
  }

-- one number is another one: it is part of its block's sum, which takes that on
module _ (first next : Level) (above rest : List Level) (place before old now : ℕ) (is : above ≡ next ∷ rest) (stand : Stand first above) (within : place < length first.numbers.items)
    (before_is : before ≡ get_or first.numbers.items place 0) (old_is : old ≡ get_or next.numbers.items (place / BLOCK) old) where
  sums : AreSums first.numbers.items next.numbers.items
  sums = (next_stands first next above rest is stand).0

  pub block_within : place / BLOCK < length next.numbers.items
  block_within = (part_of_block first.numbers.items next.numbers.items place (place / BLOCK) 0 sums refl within).0

  block_is : get_or next.numbers.items (place / BLOCK) 0 ≡ old
  block_is = sym (old_is ∙ get_or_default_zero next.numbers.items (place / BLOCK) old block_within)

  pub part_within : before ≤ old
  part_within = omega (arith, before_is, block_is, (part_of_block first.numbers.items next.numbers.items place (place / BLOCK) 0 sums refl within).1)

  pub sums_replaced : AreSums (set first.numbers.items place now) (set next.numbers.items (place / BLOCK) (old - before + now))
  sums_replaced = replaced_sums first.numbers.items next.numbers.items place (place / BLOCK) old before now sums refl within (sym before_is) block_is

  pub sums_fit : sum (set first.numbers.items place now) < 2 ^ 64 → sum (set next.numbers.items (place / BLOCK) (old - before + now)) < 2 ^ 64
  sums_fit fits = omega (arith, fits, as_much _ _ sums_replaced)

  pub sum_fits : sum (set first.numbers.items place now) < 2 ^ 64 → old - before + now < 2 ^ 64
  sum_fits fits =
      let new = set next.numbers.items (place / BLOCK) (old - before + now) in
      let inner : place / BLOCK < length new = rw (length-set next.numbers.items (place / BLOCK) (old - before + now)) block_within in
      omega (arith, sums_fit fits, get_or-set_same next.numbers.items (place / BLOCK) (old - before + now) 0 block_within, get_or-le-sum_by (λ x. x) new (place / BLOCK) 0 inner)

-- levels lent out as a whole come back as they are then
pub lent_back : {X : Type 0} (n : ℕ) (new old lent : List X) → lent ≡ old → length new ≡ length lent → n ≡ length old → take n (new ++ drop (length new) old) ≡ new
lent_back n new old lent is same all = take_at new (drop (length new) old) n (same ∙ ap length is ∙ sym all)
