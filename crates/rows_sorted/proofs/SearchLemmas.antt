-- Rows ahead of a border stand at the front, and the others behind them.
use Rattle.std.proofs.Common.{◌≡◌, ℕ, zero, suc, ◌<◌, ◌≤◌, Bool, true, false, List, [], ◌∷◌, length, get_or, arith, inl, inr}
use Rattle.std.specs.List.{AllByRecursion, prefix_len}
use Rattle.std.proofs.lemmas.Bool.{cases_Bool}
use Rattle.rows_sorted.specs.Keys.{Key, Rises}
use Rattle.rows_sorted.specs.Borders.{is_ahead}
use Rattle.rows_sorted.specs.declared.searching.Border.{Border}
use Rattle.rows_sorted.specs.declared.searching.Border.TheVariants as borders
use Rattle.rows_sorted.proofs.OrderLemmas.{AllInOrder, IsBefore, in_order, before_earlier, first_earlier, first_up_to_earlier, pair_earlier, pair_up_to_earlier}

module _ {Row : Type 0} (key : Row → Key) where
  -- a row before one that is ahead is ahead too
  pub ahead_earlier : (border : Border) (k : Key) (x y : Row) → IsBefore key x y → is_ahead border k (key y) ≡ true → is_ahead border k (key x) ≡ true
  ahead_earlier borders.Key k x y rises low = before_earlier key k x y rises low
  ahead_earlier borders.First k x y rises low = first_earlier key k.first x y rises low
  ahead_earlier borders.UpToFirst k x y rises low = first_up_to_earlier key k.first x y rises low
  ahead_earlier borders.Pair k x y rises low = pair_earlier key k.first k.second x y rises low
  ahead_earlier borders.UpToPair k x y rises low = pair_up_to_earlier key k.first k.second x y rises low

all_get : {Row : Type 0} (P : Row → Type 0) (rows : List Row) (k : ℕ) (x : Row) → AllByRecursion P rows → k < length rows → get_or rows k x ≡ x → P (get_or rows k x)
all_get P [] k x all within is = absurd (omega (arith, within))
all_get P (y ∷ ys) zero x all within is = all.0
all_get P (y ∷ ys) (suc k) x all within is = all_get P ys k x all.1 (omega (arith, within)) is

front_counts : {Row : Type 0} (R : Row → Row → Type 0) (p : Row → Bool) → ((x y : Row) → R x y → p y ≡ true → p x ≡ true) → (rows : List Row) → AllInOrder R rows
    → (k : ℕ) (x : Row) → k < length rows → get_or rows k x ≡ x → p x ≡ true → k < prefix_len p rows
front_counts R p down [] order k x within is passes = absurd (omega (arith, within))
front_counts R p down (y ∷ ys) order zero x within is passes = let mine : p y ≡ true = rw is passes in rw mine (omega arith)
front_counts R p down (y ∷ ys) order (suc k) x within is passes =
    let later = all_get (R y) ys k x order.0 (omega (arith, within)) is in
    let also : p (get_or ys k x) ≡ true = rw is passes in
    let mine = down y (get_or ys k x) later also in
    let more = front_counts R p down ys order.1 k x (omega (arith, within)) is passes in
    rw mine (omega (arith, more))

-- a row that doesn't pass stands behind those that do
pub behind_front : {Row : Type 0} (p : Row → Bool) (rows : List Row) (k : ℕ) (x : Row) → k < length rows → get_or rows k x ≡ x → p x ≡ false → prefix_len p rows ≤ k
behind_front p [] k x within is fails = omega arith
behind_front p (y ∷ ys) zero x within is fails = let mine : p y ≡ false = rw is fails in rw mine (omega arith)
behind_front p (y ∷ ys) (suc k) x within is fails = elim (cases_Bool (p y)) [
  | inl mine ↦ let more = behind_front p ys k x (omega (arith, within)) is fails in rw mine (omega (arith, more))
  | inr other ↦ rw other (omega arith)
]

-- a row that is ahead of a border stands at the front
pub in_front : {Row : Type 0} (key : Row → Key) (border : Border) (k : Key) (rows : List Row) → Rises key rows → (place : ℕ) (x : Row) → place < length rows → get_or rows place x ≡ x → is_ahead border k (key x) ≡ true
    → place < prefix_len (λ row. is_ahead border k (key row)) rows
in_front key border k rows rises = front_counts (IsBefore key) (λ row. is_ahead border k (key row)) (ahead_earlier key border k) rows (in_order key rows rises)

-- no more rows pass than there are
pub front_fits : {Row : Type 0} (p : Row → Bool) (rows : List Row) → prefix_len p rows ≤ length rows
front_fits p [] = omega arith
front_fits p (x ∷ xs) = elim (cases_Bool (p x)) [
  | inl mine ↦ let more = front_fits p xs in rw mine (omega (arith, more))
  | inr other ↦ rw other (omega arith)
]
