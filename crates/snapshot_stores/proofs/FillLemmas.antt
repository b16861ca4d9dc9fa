-- Rows that rise, put one after another: each comes to the end.
use Rattle.std.proofs.Common.{◌≡◌, Bool, List, [], ◌∷◌, ◌++◌, sym, subst, ◌∙◌, append_assoc}
use Rattle.std.specs.Prelude.{IsTrue}
use Rattle.std.specs.List.{AllByRecursion}
use Rattle.std.proofs.lemmas.List.{append-nil}
use Rattle.rows_sorted.specs.Orders.{put, rises_by}
use Rattle.rows_sorted.specs.Keys.{Key, key_before, Rises}
use Rattle.rows_sorted.proofs.OrderLemmas.{AllInOrder, IsBefore, in_order}
use Rattle.rows_leaves.proofs.SplitLemmas.{put_behind}

all_middle : {Row : Type 0} (P : Row → Type 0) (front : List Row) (row : Row) (rest : List Row) → AllByRecursion P (front ++ row ∷ rest) → P row
all_middle P [] row rest all = all.0
all_middle P (x ∷ front) row rest all = all_middle P front row rest all.1

-- what stands before a row of a list in order
pub all_front : {Row : Type 0} (R : Row → Row → Type 0) (front : List Row) (row : Row) (rest : List Row) → AllInOrder R (front ++ row ∷ rest) → AllByRecursion (λ x. R x row) front
all_front R [] row rest order = tt
all_front R (x ∷ front) row rest order = (all_middle (R x) front row rest order.0, all_front R front row rest order.1)

put_end : {Row : Type 0} (key : Row → Key) (front : List Row) (row : Row) (rest : List Row) → Rises key (front ++ row ∷ rest) → put (λ x y. key_before (key x) (key y)) row front ≡ front ++ row ∷ []
put_end key front row rest rises =
    let low = all_front (IsBefore key) front row rest (in_order key (front ++ row ∷ rest) rises) in
    sym (rw (append-nil front) at (put_behind key row front [] low))

module _ {Row : Type 0} (key : Row → Key) (before : Row → Row → Bool) (same : (λ (x y : Row). key_before (key x) (key y)) ≡ before) where
  -- the row that is put comes to the end
  pub last_put : (front : List Row) (row : Row) (rest : List Row) → IsTrue (rises_by before (front ++ row ∷ rest)) → put before row front ≡ front ++ row ∷ []
  last_put front row rest = subst (λ (b : Row → Row → Bool). IsTrue (rises_by b (front ++ row ∷ rest)) → put b row front ≡ front ++ row ∷ []) same (put_end key front row rest)

  -- a turn: one row more is put, and what is put and what is left are all
  pub turn : (all front after left more : List Row) (row : Row) → IsTrue (rises_by before all) → left ≡ row ∷ more → after ≡ put before row front → front ++ left ≡ all → after ++ more ≡ all
  turn all front after left more row rises cut is so_far =
      let whole : front ++ row ∷ more ≡ all = rw cut at so_far in
      let end : put before row front ≡ front ++ row ∷ [] = last_put front row more (subst (λ (rows : List Row). IsTrue (rises_by before rows)) (sym whole) rises) in
      rw (is, end) (append_assoc front (row ∷ []) more ∙ whole)

-- a fact of all rows holds of the first of those that are left
pub fact_first : {Row : Type 0} (P : Row → Type 0) (all front left more : List Row) (row : Row) → left ≡ row ∷ more → front ++ left ≡ all → AllByRecursion P all → P row
fact_first P all front left more row cut so_far facts =
    let whole : front ++ row ∷ more ≡ all = rw cut at so_far in
    all_middle P front row more (subst (AllByRecursion P) (sym whole) facts)
