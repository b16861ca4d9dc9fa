-- How many rows there are once a row stands in its place, and what it changes of a sum.
use Rattle.std.proofs.Common.{◌≡◌, ℕ, ◌+◌, true, false, List, [], ◌∷◌, Option, Some, None, length, refl, sym, ap, ◌∙◌, arith}
use Rattle.std.specs.Prelude.{is_some, not}
use Rattle.std.specs.List.{filter, find, list_any, position_from, sum_by}
use Rattle.std.proofs.lemmas.List.Sums.{sum_by-cons}
use Rattle.std.proofs.lemmas.List.{length-set}
use Rattle.rows_sorted.specs.Orders.{put}
use Rattle.rows_sorted.specs.Keys.{Key, is_key, key_before, Rises}
use Rattle.rows_sorted.proofs.HalvingLemmas.{any_is}
use Rattle.rows_sorted.proofs.OrderLemmas.{IsBefore, filter_rises, in_order}
use Rattle.rows_sorted.proofs.PartLemmas.{parted_by_key}
use Rattle.rows_sorted.proofs.RowLemmas.{replaced_is}
use Rattle.rows_index.proofs.IndexLemmas.{sum_put}
use Rattle.rows_index.proofs.RowLemmas.{each_fails}
use Rattle.rows_index.proofs.CountLemmas.{none_stays, put_over, sum_cut}

sum_ones : {X : Type 0} (xs : List X) → sum_by (λ x. 1) xs ≡ length xs
sum_ones [] = refl
sum_ones (x ∷ xs) = let step = sum_by-cons (λ y. 1) x xs in let more = sum_ones xs in omega (arith, step, more)

module _ {Row : Type 0} (key : Row → Key) where
  -- one more, where none had its key
  pub put_longer : (x : Row) (rows : List Row) → Rises key rows → list_any (λ other. is_key (key other) (key x)) rows ≡ false → length (put (λ a b. key_before (key a) (key b)) x rows) ≡ length rows + 1
  put_longer x rows rises absent =
      let sum = sum_put key (λ row. 1) x rows rises (each_fails (λ other. is_key (key other) (key x)) rows absent) in
      let new = sum_ones (put (λ a b. key_before (key a) (key b)) x rows) in
      let old = sum_ones rows in
      omega (arith, sum, new, old)

  -- as many, where one gives way
  pub put_as_long : (x : Row) (rows : List Row) → Rises key rows → list_any (λ other. is_key (key other) (key x)) rows ≡ true → length (put (λ a b. key_before (key a) (key b)) x rows) ≡ length rows
  put_as_long x rows rises there = by (position_from (λ other. is_key (key other) (key x)) 0 rows) refl
    where
      by : (o : Option ℕ) → position_from (λ other. is_key (key other) (key x)) 0 rows ≡ o → length (put (λ a b. key_before (key a) (key b)) x rows) ≡ length rows
      by None is = let any = any_is (λ other. is_key (key other) (key x)) 0 rows ∙ ap is_some is in let wrong : true ≡ false = sym there ∙ any in cc
      by (Some n) is =
          let same = replaced_is _ _ _ _ (parted_by_key key (key x)) x n rows (in_order key rows rises) is in
          ap length (sym same) ∙ length-set rows n x

  -- what a row that stands in the place of another one changes of a sum
  pub sum_replaced : (g : Row → ℕ) (x found : Row) (rows : List Row) → Rises key rows → find (λ other. is_key (key other) (key x)) rows ≡ Some found
      → sum_by g (put (λ a b. key_before (key a) (key b)) x rows) + g found ≡ g x + sum_by g rows
  sum_replaced g x found rows rises is =
      let laws = parted_by_key key (key x) in
      let q = λ (other : Row). is_key (key other) (key x) in
      let stays = λ (other : Row). not (q other) in
      let left = filter stays rows in
      let sum = sum_put key g x left (filter_rises key stays rows rises) (none_stays q rows) in
      let same = ap (sum_by g) (put_over key x rows) in
      let cut = sum_cut (IsBefore key) q (λ a b before mine. laws.later_apart a b before (laws.mine_not_low a mine)) g found rows (in_order key rows rises) is in
      omega (arith, sum, same, cut)
