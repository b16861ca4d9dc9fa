-- The rows of one number, and those of one pair of numbers, are a run.
use Rattle.std.proofs.Common.{◌≡◌, ℕ, ◌≤◌, Bool, List, ◌++◌, take, drop, arith}
use Rattle.std.specs.Prelude.{not, ◌||◌, ◌&&◌, ◌==◌, nat_lt, nat_le}
use Rattle.std.specs.List.{filter, prefix_len}
use Rattle.std.proofs.lemmas.Bool.Decides.{nat_tests}
use Rattle.rows_sorted.specs.Keys.{Key, is_pair, Rises}
use Rattle.rows_sorted.proofs.OrderLemmas.{IsBefore, in_order, first_earlier, first_up_to_earlier, pair_earlier, pair_up_to_earlier}
use Rattle.rows_sorted.proofs.CutLemmas.{Parts, cut_is, front_within}

module _ {Row : Type 0} (key : Row → Key) (a : ℕ) where
  abbrev pub lower : Row → Bool
  lower x = nat_lt (key x).first a

  abbrev pub up_to : Row → Bool
  up_to x = nat_le (key x).first a

  pub parts : Parts (IsBefore key) lower up_to (λ x. not ((key x).first == a))
  parts = record {
    within = λ x low. grind (arith, nat_tests);
    lower = first_earlier key a;
    upper = first_up_to_earlier key a;
    left = λ x. grind (arith, nat_tests);
  }

  pub run_within : (rows : List Row) → prefix_len (λ x. nat_lt (key x).first a) rows ≤ prefix_len (λ x. nat_le (key x).first a) rows
  run_within rows = front_within _ _ _ _ parts rows

  pub run_cut : (rows : List Row) → Rises key rows → take (prefix_len (λ x. nat_lt (key x).first a) rows) rows ++ drop (prefix_len (λ x. nat_le (key x).first a) rows) rows ≡ filter (λ x. not ((key x).first == a)) rows
  run_cut rows rises = cut_is _ _ _ _ parts rows (in_order key rows rises)

module _ {Row : Type 0} (key : Row → Key) (a b : ℕ) where
  abbrev pub lower_pair : Row → Bool
  lower_pair x = nat_lt (key x).first a || (((key x).first == a) && nat_lt (key x).second b)

  abbrev pub up_to_pair : Row → Bool
  up_to_pair x = nat_lt (key x).first a || (((key x).first == a) && nat_le (key x).second b)

  pub pair_parts : Parts (IsBefore key) lower_pair up_to_pair (λ x. not (is_pair a b (key x)))
  pair_parts = record {
    within = λ x low. grind (arith, nat_tests);
    lower = pair_earlier key a b;
    upper = pair_up_to_earlier key a b;
    left = λ x. grind (arith, nat_tests);
  }

  pub pair_within : (rows : List Row) → prefix_len (λ x. nat_lt (key x).first a || (((key x).first == a) && nat_lt (key x).second b)) rows ≤ prefix_len (λ x. nat_lt (key x).first a || (((key x).first == a) && nat_le (key x).second b)) rows
  pair_within rows = front_within _ _ _ _ pair_parts rows

  pub pair_cut : (rows : List Row) → Rises key rows
      → take (prefix_len (λ x. nat_lt (key x).first a || (((key x).first == a) && nat_lt (key x).second b)) rows) rows ++ drop (prefix_len (λ x. nat_lt (key x).first a || (((key x).first == a) && nat_le (key x).second b)) rows) rows
      ≡ filter (λ x. not (is_pair a b (key x))) rows
  pair_cut rows rises = cut_is _ _ _ _ pair_parts rows (in_order key rows rises)
