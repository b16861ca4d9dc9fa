-- The rows of a share stand side by side.
use Rattle.std.proofs.Common.{◌≡◌, ℕ, Bool, true, false, List, ◌++◌, [], ◌∷◌, ◌<◌, length, refl, sym, ap, ◌∙◌, arith, slice_range, inl, inr}
use Rattle.std.proofs.lemmas.Bool.{cases_Bool}
use Rattle.std.specs.Prelude.{not, ◌||◌}
use Rattle.std.specs.List.{AllByRecursion, filter, prefix_len}
use Rattle.rows_sorted.specs.Keys.{Key, Rises}
use Rattle.rows_sorted.proofs.OrderLemmas.{AllInOrder, IsBefore, all_from_all, first_up_to_earlier, in_order}
use Rattle.rows_sorted.proofs.CutLemmas.{Parts}
use Rattle.rows_sorted.proofs.RunLemmas.{parts, pair_parts}
use Rattle.rows_sorted.proofs.ShareLemmas.{share_is}
use Rattle.rows_leaves.specs.Laying.{last_key}
use Rattle.rows_leaves.specs.Shares.{is_ahead, is_in, is_up_to}
use Rattle.rows_leaves.specs.declared.share.Share.{Share}
use Rattle.rows_leaves.specs.declared.share.Share.TheVariants as shares

module _ {Row : Type 0} (key : Row → Key) where
  pub share_parts : (share : Share) → Parts (IsBefore key) (λ x. is_ahead share (key x)) (λ x. is_up_to share (key x)) (λ x. not (is_in share (key x)))
  share_parts (shares.First first) = parts key first
  share_parts (shares.Pair first second) = pair_parts key first second
  share_parts (shares.UpTo first) = record {
    within = λ x low. cc;
    lower = λ x y before low. cc;
    upper = first_up_to_earlier key first;
    left = λ x. refl;
  }

  pub share_taken : (share : Share) (rows : List Row) → Rises key rows → slice_range rows (prefix_len (λ x. is_ahead share (key x)) rows) (prefix_len (λ x. is_up_to share (key x)) rows) ≡ filter (λ x. is_in share (key x)) rows
  share_taken share rows rises = share_is _ _ _ _ (share_parts share) rows (in_order key rows rises)

  module _ (t : Key → Bool) (down : (x y : Row) → IsBefore key x y → t (key y) ≡ true → t (key x) ≡ true) where
    -- where the last row passes, all do
    pub all_up_to_last : (rows : List Row) → AllInOrder (IsBefore key) rows → t (last_key key rows) ≡ true → AllByRecursion (λ x. t (key x) ≡ true) rows
    all_up_to_last [] order passes = tt
    all_up_to_last (x ∷ []) order passes = (passes, tt)
    all_up_to_last (x ∷ y ∷ rows) order passes =
        let rest = all_up_to_last (y ∷ rows) order.1 passes in
        (down x y order.0.0 rest.0, rest)

    fails_behind : (x z : Row) → IsBefore key x z → t (key x) ≡ false → t (key z) ≡ false
    fails_behind x z before fails = elim (cases_Bool (t (key z))) [
      | inl passes ↦ let wrong = down x z before passes in cc
      | inr fails_too ↦ fails_too
    ]

    -- behind a last row that doesn't pass none does
    pub none_behind_last : (rows later : List Row) → AllInOrder (IsBefore key) (rows ++ later) → 0 < length rows → t (last_key key rows) ≡ false → AllByRecursion (λ z. t (key z) ≡ false) later
    none_behind_last [] later order some fails = absurd (omega (arith, some))
    none_behind_last (x ∷ []) later order some fails = all_from_all (IsBefore key x) (λ z. t (key z) ≡ false) (λ z before. fails_behind x z before fails) later order.0
    none_behind_last (x ∷ y ∷ rows) later order some fails = none_behind_last (y ∷ rows) later order.1 (omega arith) fails

  module _ (share : Share) where
    abbrev pub mine : Row → Bool
    mine x = is_in share (key x)

    abbrev pub ahead : Row → Bool
    ahead x = is_ahead share (key x)

    abbrev pub up_to : Row → Bool
    up_to x = is_up_to share (key x)

    one_left : (a b : Bool) → not a ≡ b → a ≡ not b
    one_left true b same = ap not same
    one_left false b same = ap not same

    mine_is : (x : Row) → mine x ≡ not (ahead x || not (up_to x))
    mine_is x = one_left (mine x) _ ((share_parts share).left x)

    pub ahead_apart : (x : Row) → ahead x ≡ true → mine x ≡ false
    ahead_apart x low = mine_is x ∙ (rw low refl)

    pub behind_apart : (x : Row) → up_to x ≡ false → mine x ≡ false
    behind_apart x high = elim (cases_Bool (ahead x)) [
      | inl low ↦ ahead_apart x low
      | inr other ↦ mine_is x ∙ (rw (other, high) refl)
    ]

    pub between_mine : (x : Row) → ahead x ≡ false → up_to x ≡ true → mine x ≡ true
    between_mine x high low = mine_is x ∙ (rw (high, low) refl)

    -- behind a row that isn't before them and isn't one of them none is
    pub later_apart : (x z : Row) → IsBefore key x z → ahead x ≡ false → mine x ≡ false → mine z ≡ false
    later_apart x z before high other = elim (cases_Bool (up_to x)) [
      | inl low ↦ let wrong = sym (between_mine x high low) ∙ other in cc
      | inr fails ↦ behind_apart z (fails_behind (is_up_to share) (share_parts share).upper x z before fails)
    ]

-- no row stands before those up to a number
pub none_ahead : {Row : Type 0} (key : Row → Key) (share : Share) (first : ℕ) → share ≡ shares.UpTo first → (rows : List Row) → 0 ≡ prefix_len (λ x. is_ahead share (key x)) rows
none_ahead key share first is [] = refl
none_ahead key share first is (x ∷ xs) = rw is refl
