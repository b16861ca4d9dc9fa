-- The rows of a share: a part of the leaf in which they begin, the leaves between, and a part of the leaf in which they end.
use Rattle.std.proofs.Common.{◌≡◌, ℕ, suc, ◌+◌, ◌-◌, ◌<◌, ◌≤◌, Bool, true, false, List, [], ◌∷◌, ◌++◌, length, take, drop, slice_range, refl, sym, ap, ◌∙◌, append_assoc, arith, inl, inr}
use Rattle.std.specs.List.{AllByRecursion, filter, flat_map, prefix_len}
use Rattle.std.proofs.lemmas.Bool.{cases_Bool}
use Rattle.std.proofs.lemmas.List.{append-nil}
use Rattle.std.proofs.lemmas.List.Elements.{filter-append}
use Rattle.rows_sorted.specs.Keys.{Key, Rises}
use Rattle.rows_sorted.proofs.OrderLemmas.{AllInOrder, IsBefore, all_from_all, in_order, rises_again}
use Rattle.rows_leaves.specs.Laying.{last_key}
use Rattle.rows_leaves.specs.Shares.{is_ahead, is_up_to, is_in}
use Rattle.rows_leaves.specs.declared.share.Share.{Share}
use Rattle.rows_leaves.proofs.LastLemmas.{all_front, all_back, order_front, order_back}
use Rattle.rows_leaves.proofs.PartLemmas.{all_kept, none_kept}
use Rattle.rows_leaves.proofs.ShareLemmas.{share_parts, all_up_to_last, none_behind_last, mine, ahead, up_to, ahead_apart, behind_apart, between_mine}

module _ {Leaf Row : Type 0} (key : Row → Key) (rows_of : Leaf → List Row) (share : Share) where
  abbrev leaf_ahead : Leaf → Bool
  leaf_ahead leaf = is_ahead share (last_key key (rows_of leaf))

  abbrev leaf_up_to : Leaf → Bool
  leaf_up_to leaf = is_up_to share (last_key key (rows_of leaf))

  abbrev Filled : Leaf → Type 0
  Filled leaf = 0 < length (rows_of leaf)

  both_mine : (rows : List Row) → AllByRecursion (λ x. ahead key share x ≡ false) rows → AllByRecursion (λ x. up_to key share x ≡ true) rows → AllByRecursion (λ x. mine key share x ≡ true) rows
  both_mine [] high low = tt
  both_mine (x ∷ xs) high low = (between_mine key share x high.0 low.0, both_mine xs high.1 low.1)

  -- what is kept of a leaf that ends them, and of all behind it
  kept_end : (l : Leaf) (ls : List Leaf) → AllInOrder (IsBefore key) (rows_of l ++ flat_map rows_of ls) → Filled l → leaf_up_to l ≡ false → filter (mine key share) (rows_of l ++ flat_map rows_of ls) ≡ filter (mine key share) (rows_of l ++ [])
  kept_end l ls order some fails =
      let behind = none_behind_last key (is_up_to share) (share_parts key share).upper (rows_of l) (flat_map rows_of ls) order some fails in
      let none = none_kept (mine key share) (flat_map rows_of ls) (all_from_all (λ z. up_to key share z ≡ false) (λ z. mine key share z ≡ false) (behind_apart key share) (flat_map rows_of ls) behind) in
      filter-append (mine key share) (rows_of l) (flat_map rows_of ls) ∙ ap (λ rest. filter (mine key share) (rows_of l) ++ rest) none ∙ sym (filter-append (mine key share) (rows_of l) [])

  -- from a place on from which no row stands before them
  kept_on : (leaves : List Leaf) → AllByRecursion Filled leaves → AllInOrder (IsBefore key) (flat_map rows_of leaves) → AllByRecursion (λ x. ahead key share x ≡ false) (flat_map rows_of leaves)
      → filter (mine key share) (flat_map rows_of leaves) ≡ flat_map rows_of (take (prefix_len leaf_up_to leaves) leaves) ++ filter (mine key share) (flat_map rows_of (take 1 (drop (prefix_len leaf_up_to leaves) leaves)))
  kept_on [] filled order high = refl
  kept_on (l ∷ ls) filled order high = elim (cases_Bool (leaf_up_to l)) [
    | inl low ↦
        let one : 1 + prefix_len leaf_up_to ls ≡ suc (prefix_len leaf_up_to ls) = omega arith in
        let own = order_front (IsBefore key) (rows_of l) (flat_map rows_of ls) order in
        let all = both_mine (rows_of l) (all_front _ (rows_of l) (flat_map rows_of ls) high) (all_up_to_last key (is_up_to share) (share_parts key share).upper (rows_of l) own low) in
        rw (low, one)
        (filter-append (mine key share) (rows_of l) (flat_map rows_of ls)
        ∙ ap (λ rows. rows ++ filter (mine key share) (flat_map rows_of ls)) (all_kept (mine key share) (rows_of l) all)
        ∙ ap (λ rest. rows_of l ++ rest) (kept_on ls filled.1 (order_back (IsBefore key) (rows_of l) (flat_map rows_of ls) order) (all_back _ (rows_of l) (flat_map rows_of ls) high))
        ∙ sym (append_assoc (rows_of l) (flat_map rows_of (take (prefix_len leaf_up_to ls) ls)) _))
    | inr fails ↦ rw fails (kept_end l ls order filled.0 fails)
  ]

  -- what is kept of a leaf before them, and of all others
  kept_past : (l : Leaf) (ls : List Leaf) → AllInOrder (IsBefore key) (rows_of l ++ flat_map rows_of ls) → leaf_ahead l ≡ true → filter (mine key share) (rows_of l ++ flat_map rows_of ls) ≡ filter (mine key share) (flat_map rows_of ls)
  kept_past l ls order low =
      let own = order_front (IsBefore key) (rows_of l) (flat_map rows_of ls) order in
      let before = all_up_to_last key (is_ahead share) (share_parts key share).lower (rows_of l) own low in
      let none = none_kept (mine key share) (rows_of l) (all_from_all (λ x. ahead key share x ≡ true) (λ x. mine key share x ≡ false) (ahead_apart key share) (rows_of l) before) in
      filter-append (mine key share) (rows_of l) (flat_map rows_of ls) ∙ ap (λ rows. rows ++ filter (mine key share) (flat_map rows_of ls)) none

  last_within : (rows : List Row) → 0 < length rows → is_ahead share (last_key key rows) ≡ true → is_up_to share (last_key key rows) ≡ true
  last_within [] some low = absurd (omega (arith, some))
  last_within (x ∷ []) some low = (share_parts key share).within x low
  last_within (x ∷ y ∷ rows) some low = last_within (y ∷ rows) (omega arith) low

  kept_from : (leaves : List Leaf) → AllByRecursion Filled leaves → AllInOrder (IsBefore key) (flat_map rows_of leaves)
      → (prefix_len leaf_ahead leaves < prefix_len leaf_up_to leaves
      → filter (mine key share) (flat_map rows_of (take 1 (drop (prefix_len leaf_ahead leaves) leaves)))
      ++ (flat_map rows_of (slice_range leaves (prefix_len leaf_ahead leaves + 1) (prefix_len leaf_up_to leaves)) ++ filter (mine key share) (flat_map rows_of (take 1 (drop (prefix_len leaf_up_to leaves) leaves))))
      ≡ filter (mine key share) (flat_map rows_of leaves))
      × (prefix_len leaf_up_to leaves ≤ prefix_len leaf_ahead leaves → filter (mine key share) (flat_map rows_of (take 1 (drop (prefix_len leaf_ahead leaves) leaves))) ≡ filter (mine key share) (flat_map rows_of leaves))
  kept_from [] filled order = ((λ some. absurd (omega (arith, some))), (λ none. refl))
  kept_from (l ∷ ls) filled order = elim (cases_Bool (leaf_ahead l)) [
    | inl low ↦
        let also = last_within (rows_of l) filled.0 low in
        let one : 1 + prefix_len leaf_ahead ls ≡ suc (prefix_len leaf_ahead ls) = omega arith in
        let two : 1 + prefix_len leaf_up_to ls ≡ suc (prefix_len leaf_up_to ls) = omega arith in
        let next : suc (prefix_len leaf_ahead ls) + 1 ≡ suc (prefix_len leaf_ahead ls + 1) = omega arith in
        let less : suc (prefix_len leaf_up_to ls) - suc (prefix_len leaf_ahead ls + 1) ≡ prefix_len leaf_up_to ls - (prefix_len leaf_ahead ls + 1) = omega arith in
        let rest = kept_from ls filled.1 (order_back (IsBefore key) (rows_of l) (flat_map rows_of ls) order) in
        rw (low, also, one, two, next, less)
        ((λ some. rest.0 (omega (arith, some)) ∙ sym (kept_past l ls order low)), (λ none. rest.1 (omega (arith, none)) ∙ sym (kept_past l ls order low)))
    | inr high ↦ elim (cases_Bool (leaf_up_to l)) [
      | inl low ↦
          let two : 1 + prefix_len leaf_up_to ls ≡ suc (prefix_len leaf_up_to ls) = omega arith in
          let less : suc (prefix_len leaf_up_to ls) - 1 ≡ prefix_len leaf_up_to ls = omega arith in
          let later = kept_on ls filled.1 (order_back (IsBefore key) (rows_of l) (flat_map rows_of ls) order) (none_behind_last key (is_ahead share) (share_parts key share).lower (rows_of l) (flat_map rows_of ls) order filled.0 high) in
          rw (high, low, two, less, append-nil (rows_of l))
          ((λ some. ap (λ rest. filter (mine key share) (rows_of l) ++ rest) (sym later) ∙ sym (filter-append (mine key share) (rows_of l) (flat_map rows_of ls))), (λ none. absurd (omega (arith, none))))
      | inr fails ↦ rw (high, fails) ((λ some. absurd (omega (arith, some))), (λ none. sym (kept_end l ls order filled.0 fails)))
    ]
  ]

  pub kept_parts : (start end : ℕ) (leaves : List Leaf) → AllByRecursion (λ leaf. 0 < length (rows_of leaf)) leaves → Rises key (flat_map rows_of leaves)
      → start ≡ prefix_len (λ leaf. is_ahead share (last_key key (rows_of leaf))) leaves → end ≡ prefix_len (λ leaf. is_up_to share (last_key key (rows_of leaf))) leaves → start < end
      → filter (λ row. is_in share (key row)) (flat_map rows_of (take 1 (drop start leaves)))
      ++ (flat_map rows_of (slice_range leaves (start + 1) end) ++ filter (λ row. is_in share (key row)) (flat_map rows_of (take 1 (drop end leaves))))
      ≡ filter (λ row. is_in share (key row)) (flat_map rows_of leaves)
  kept_parts start end leaves filled rises first last some =
      let all = kept_from leaves filled (in_order key _ rises) in
      rw (first, last) (all.0 (omega (arith, first, last, some)))

  pub kept_part : (start end : ℕ) (leaves : List Leaf) → AllByRecursion (λ leaf. 0 < length (rows_of leaf)) leaves → Rises key (flat_map rows_of leaves)
      → start ≡ prefix_len (λ leaf. is_ahead share (last_key key (rows_of leaf))) leaves → end ≡ prefix_len (λ leaf. is_up_to share (last_key key (rows_of leaf))) leaves → end ≤ start
      → filter (λ row. is_in share (key row)) (flat_map rows_of (take 1 (drop start leaves))) ≡ filter (λ row. is_in share (key row)) (flat_map rows_of leaves)
  kept_part start end leaves filled rises first last none =
      let all = kept_from leaves filled (in_order key _ rises) in
      rw first (all.1 (omega (arith, first, last, none)))

-- the rows of each leaf rise
pub each_rises : {Leaf Row : Type 0} (key : Row → Key) (rows_of : Leaf → List Row) (leaves : List Leaf) → Rises key (flat_map rows_of leaves) → AllByRecursion (λ leaf. Rises key (rows_of leaf)) leaves
each_rises {Leaf} {Row} key rows_of leaves rises = by leaves (in_order key _ rises)
  where
    by : (leaves : List Leaf) → AllInOrder (IsBefore key) (flat_map rows_of leaves) → AllByRecursion (λ leaf. Rises key (rows_of leaf)) leaves
    by [] order = tt
    by (l ∷ ls) order = (rises_again key (rows_of l) (order_front (IsBefore key) (rows_of l) (flat_map rows_of ls) order), by ls (order_back (IsBefore key) (rows_of l) (flat_map rows_of ls) order))
