-- What an entry that is counted more or less often leaves of the tallies, and rows that go of a sum.
use Rattle.std.proofs.Common.{◌≡◌, ℕ, zero, suc, ◌+◌, ◌-◌, ◌*◌, ◌<◌, ◌==◌, Bool, true, false, List, [], ◌∷◌, ◌++◌, Option, Some, None, refl, sym, ap, ◌∙◌, arith, inl, inr}
use Rattle.std.specs.Prelude.{not, nat_lt, ◌||◌, ◌&&◌}
use Rattle.std.specs.List.{AllByRecursion, filter, find, list_any, sum_by}
use Rattle.std.specs.Option.{option_map_or}
use Rattle.std.proofs.lemmas.Bool.{cases_Bool, and_parts}
use Rattle.std.proofs.Math.Bool.{or-true}
use Rattle.std.proofs.lemmas.Bool.Decides.{nat_tests}
use Rattle.std.proofs.lemmas.List.Sums.{sum_by-cons}
use Rattle.rows_sorted.specs.Orders.{put}
use Rattle.rows_sorted.specs.Keys.{Key, is_key, key_before, Rises}
use Rattle.rows_sorted.proofs.OrderLemmas.{AllInOrder, IsBefore, all_from_all, in_order, filter_rises}
use Rattle.rows_sorted.proofs.PartLemmas.{parted_by_key}
use Rattle.rows_index.specs.declared.entry.Entry.{Entry}
use Rattle.rows_index.specs.Index.{entry_key}
use Rattle.rows_index.proofs.FoundLemmas.{none_at}
use Rattle.rows_index.proofs.IndexLemmas.{sum_put}
use Rattle.rows_index.proofs.RowLemmas.{all_stay, filter_behind, same_key}
use Rattle.rows_index.specs.declared.tally.Tally.{Tally}
use Rattle.rows_index.specs.Tallies.{tally_key, count_at, is_of, one_of, with_count, without_entry, one_more, one_less, IsTally}

pub each : {X : Type 0} (P : X → Type 0) → ((x : X) → P x) → (xs : List X) → AllByRecursion P xs
each P all [] = tt
each P all (x ∷ xs) = (all x, each P all xs)

-- a row that is found and goes takes its own measure along
pub sum_cut : {Row : Type 0} (R : Row → Row → Type 0) (q : Row → Bool) → ((x y : Row) → R x y → q x ≡ true → q y ≡ false) → (g : Row → ℕ) (found : Row) (rows : List Row) → AllInOrder R rows → find q rows ≡ Some found
    → sum_by g rows ≡ g found + sum_by g (filter (λ row. not (q row)) rows)
sum_cut R q once g found [] order is = cc
sum_cut R q once g found (x ∷ xs) order is = elim (cases_Bool (q x)) [
  | inl mine ↦
      let first : Some x ≡ Some found = rw mine at is in
      let same : x ≡ found = cc in
      let rest = all_stay q xs (all_from_all (R x) (λ y. q y ≡ false) (λ y later. once x y later mine) xs order.0) in
      rw (mine, rest, ← same) (sum_by-cons g x xs)
  | inr other ↦
      let rest = sum_cut R q once g found xs order.1 (rw other at is) in
      let step = sum_by-cons g x xs in
      let left = sum_by-cons g x (filter (λ row. not (q row)) xs) in
      rw other (omega (arith, rest, step, left))
]

-- a tally's share of a sum
abbrev pub share : (Entry → ℕ) → Tally → ℕ
share f t = t.count * f t.entry

pub once : (e : Entry) (x y : Tally) → IsBefore tally_key x y → is_of e x ≡ true → is_of e y ≡ false
once e x y before mine = let laws = parted_by_key tally_key (entry_key e) in laws.later_apart x y before (laws.mine_not_low x mine)

-- an entry is itself
pub own_key : (e : Entry) → is_key (entry_key e) (entry_key e) ≡ true
own_key e = same_key e.key e.key e.number e.number refl refl

-- entries of one key are the same
pub one_entry : (x e : Entry) → is_key (entry_key x) (entry_key e) ≡ true → x ≡ e
one_entry x e is =
    let parts = and_parts (x.key == e.key) ((x.number == e.number) && true) is in
    let rest = and_parts (x.number == e.number) true parts.1 in
    let first : x.key ≡ e.key = let same = parts.0 in grind (arith, nat_tests, same) in
    let second : x.number ≡ e.number = let same = rest.0 in grind (arith, nat_tests, same) in
    λ i. record { key = first i; number = second i }

pub found_passes : {X : Type 0} (q : X → Bool) (x : X) (xs : List X) → find q xs ≡ Some x → q x ≡ true
found_passes q x [] is = cc
found_passes q x (y ∷ ys) is = elim (cases_Bool (q y)) [
  | inl mine ↦ let first : Some y ≡ Some x = rw mine at is in let same : y ≡ x = cc in ap q (sym same) ∙ mine
  | inr other ↦ found_passes q x ys (rw other at is)
]

found_entry : (e : Entry) (found : Tally) (ts : List Tally) → find (is_of e) ts ≡ Some found → found.entry ≡ e
found_entry e found ts is = one_entry found.entry e (found_passes (is_of e) found ts is)

-- an entry's part of a sum, taken apart
pub share_apart : (f : Entry → ℕ) (e : Entry) (ts : List Tally) → Rises tally_key ts → sum_by (share f) ts ≡ count_at ts e * f e + sum_by (share f) (without_entry e ts)
share_apart f e ts rises = by (find (is_of e) ts) refl
  where
    by : (o : Option Tally) → find (is_of e) ts ≡ o → sum_by (share f) ts ≡ option_map_or (λ (t : Tally). t.count) (find (is_of e) ts) 0 * f e + sum_by (share f) (without_entry e ts)
    by None is = rw (is, all_stay (is_of e) ts (none_at (is_of e) ts is)) (omega arith)
    by (Some t) is =
        let cut = sum_cut (IsBefore tally_key) (is_of e) (once e) (share f) t ts (in_order tally_key ts rises) is in
        let mine = ap (λ (x : Entry). t.count * f x) (found_entry e t ts is) in
        rw is (cut ∙ ap (λ n. n + sum_by (share f) (without_entry e ts)) mine)

goes_alone : (b : Bool) → not b ≡ false → b ≡ true
goes_alone true goes = refl
goes_alone false goes = cc

-- the row that gives way may be cut before
pub put_over : {Row : Type 0} (key : Row → Key) (x : Row) (rows : List Row) → put (λ a b. key_before (key a) (key b)) x (filter (λ row. not (is_key (key row) (key x))) rows) ≡ put (λ a b. key_before (key a) (key b)) x rows
put_over {Row} key x rows =
    let laws = parted_by_key key (key x) in
    let q = λ (row : Row). is_key (key row) (key x) in
    let stays = λ (row : Row). not (q row) in
    let low = λ (row : Row). key_before (key row) (key x) in
    let high = λ (row : Row). key_before (key x) (key row) in
    ap (λ front. front ++ x ∷ filter high (filter stays rows)) (filter_behind low stays rows (each (λ row. stays row ≡ false → low row ≡ false) (λ row goes. laws.mine_not_low row (goes_alone (q row) goes)) rows))
    ∙ ap (λ back. filter low rows ++ x ∷ back) (filter_behind high stays rows (each (λ row. stays row ≡ false → high row ≡ false) (λ row goes. laws.mine_not_behind row (goes_alone (q row) goes)) rows))

-- once those that pass are left out, none passes
pub none_stays : {X : Type 0} (q : X → Bool) (xs : List X) → AllByRecursion (λ x. q x ≡ false) (filter (λ x. not (q x)) xs)
none_stays q [] = tt
none_stays q (x ∷ xs) = elim (cases_Bool (q x)) [
  | inl mine ↦ rw mine (none_stays q xs)
  | inr other ↦ rw (other, other) ((refl, none_stays q xs))
]

-- the entry so often, and the others as before
pub share_with : (f : Entry → ℕ) (e : Entry) (count : ℕ) (ts : List Tally) → Rises tally_key ts → sum_by (share f) (with_count e count ts) ≡ count * f e + sum_by (share f) (without_entry e ts)
share_with f e count ts rises =
    let x : Tally = record { entry = e; count = count } in
    ap (sum_by (share f)) (sym (put_over tally_key x ts)) ∙ sum_put tally_key (share f) x (without_entry e ts) (filter_rises tally_key (λ t. not (is_of e t)) ts rises) (none_stays (is_of e) ts)

pub share_more : (f : Entry → ℕ) (e : Entry) (ts : List Tally) → Rises tally_key ts → sum_by (share f) (one_more e ts) ≡ f e + sum_by (share f) ts
share_more f e ts rises =
    let new = share_with f e (count_at ts e + 1) ts rises in
    let old = share_apart f e ts rises in
    omega (arith, new, old)

-- how often an entry is counted, as a sum
pub count_is_sum : (e : Entry) (ts : List Tally) → Rises tally_key ts → count_at ts e ≡ sum_by (share (one_of e)) ts
count_is_sum e ts rises =
    let own : one_of e e ≡ 1 = rw (own_key e) refl in
    let apart = share_apart (one_of e) e ts rises in
    let rest = none_of ts in
    let one : count_at ts e * one_of e e ≡ count_at ts e = ap (λ n. count_at ts e * n) own ∙ (omega arith) in
    omega (arith, apart, rest, one)
  where
    none_of : (ts : List Tally) → sum_by (share (one_of e)) (without_entry e ts) ≡ 0
    none_of [] = refl
    none_of (t ∷ ts) = elim (cases_Bool (is_of e t)) [
      | inl mine ↦ rw mine (none_of ts)
      | inr other ↦
          let step = sum_by-cons (share (one_of e)) t (without_entry e ts) in
          let nothing : share (one_of e) t ≡ 0 = rw other (omega arith) in
          let rest = none_of ts in
          rw other (omega (arith, step, nothing, rest))
    ]

-- how often an entry is counted, of rows
pub count_is : {Row : Type 0} (entries : Row → List Entry) (e : Entry) (rows : List Row) (ts : List Tally) → IsTally entries rows ts → count_at ts e ≡ sum_by (λ row. sum_by (one_of e) (entries row)) rows
count_is entries e rows ts tally = count_is_sum e ts tally.rises ∙ tally.same (one_of e)

pub share_less : (f : Entry → ℕ) (e : Entry) (ts : List Tally) → Rises tally_key ts → 0 < count_at ts e → f e + sum_by (share f) (one_less e ts) ≡ sum_by (share f) ts
share_less f e ts rises some = elim (cases_Bool (nat_lt 1 (count_at ts e))) [
  | inl many ↦ rw many (more (count_at ts e) refl some)
  | inr few ↦
      let one : count_at ts e ≡ 1 = grind (arith, nat_tests, few, some) in
      let old = share_apart f e ts rises in
      let is : count_at ts e * f e ≡ f e = ap (λ n. n * f e) one ∙ (omega arith) in
      rw few (omega (arith, old, is))
]
  where
    more : (n : ℕ) → count_at ts e ≡ n → 0 < n → f e + sum_by (share f) (with_count e (n - 1) ts) ≡ sum_by (share f) ts
    more zero is some = absurd (omega (arith, some))
    more (suc n) is some =
        let new = share_with f e n ts rises in
        let old = share_apart f e ts rises in
        let mine : count_at ts e * f e ≡ f e + n * f e = ap (λ m. m * f e) is ∙ (omega arith) in
        let back : suc n - 1 ≡ n = omega arith in
        rw back (omega (arith, new, old, mine))

-- an entry that is counted has a tally
pub tally_there : (e : Entry) (ts : List Tally) → 0 < count_at ts e → list_any (is_of e) ts ≡ true
tally_there e [] some = absurd (omega (arith, some))
tally_there e (t ∷ ts) some = elim (cases_Bool (is_of e t)) [
  | inl mine ↦ rw mine refl
  | inr other ↦ let rest : 0 < count_at ts e = rw other at some in rw other (tally_there e ts rest)
]

-- an entry that is counted has a tally, and another one finds room
pub there_or_room : (e : Entry) (ts : List Tally) (room : ℕ) → (nat_lt 0 (count_at ts e) || nat_lt 0 room) ≡ true → (list_any (is_of e) ts || nat_lt 0 room) ≡ true
there_or_room e ts room either = elim (cases_Bool (nat_lt 0 (count_at ts e))) [
  | inl some ↦ let is : 0 < count_at ts e = grind (arith, nat_tests, some) in ap (λ has. has || nat_lt 0 room) (tally_there e ts is)
  | inr none ↦ let left : nat_lt 0 room ≡ true = rw none at either in rw left (or-true (list_any (is_of e) ts))
]
