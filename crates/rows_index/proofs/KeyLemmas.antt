-- Rows with several entries each: these are counted one after the other.
use Rattle.std.proofs.Common.{◌≡◌, ℕ, ◌+◌, ◌-◌, ◌*◌, ◌<◌, ◌≤◌, true, List, [], ◌∷◌, ◌++◌, length, refl, ◌∙◌, arith, inl, inr}
use Rattle.std.specs.Prelude.{not, nat_lt}
use Rattle.std.specs.List.{AllByRecursion, filter, sum_by}
use Rattle.std.proofs.lemmas.Bool.{cases_Bool}
use Rattle.std.proofs.lemmas.Bool.Decides.{nat_tests}
use Rattle.std.proofs.lemmas.List.Sums.{sum_by-cons}
use Rattle.rows_sorted.specs.Keys.{key_before, Rises}
use Rattle.rows_sorted.proofs.OrderLemmas.{all_filter, filter_rises, put_rises}
use Rattle.rows_index.specs.declared.entry.Entry.{Entry}
use Rattle.rows_index.specs.declared.tally.Tally.{Tally}
use Rattle.rows_index.specs.Tallies.{tally_key, count_at, is_of, one_of, with_count, one_more, one_less, all_more, all_less, total, AreCounted, AreSome}
use Rattle.rows_index.proofs.CountLemmas.{count_is_sum, own_key, share, share_apart, share_less, share_more}

all_joined : (P : Tally → Type 0) (xs : List Tally) (x : Tally) (ys : List Tally) → AllByRecursion P xs → P x → AllByRecursion P ys → AllByRecursion P (xs ++ x ∷ ys)
all_joined P [] x ys all one also = (one, also)
all_joined P (y ∷ xs) x ys all one also = (all.0, all_joined P xs x ys all.1 one also)

some_with : (k : Entry) (count : ℕ) (ts : List Tally) → 0 < count → AreSome ts → AreSome (with_count k count ts)
some_with k count ts some all =
    let x : Tally = record { entry = k; count = count } in
    let P = λ (t : Tally). nat_lt 0 t.count ≡ true in
    let one : nat_lt 0 count ≡ true = grind (arith, nat_tests, some) in
    all_joined P (filter (λ t. key_before (tally_key t) (tally_key x)) ts) x (filter (λ t. key_before (tally_key x) (tally_key t)) ts) (all_filter P (λ t. key_before (tally_key t) (tally_key x)) ts all) one (all_filter P (λ t. key_before (tally_key x) (tally_key t)) ts all)

pub some_more : (k : Entry) (ts : List Tally) → AreSome ts → AreSome (one_more k ts)
some_more k ts all = some_with k (count_at ts k + 1) ts (omega arith) all

pub some_less : (k : Entry) (ts : List Tally) → AreSome ts → AreSome (one_less k ts)
some_less k ts all = elim (cases_Bool (nat_lt 1 (count_at ts k))) [
  | inl many ↦ let left : 0 < count_at ts k - 1 = grind (arith, nat_tests, many) in rw many (some_with k (count_at ts k - 1) ts left all)
  | inr few ↦ rw few (all_filter (λ (t : Tally). nat_lt 0 t.count ≡ true) (λ t. not (is_of k t)) ts all)
]

pub more_rises : (k : Entry) (ts : List Tally) → Rises tally_key ts → Rises tally_key (one_more k ts)
more_rises k ts rises = put_rises tally_key (record { entry = k; count = count_at ts k + 1 }) ts rises

pub less_rises : (k : Entry) (ts : List Tally) → Rises tally_key ts → Rises tally_key (one_less k ts)
less_rises k ts rises = elim (cases_Bool (nat_lt 1 (count_at ts k))) [
  | inl many ↦ rw many (put_rises tally_key (record { entry = k; count = count_at ts k - 1 }) ts rises)
  | inr few ↦ rw few (filter_rises tally_key (λ t. not (is_of k t)) ts rises)
]

-- there are no more tallies than rows that they count
pub length_within : (ts : List Tally) → AreSome ts → length ts ≤ total ts
length_within [] all = omega arith
length_within (t ∷ ts) all =
    let rest = length_within ts all.1 in
    let step = sum_by-cons (share (λ n. 1)) t ts in
    let first = all.0 in
    let one : 0 < t.count = grind (arith, nat_tests, first) in
    let mine : share (λ n. 1) t ≡ t.count = omega arith in
    omega (arith, rest, step, one, mine)

pub count_within_total : (k : Entry) (ts : List Tally) → Rises tally_key ts → count_at ts k ≤ total ts
count_within_total k ts rises =
    let apart = share_apart (λ n. 1) k ts rises in
    let one : count_at ts k * 1 ≡ count_at ts k = omega arith in
    omega (arith, apart, one)

pub total_more : (k : Entry) (ts : List Tally) → Rises tally_key ts → total (one_more k ts) ≡ total ts + 1
total_more k ts rises = let more = share_more (λ n. 1) k ts rises in omega (arith, more)

-- the keys are counted one after the other
pub share_all : (f : Entry → ℕ) (ks : List Entry) (ts : List Tally) → Rises tally_key ts → sum_by (share f) (all_more ks ts) ≡ sum_by f ks + sum_by (share f) ts
share_all f [] ts rises = omega arith
share_all f (k ∷ ks) ts rises =
    let rest = share_all f ks (one_more k ts) (more_rises k ts rises) in
    let one = share_more f k ts rises in
    let step = sum_by-cons f k ks in
    omega (arith, rest, one, step)

pub all_rise : (ks : List Entry) (ts : List Tally) → Rises tally_key ts → Rises tally_key (all_more ks ts)
all_rise [] ts rises = rises
all_rise (k ∷ ks) ts rises = all_rise ks (one_more k ts) (more_rises k ts rises)

pub all_some : (ks : List Entry) (ts : List Tally) → AreSome ts → AreSome (all_more ks ts)
all_some [] ts all = all
all_some (k ∷ ks) ts all = all_some ks (one_more k ts) (some_more k ts all)

pub first_counted : (k : Entry) (ks : List Entry) (ts : List Tally) → AreCounted (k ∷ ks) ts → 0 < count_at ts k
first_counted k ks ts counted =
    let all = counted k in
    let step = sum_by-cons (one_of k) k ks in
    let one : sum_by (one_of k) (k ∷ ks) ≡ 1 + sum_by (one_of k) ks = step ∙ (rw (own_key k) refl) in
    omega (arith, all, one)

pub rest_counted : (k : Entry) (ks : List Entry) (ts : List Tally) → Rises tally_key ts → AreCounted (k ∷ ks) ts → AreCounted ks (one_less k ts)
rest_counted k ks ts rises counted = λ other.
    let all = counted other in
    let step = sum_by-cons (one_of other) k ks in
    let less = share_less (one_of other) k ts rises (first_counted k ks ts counted) in
    let old = count_is_sum other ts rises in
    let new = count_is_sum other (one_less k ts) (less_rises k ts rises) in
    omega (arith, all, step, less, old, new)

pub share_all_less : (f : Entry → ℕ) (ks : List Entry) (ts : List Tally) → Rises tally_key ts → AreCounted ks ts → sum_by f ks + sum_by (share f) (all_less ks ts) ≡ sum_by (share f) ts
share_all_less f [] ts rises counted = omega arith
share_all_less f (k ∷ ks) ts rises counted =
    let rest = share_all_less f ks (one_less k ts) (less_rises k ts rises) (rest_counted k ks ts rises counted) in
    let one = share_less f k ts rises (first_counted k ks ts counted) in
    let step = sum_by-cons f k ks in
    omega (arith, rest, one, step)

pub less_all_rise : (ks : List Entry) (ts : List Tally) → Rises tally_key ts → Rises tally_key (all_less ks ts)
less_all_rise [] ts rises = rises
less_all_rise (k ∷ ks) ts rises = less_all_rise ks (one_less k ts) (less_rises k ts rises)

pub less_all_some : (ks : List Entry) (ts : List Tally) → AreSome ts → AreSome (all_less ks ts)
less_all_some [] ts all = all
less_all_some (k ∷ ks) ts all = less_all_some ks (one_less k ts) (some_less k ts all)
