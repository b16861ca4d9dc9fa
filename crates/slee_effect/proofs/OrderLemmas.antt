-- A name rises above the one before exactly where nothing falls; and where it falls, no name goes on.
use Rattle.std.proofs.Common.{◌≡◌, ℕ, zero, suc, ◌+◌, ◌-◌, ◌<◌, ◌≤◌, Bool, true, false, ltb, List, [], ◌∷◌, ◌++◌, length, take, drop, replicate, Option, Some, None, refl, sym, ap, subst, ◌∙◌, arith, inl, inr, ◌⊎◌, IsUtf8}
use Rattle.std.proofs.lemmas.Bool.{cases_lt, lt-ltb, le-ltb}
use Rattle.std.proofs.lemmas.List.{length-append, length-replicate, take_at, take_all, take-take, take-append-drop}
use Rattle.std.proofs.lemmas.Str.{IsUtf8-append}
use Rattle.slee_value.specs.Order.{is_below}
use Rattle.slee_effect.specs.Rising.{greatest_next, behind_next, further, reach_in, reach, fall}
use Rattle.slee_effect.proofs.BelowLemmas.{below_less, below_more, below_same, Which, is_less, is_more, is_equal, which, below_whole}
use Rattle.slee_effect.proofs.CapLemmas.{Goes, goes_of, text_of, letters_go, reach_above, next_most, goes_on}

fall_less : (p b : ℕ) (ps bs : List ℕ) (n : ℕ) → p < b → fall (p ∷ ps) (suc n) (b ∷ bs) ≡ None
fall_less p b ps bs n h = rw (le-ltb b p (omega arith), lt-ltb p b h) refl

fall_more : (p b : ℕ) (ps bs : List ℕ) (n : ℕ) → b < p → fall (p ∷ ps) (suc n) (b ∷ bs) ≡ Some (length (b ∷ bs))
fall_more p b ps bs n h = rw (lt-ltb b p h) refl

fall_equal : (p b : ℕ) (ps bs : List ℕ) (n : ℕ) → p ≤ b → b ≤ p → fall (p ∷ ps) (suc n) (b ∷ bs) ≡ fall ps n bs
fall_equal p b ps bs n h k = rw (le-ltb b p (omega arith), le-ltb p b (omega arith)) refl

pub some_none : {B : Type 0} (n : ℕ) (o : Option ℕ) → o ≡ Some n → o ≡ None → B
some_none n o p q = absurd cc

-- ---- how far it reaches

reach_in_le : (caps before : List ℕ) (n : ℕ) → reach_in caps before n ≤ n
reach_in_le caps before zero = omega arith
reach_in_le caps [] (suc n) = omega arith
reach_in_le caps (b ∷ bs) (suc n) = by (reach_in (behind_next caps b) bs n) (reach_in_le (behind_next caps b) bs n) (ltb b (greatest_next caps (suc n)))
  where
    by : (r : ℕ) → r ≤ n → (t : Bool) → further r t ≤ suc n
    by zero le true = omega arith
    by zero le false = omega arith
    by (suc r) le t = omega arith

pub reach_le : (before : List ℕ) (n : ℕ) → reach before n ≤ n
reach_le before n = elim (cases_lt (length before) n) [
  | inl h ↦ rw (lt-ltb (length before) n h) (omega arith)
  | inr h ↦ rw (le-ltb (length before) n h) (reach_in_le [] before n)
]

-- ---- where nothing falls the name rises

rises_if_none : (before name rest : List ℕ) (k : ℕ) → k ≤ length name → fall before k (name ++ rest) ≡ None → is_below before name ≡ true
rises_if_none before name rest zero le e = some_none (length (name ++ rest) + 1) (fall before zero (name ++ rest)) refl e
rises_if_none before [] rest (suc k) le e = absurd (omega arith)
rises_if_none [] (b ∷ bs) rest (suc k) le e = refl
rises_if_none (p ∷ ps) (b ∷ bs) rest (suc k) le e = by (λ h. rises_if_none ps bs rest k (omega arith) h) (which p b)
  where
    by : (fall ps k (bs ++ rest) ≡ None → is_below ps bs ≡ true) → Which p b → is_below (p ∷ ps) (b ∷ bs) ≡ true
    by next (is_less h) = below_less p b ps bs h
    by next (is_more h) = some_none (length (b ∷ (bs ++ rest))) (fall (p ∷ ps) (suc k) (b ∷ (bs ++ rest))) (fall_more p b ps (bs ++ rest) k h) e
    by next (is_equal h m) = below_same p b ps bs h m ∙ next (sym (fall_equal p b ps (bs ++ rest) k h m) ∙ e)

pub none_rises : (before name rest : List ℕ) → fall before (reach before (length name)) (name ++ rest) ≡ None → is_below before name ≡ true
none_rises before name rest e = rises_if_none before name rest (reach before (length name)) (reach_le before (length name)) e

-- ---- where the name rises nothing falls

false_true : {A : Type 0} (b : Bool) → b ≡ false → b ≡ true → A
false_true b p q = absurd cc

past_none : (before name rest : List ℕ) (k : ℕ) → length before < k → is_below before name ≡ true → fall before k (name ++ rest) ≡ None
past_none before name rest zero h e = absurd (omega arith)
past_none [] name rest (suc k) h e = refl
past_none (p ∷ ps) [] rest (suc k) h e = absurd cc
past_none (p ∷ ps) (b ∷ bs) rest (suc k) h e = by (λ q. past_none ps bs rest k (omega arith) q) (which p b)
  where
    by : (is_below ps bs ≡ true → fall ps k (bs ++ rest) ≡ None) → Which p b → fall (p ∷ ps) (suc k) (b ∷ (bs ++ rest)) ≡ None
    by next (is_less l) = fall_less p b ps (bs ++ rest) k l
    by next (is_more m) = false_true (is_below (p ∷ ps) (b ∷ bs)) (below_more p b ps bs m) e
    by next (is_equal l m) = fall_equal p b ps (bs ++ rest) k l m ∙ next (sym (below_same p b ps bs l m) ∙ e)

pub zero_falls : {A : Type 0} (before bytes : List ℕ) (k : ℕ) → k ≡ 0 → fall before k bytes ≡ None → A
zero_falls before bytes k z e = some_none (length bytes + 1) (fall before k bytes) (ap (λ (n : ℕ). fall before n bytes) z) e

within_none : (low : ℕ) (caps before name rest : List ℕ) → Goes low caps name → length name ≤ length before → is_below before name ≡ true → fall before (reach_in caps before (length name)) (name ++ rest) ≡ None
within_none low caps [] [] rest g le e = absurd cc
within_none low caps [] (b ∷ bs) rest g le e = absurd (omega arith)
within_none low caps (p ∷ ps) [] rest g le e = absurd cc
within_none low caps (p ∷ ps) (b ∷ bs) rest g le e = by (λ l h q. within_none l (behind_next caps p) ps bs rest h (omega arith) q) (which p b)
  where
    n : ℕ
    n = length bs

    here : Bool
    here = ltb p (greatest_next caps (suc n))

    raise : (r : ℕ) (t : Bool) → t ≡ true → p < b → fall (p ∷ ps) (further r t) (b ∷ (bs ++ rest)) ≡ None
    raise zero true q h = fall_less p b ps (bs ++ rest) 0 h
    raise zero false q h = false_true false refl q
    raise (suc r) t q h = fall_less p b ps (bs ++ rest) (suc r) h

    later : (r : ℕ) (t : Bool) → p ≤ b → b ≤ p → fall ps r (bs ++ rest) ≡ None → fall (p ∷ ps) (further r t) (b ∷ (bs ++ rest)) ≡ None
    later zero t h m f = zero_falls ps (bs ++ rest) 0 refl f
    later (suc r) t h m f = fall_equal p b ps (bs ++ rest) (suc r) h m ∙ f

    by : ((l : ℕ) → Goes l (behind_next caps p) bs → is_below ps bs ≡ true → fall ps (reach_in (behind_next caps p) ps n) (bs ++ rest) ≡ None) → Which p b → fall (p ∷ ps) (further (reach_in (behind_next caps p) ps n) here) (b ∷ (bs ++ rest)) ≡ None
    by next (is_less h) = raise (reach_in (behind_next caps p) ps n) here (lt-ltb _ _ (omega (arith, next_most low caps b bs g))) h
    by next (is_more h) = false_true (is_below (p ∷ ps) (b ∷ bs)) (below_more p b ps bs h) e
    by next (is_equal h m) =
        let same : b ≡ p = omega arith in
        let on = goes_on low caps b bs g in
        later (reach_in (behind_next caps p) ps n) here h m (next on.0 (subst (λ (x : ℕ). Goes on.0 (behind_next caps x) bs) same on.1) (sym (below_same p b ps bs h m) ∙ e))

pub rises_none : (before name rest : List ℕ) → IsUtf8 name → is_below before name ≡ true → fall before (reach before (length name)) (name ++ rest) ≡ None
rises_none before name rest u e = elim (cases_lt (length before) (length name)) [
  | inl h ↦ rw (lt-ltb (length before) (length name) h) (past_none before name rest (length before + 1) (omega arith) e)
  | inr h ↦ rw (le-ltb (length before) (length name) h) (within_none 128 [] before name rest (goes_of 128 name u) h e)
]

-- ---- what a fall means

-- so many bytes are left from the first one that decides the fall
pub record Falls (before : List ℕ) (k : ℕ) (bytes : List ℕ) (left : ℕ) : Type 0 where
  pub within : left ≤ length bytes + 1
  pub inside : 0 < k → left ≤ length bytes
  pub some : 0 < left
  pub in_name : length bytes + 1 ≤ left + k
  pub decided : (rest : List ℕ) → fall before k (take (length bytes + 1 - left) bytes ++ rest) ≡ None → ⊥
  pub fronts : (m : ℕ) → m + left ≤ length bytes → fall before k (take m bytes) ≡ None

falls_all : (before bytes : List ℕ) (left : ℕ) → length bytes + 1 ≡ left → Falls before zero bytes left
falls_all before bytes left e = record {
  within = omega arith;
  inside = λ h. absurd (omega arith);
  some = omega arith;
  in_name = omega arith;
  decided = λ rest f. zero_falls before (take (length bytes + 1 - left) bytes ++ rest) 0 refl f;
  fronts = λ m h. absurd (omega arith);
}

falls_here : (p b : ℕ) (ps bs : List ℕ) (k left : ℕ) → b < p → length (b ∷ bs) ≡ left → Falls (p ∷ ps) (suc k) (b ∷ bs) left
falls_here p b ps bs k left h e = record {
  within = omega arith;
  inside = λ q. omega arith;
  some = omega arith;
  in_name = omega arith;
  decided = λ rest f. (let one : length (b ∷ bs) + 1 - left ≡ 1 = omega arith in some_none (length (b ∷ rest)) (fall (p ∷ ps) (suc k) (b ∷ rest)) (fall_more p b ps rest k h) (rw one at f));
  fronts = λ m q. (let none : m ≡ 0 = omega arith in rw none refl);
}

fall_open : (ps : List ℕ) (n : ℕ) → fall ps (suc n) [] ≡ None
fall_open [] n = refl
fall_open (p ∷ ps) n = refl

falls_next : (p b : ℕ) (ps bs : List ℕ) (k left : ℕ) → p ≤ b → b ≤ p → Falls ps k bs left → Falls (p ∷ ps) (suc k) (b ∷ bs) left
falls_next p b ps bs k left h m f = record {
  within = omega (arith, f.within);
  inside = λ q. omega (arith, f.within);
  some = f.some;
  in_name = omega (arith, f.in_name);
  decided = λ rest q.
      let n : length (b ∷ bs) + 1 - left ≡ suc (length bs + 1 - left) = omega (arith, f.within) in
      f.decided rest (sym (fall_equal p b ps (take (length bs + 1 - left) bs ++ rest) k h m) ∙ (rw n at q));
  fronts = opens;
}
  where
    opens : (i : ℕ) → i + left ≤ length (b ∷ bs) → fall (p ∷ ps) (suc k) (take i (b ∷ bs)) ≡ None
    opens zero q = refl
    opens (suc i) q = fall_equal p b ps (take i bs) k h m ∙ f.fronts i (omega arith)

pub falls_of : (before : List ℕ) (k : ℕ) (bytes : List ℕ) (left : ℕ) → fall before k bytes ≡ Some left → Falls before k bytes left
falls_of before zero bytes left e = falls_all before bytes left (some_is e)
  where
    some_is : fall before zero bytes ≡ Some left → length bytes + 1 ≡ left
    some_is q = cc
falls_of [] (suc k) bytes left e = absurd cc
falls_of (p ∷ ps) (suc k) [] left e = absurd cc
falls_of (p ∷ ps) (suc k) (b ∷ bs) left e = by (λ h. falls_of ps k bs left h) (which p b)
  where
    some_is : (i : ℕ) (o : Option ℕ) → o ≡ Some i → o ≡ Some left → i ≡ left
    some_is i o q r = cc

    by : (fall ps k bs ≡ Some left → Falls ps k bs left) → Which p b → Falls (p ∷ ps) (suc k) (b ∷ bs) left
    by next (is_less h) = absurd (some_none left (fall (p ∷ ps) (suc k) (b ∷ bs)) e (fall_less p b ps bs k h))
    by next (is_more h) = falls_here p b ps bs k left h (some_is (length (b ∷ bs)) (fall (p ∷ ps) (suc k) (b ∷ bs)) (fall_more p b ps bs k h) e)
    by next (is_equal h m) = falls_next p b ps bs k left h m (next (sym (fall_equal p b ps bs k h m) ∙ e))

-- ---- where nothing falls some name rises

-- where nothing falls the name is above already, or it is a front of the one before and may part from it yet
undecided : (before front more : List ℕ) (k : ℕ) → k ≤ length (front ++ more) → fall before k front ≡ None → (is_below before (front ++ more) ≡ true) ⊎ ((length front < k) × (front ≡ take (length front) before))
undecided before front more zero le e = zero_falls before front 0 refl e
undecided before [] more (suc k) le e = inr (omega arith, refl)
undecided [] (b ∷ bs) more (suc k) le e = inl refl
undecided (p ∷ ps) (b ∷ bs) more (suc k) le e = by (λ h. undecided ps bs more k (omega arith) h) (which p b)
  where
    Either : List ℕ → List ℕ → ℕ → Type 0
    Either before front k = (is_below before (front ++ more) ≡ true) ⊎ ((length front < k) × (front ≡ take (length front) before))

    after : p ≤ b → b ≤ p → Either ps bs k → Either (p ∷ ps) (b ∷ bs) (suc k)
    after h m (inl q) = inl (below_same p b ps (bs ++ more) h m ∙ q)
    after h m (inr q) = (let same : b ≡ p = omega arith in inr (omega (arith, q.0), ap (λ (t : List ℕ). b ∷ t) q.1 ∙ ap (λ (x : ℕ). x ∷ take (length bs) ps) same))

    by : (fall ps k bs ≡ None → Either ps bs k) → Which p b → Either (p ∷ ps) (b ∷ bs) (suc k)
    by next (is_less h) = inl (below_less p b ps (bs ++ more) h)
    by next (is_more h) = some_none (length (b ∷ bs)) (fall (p ∷ ps) (suc k) (b ∷ bs)) (fall_more p b ps bs k h) e
    by next (is_equal h m) = after h m (next (sym (fall_equal p b ps bs k h m) ∙ e))

-- a text of n bytes that comes after the one before, with k bytes in common
abbrev pub Rises : List ℕ → ℕ → ℕ → Type 0
Rises before n k = (text : List ℕ) × IsUtf8 text × (length text ≡ n) × (is_below before text ≡ true) × (take k text ≡ take k before)

longer_rises : (before : List ℕ) (n : ℕ) → IsUtf8 before → length before < n → Rises before n (length before)
longer_rises before n u lt =
    let i : ℕ = n - length before - 1 in
    let text : List ℕ = before ++ 97 ∷ replicate i 97 in (
      text,
      IsUtf8-append before (97 ∷ replicate i 97) u (text_of 128 (97 ∷ replicate i 97) (letters_go 128 (suc i))),
      omega (arith, length-append before (97 ∷ replicate i 97), length-replicate {A = ℕ} i 97),
      below_whole before 97 (replicate i 97),
      take_at before (97 ∷ replicate i 97) (length before) refl ∙ sym (take_all (length before) before (omega arith)),
    )

pub reach_rises : (before : List ℕ) (n k : ℕ) → IsUtf8 before → reach before n ≡ suc k → Rises before n k
reach_rises before n k u e = elim (cases_lt (length before) n) [
  | inl h ↦ (let far : length before + 1 ≡ suc k = rw (lt-ltb (length before) n h) at e in let same : length before ≡ k = omega arith in subst (Rises before n) same (longer_rises before n u h))
  | inr h ↦ (let a = reach_above before n k 128 [] (goes_of 128 before u) (rw (le-ltb (length before) n h) at e) in (a.text, text_of 128 a.text a.goes, a.len, a.above, a.same))
]

-- a front that nothing falls in begins a text that comes after the one before
pub none_begins : (before front more : List ℕ) → IsUtf8 before → IsUtf8 (front ++ more) → fall before (reach before (length (front ++ more))) front ≡ None
    → (text : List ℕ) × (rest : List ℕ) × IsUtf8 text × (length text ≡ length (front ++ more)) × (text ≡ front ++ rest) × (is_below before text ≡ true)
none_begins before front more u v e = by (reach before n) refl (undecided before front more (reach before n) (reach_le before n) e)
  where
    n : ℕ
    n = length (front ++ more)

    by : (k : ℕ) → reach before n ≡ k → (is_below before (front ++ more) ≡ true) ⊎ ((length front < k) × (front ≡ take (length front) before)) → (text : List ℕ) × (rest : List ℕ) × IsUtf8 text × (length text ≡ n) × (text ≡ front ++ rest) × (is_below before text ≡ true)
    by k q (inl h) = (front ++ more, more, v, refl, refl, h)
    by zero q (inr h) = absurd (omega (arith, h.0))
    by (suc k) q (inr h) =
        let r = reach_rises before n k u q in
        let m : ℕ = length front in
        let le : m ≤ k = omega (arith, h.0) in
        let cut : front ≡ take m r.0 = h.1 ∙ sym (take-take m k before le) ∙ ap (take m) (sym r.4) ∙ take-take m k r.0 le in
        (r.0, drop m r.0, r.1, r.2, sym (take-append-drop m r.0) ∙ ap (λ (t : List ℕ). t ++ drop m r.0) (sym cut), r.3)

-- in a front of where nothing falls nothing falls
pub none_front : (before bytes : List ℕ) (k m : ℕ) → fall before k bytes ≡ None → fall before k (take m bytes) ≡ None
none_front before bytes zero m e = zero_falls before bytes 0 refl e
none_front before bytes (suc k) zero e = fall_open before k
none_front [] bytes (suc k) (suc m) e = refl
none_front (p ∷ ps) [] (suc k) (suc m) e = refl
none_front (p ∷ ps) (b ∷ bs) (suc k) (suc m) e = by (λ q. none_front ps bs k m q) (which p b)
  where
    by : (fall ps k bs ≡ None → fall ps k (take m bs) ≡ None) → Which p b → fall (p ∷ ps) (suc k) (b ∷ take m bs) ≡ None
    by next (is_less h) = fall_less p b ps (take m bs) k h
    by next (is_more h) = some_none (length (b ∷ bs)) (fall (p ∷ ps) (suc k) (b ∷ bs)) (fall_more p b ps bs k h) e
    by next (is_equal h n) = fall_equal p b ps (take m bs) k h n ∙ next (sym (fall_equal p b ps bs k h n) ∙ e)
