-- A name goes on exactly where nothing falls, its length included.
use Rattle.std.proofs.Common.{◌≡◌, ℕ, zero, suc, ◌+◌, ◌-◌, ◌^◌, ◌<◌, ◌≤◌, Bool, true, false, cond, eqb, List, [], ◌∷◌, ◌++◌, length, take, replicate, Option, Some, None, refl, sym, ap, subst, ◌∙◌, append_assoc, arith, inl, inr, ◌⊎◌, IsUtf8}
use Rattle.std.specs.Int.{w32, from_le_bytes}
use Rattle.std.proofs.lemmas.Bool.{cases_lt, eqb-true, eqb-false, ne_eqb}
use Rattle.std.proofs.lemmas.List.{append-nil, append_cancel_left, length-append, length-replicate, take_at, nil_from_length}
use Rattle.std.proofs.lemmas.Str.{IsUtf8-append}
use Rattle.std.proofs.Math.Seq.{take-append-add}
use Rattle.slee_value.specs.Order.{is_below}
use Rattle.slee_value.specs.Bytes.{spelled_u32, spelled_text, FitsText}
use Rattle.slee_value.proofs.ReadLemmas.{AreBytes, bytes_append, bytes_left, bytes_right, byte_at, fronts, Begins}
use Rattle.slee_value.proofs.PartLemmas.{wide32}
use Rattle.slee_value.proofs.TextPartLemmas.{text_after}
use Rattle.slee_effect.specs.Rising.{reach, greatest_len, fall, name_fall}
use Rattle.slee_effect.proofs.BelowLemmas.{below_longer}
use Rattle.slee_effect.proofs.CapLemmas.{letters_go, text_of}
use Rattle.slee_effect.proofs.OrderLemmas.{some_none, zero_falls, reach_le, none_rises, rises_none, none_front, falls_of, reach_rises, none_begins}

-- ---- the greatest length

greatest_bytes : (n : ℕ) → AreBytes (replicate n 255)
greatest_bytes zero = tt
greatest_bytes (suc n) = (omega arith, greatest_bytes n)

-- its bytes
greatest_spelled : (front : List ℕ) → AreBytes front → length front ≤ 4 → spelled_u32 (greatest_len front) ≡ front ++ replicate (4 - length front) 255
greatest_spelled front h le = wide32.back (front ++ replicate (4 - length front) 255) (omega (arith, length-append front (replicate (4 - length front) 255), length-replicate {A = ℕ} (4 - length front) 255)) (bytes_append front (replicate (4 - length front) 255) h (greatest_bytes (4 - length front)))

greatest_fits : (front : List ℕ) → AreBytes front → greatest_len front < 2 ^ 32
greatest_fits front h = wide32.below (front ++ replicate (4 - length front) 255) (bytes_append front (replicate (4 - length front) 255) h (greatest_bytes (4 - length front)))

-- no length that begins so is greater
greatest_is : (n : ℕ) (front more : List ℕ) → n < 2 ^ 32 → spelled_u32 n ≡ front ++ more → n ≤ greatest_len front
greatest_is n front more lt e = by front more (sym (wide32.again n lt) ∙ ap (from_le_bytes w32) e) (bytes_right front more (subst AreBytes e (wide32.bytes n))) (sym (length-append front more) ∙ sym (ap length e))
  where
    by : (front more : List ℕ) → n ≡ from_le_bytes w32 (front ++ more) → AreBytes more → length front + length more ≡ 4 → n ≤ greatest_len front
    by [] more q h len = omega arith
    by (a ∷ []) more q h len = omega (arith, byte_at more 0 h, byte_at more 1 h, byte_at more 2 h, q)
    by (a ∷ b ∷ []) more q h len = omega (arith, byte_at more 0 h, byte_at more 1 h, q)
    by (a ∷ b ∷ c ∷ []) more q h len = omega (arith, byte_at more 0 h, q)
    by (a ∷ b ∷ c ∷ d ∷ []) more q h len = omega (arith, q)
    by (a ∷ b ∷ c ∷ d ∷ e ∷ front) more q h len = absurd (omega arith)

-- ---- names that rise

abbrev pub RisingName : List ℕ → List ℕ → Type 0
RisingName before name = FitsText name × (is_below before name ≡ true)

-- a length that leaves no text above leaves none that is shorter
no_shorter : (before name : List ℕ) (n : ℕ) → IsUtf8 name → length name ≤ n → reach before n ≡ 0 → is_below before name ≡ true → ⊥
no_shorter before name n u le z e =
    let more : List ℕ = replicate (n - length name) 97 in
    let whole : List ℕ = name ++ more in
    let len : length whole ≡ n = omega (arith, length-append name more, length-replicate {A = ℕ} (n - length name) 97) in
    let v : IsUtf8 whole = IsUtf8-append name more u (text_of 128 more (letters_go 128 (n - length name))) in
    zero_falls before (whole ++ []) (reach before (length whole)) (ap (reach before) len ∙ z) (rises_none before whole [] v (below_longer before name more e))

-- the length of a name that begins so
len_front : (name front rest : List ℕ) → length front ≤ 4 → spelled_text name ≡ front ++ rest → (more : List ℕ) × (spelled_u32 (length name) ≡ front ++ more)
len_front name front rest le e = elim (fronts (spelled_u32 (length name)) name front rest e) [
  | inl r ↦ (r.0, r.1)
  | inr r ↦ (
      let none : r.0 ≡ [] = nil_from_length r.0 (omega (arith, ap length r.1, length-append (spelled_u32 (length name)) r.0)) in
      ([], sym (append-nil (spelled_u32 (length name))) ∙ ap (λ (t : List ℕ). spelled_u32 (length name) ++ t) (sym none) ∙ sym r.1 ∙ sym (append-nil front)))
]

no_name : (before name front rest : List ℕ) → length front ≤ 4 → reach before (greatest_len front) ≡ 0 → FitsText name → spelled_text name ≡ front ++ rest → is_below before name ≡ true → ⊥
no_name before name front rest le z f e q =
    let l = len_front name front rest le e in
    no_shorter before name (greatest_len front) f.utf8 (greatest_is (length name) front l.0 f.short l.1) z q

-- ---- where nothing falls

not_zero : (n : ℕ) → eqb n 0 ≡ false → n ≡ 0 → ⊥
not_zero n p q = eqb-false n 0 p q

-- all the bytes read leave room
open_len : (before : List ℕ) (k : ℕ) (front bytes rest : List ℕ) → 0 < length bytes → length bytes ≤ k → name_fall before front k (bytes ++ rest) ≡ None → reach before (greatest_len (front ++ bytes)) ≡ 0 → ⊥
open_len before k front [] rest h le e = absurd (omega arith)
open_len before zero front (b ∷ bs) rest h le e = absurd (omega arith)
open_len before (suc k) front (b ∷ bs) rest h le e = by (λ s q z. open_len before k (front ++ b ∷ []) bs rest s (omega arith) q z) (eqb (reach before (greatest_len (front ++ b ∷ []))) 0) refl e bs refl
  where
    by : (0 < length bs → name_fall before (front ++ b ∷ []) k (bs ++ rest) ≡ None → reach before (greatest_len ((front ++ b ∷ []) ++ bs)) ≡ 0 → ⊥) → (t : Bool) → eqb (reach before (greatest_len (front ++ b ∷ []))) 0 ≡ t → cond t (Some (length (b ∷ (bs ++ rest)))) (name_fall before (front ++ b ∷ []) k (bs ++ rest)) ≡ None → (cs : List ℕ) → bs ≡ cs → reach before (greatest_len (front ++ b ∷ bs)) ≡ 0 → ⊥
    by next true p q cs s = some_none (length (b ∷ (bs ++ rest))) (Some (length (b ∷ (bs ++ rest)))) refl q
    by next false p q [] s = λ z. not_zero _ p (ap (λ (t : List ℕ). reach before (greatest_len (front ++ b ∷ t))) (sym s) ∙ z)
    by next false p q (c ∷ cs) s = λ z. next (omega (arith, ap length s)) q (ap (λ (t : List ℕ). reach before (greatest_len t)) (append_assoc front (b ∷ []) bs) ∙ z)

-- and behind the length nothing falls
open_rest : (before : List ℕ) (k : ℕ) (front bytes rest : List ℕ) → length bytes ≡ k → name_fall before front k (bytes ++ rest) ≡ None → fall before (reach before (greatest_len (front ++ bytes))) rest ≡ None
open_rest before zero front [] rest n e = ap (λ (t : List ℕ). fall before (reach before (greatest_len t)) rest) (append-nil front) ∙ e
open_rest before zero front (b ∷ bs) rest n e = absurd (omega arith)
open_rest before (suc k) front [] rest n e = absurd (omega arith)
open_rest before (suc k) front (b ∷ bs) rest n e = by (λ q. open_rest before k (front ++ b ∷ []) bs rest (omega arith) q) (eqb (reach before (greatest_len (front ++ b ∷ []))) 0) e
  where
    by : (name_fall before (front ++ b ∷ []) k (bs ++ rest) ≡ None → fall before (reach before (greatest_len ((front ++ b ∷ []) ++ bs))) rest ≡ None) → (t : Bool) → cond t (Some (length (b ∷ (bs ++ rest)))) (name_fall before (front ++ b ∷ []) k (bs ++ rest)) ≡ None → fall before (reach before (greatest_len (front ++ b ∷ bs))) rest ≡ None
    by next true q = some_none (length (b ∷ (bs ++ rest))) (Some (length (b ∷ (bs ++ rest)))) refl q
    by next false q = ap (λ (t : List ℕ). fall before (reach before (greatest_len t)) rest) (sym (append_assoc front (b ∷ []) bs)) ∙ next q

-- where a name rises nothing falls
all_open : (before name : List ℕ) → RisingName before name → (k : ℕ) (front bytes rest : List ℕ) → length bytes ≡ k → front ++ bytes ≡ spelled_u32 (length name) → name_fall before front k (bytes ++ (name ++ rest)) ≡ None
all_open before name f zero front [] rest n e =
    let all : spelled_u32 (length name) ≡ front = sym e ∙ append-nil front in
    let len : length front ≡ 4 = ap length (sym all) in
    let more : replicate (4 - length front) 255 ≡ [] = ap (λ (i : ℕ). replicate (4 - i) 255) len in
    let is : greatest_len front ≡ length name = ap (λ (t : List ℕ). from_le_bytes w32 (front ++ t)) more ∙ ap (from_le_bytes w32) (append-nil front) ∙ ap (from_le_bytes w32) (sym all) ∙ wide32.again (length name) f.0.short in
    ap (λ (i : ℕ). fall before (reach before i) (name ++ rest)) is ∙ rises_none before name rest f.0.utf8 f.1
all_open before name f zero front (b ∷ bs) rest n e = absurd (omega arith)
all_open before name f (suc k) front [] rest n e = absurd (omega arith)
all_open before name f (suc k) front (b ∷ bs) rest n e =
    let split : (front ++ b ∷ []) ++ bs ≡ spelled_u32 (length name) = append_assoc front (b ∷ []) bs ∙ e in
    let short : length (front ++ b ∷ []) ≤ 4 = omega (arith, ap length split, length-append (front ++ b ∷ []) bs) in
    let whole : spelled_text name ≡ (front ++ b ∷ []) ++ (bs ++ name) = ap (λ (t : List ℕ). t ++ name) (sym split) ∙ append_assoc (front ++ b ∷ []) bs name in
    let room : eqb (reach before (greatest_len (front ++ b ∷ []))) 0 ≡ false = ne_eqb _ _ (λ z. no_name before name (front ++ b ∷ []) (bs ++ name) short z f.0 whole f.1) in
    rw room (all_open before name f k (front ++ b ∷ []) bs rest (omega arith) split)

-- a name is above the one before exactly where nothing falls
pub name_rises : (before name rest : List ℕ) → FitsText name → name_fall before [] 4 (spelled_text name ++ rest) ≡ None → is_below before name ≡ true
name_rises before name rest f e =
    let split : spelled_text name ++ rest ≡ spelled_u32 (length name) ++ (name ++ rest) = append_assoc (spelled_u32 (length name)) name rest in
    let o = open_rest before 4 [] (spelled_u32 (length name)) (name ++ rest) refl (ap (name_fall before [] 4) (sym split) ∙ e) in
    let is : greatest_len (spelled_u32 (length name)) ≡ length name = ap (from_le_bytes w32) (append-nil (spelled_u32 (length name))) ∙ wide32.again (length name) f.short in
    none_rises before name rest (ap (λ (i : ℕ). fall before (reach before i) (name ++ rest)) (sym is) ∙ o)

pub name_open : (before name rest : List ℕ) → RisingName before name → name_fall before [] 4 (spelled_text name ++ rest) ≡ None
name_open before name rest f = ap (name_fall before [] 4) (append_assoc (spelled_u32 (length name)) name rest) ∙ all_open before name f 4 [] (spelled_u32 (length name)) rest refl refl

-- ---- where a name falls

-- So many bytes are left from the first one with which no name rises.
pub record NameFalls (before bytes : List ℕ) (left : ℕ) : Type 0 where
  pub some : 0 < left
  pub within : left ≤ length bytes
  pub in_name : (n : ℕ) (rest : List ℕ) → bytes ≡ spelled_u32 n ++ rest → n < 2 ^ 32 → length rest + 1 ≤ left + n
  pub none : (name rest : List ℕ) → FitsText name → spelled_text name ≡ take (length bytes + 1 - left) bytes ++ rest → is_below before name ≡ true → ⊥

falls_in_len : (before front : List ℕ) (b : ℕ) (bs : List ℕ) (left : ℕ) → length front < 4 → reach before (greatest_len (front ++ b ∷ [])) ≡ 0 → length (b ∷ bs) ≡ left → NameFalls before (front ++ b ∷ bs) left
falls_in_len before front b bs left lt z e =
    let len : length (front ++ b ∷ bs) ≡ length front + suc (length bs) = length-append front (b ∷ bs) in
    record {
      some = omega arith;
      within = omega arith;
      in_name = λ n rest q h. omega (arith, ap length q, length-append (spelled_u32 n) rest);
      none = λ name rest f q r.
          let m : length (front ++ b ∷ bs) + 1 - left ≡ length front + 1 = omega arith in
          let cut : take (length (front ++ b ∷ bs) + 1 - left) (front ++ b ∷ bs) ≡ front ++ b ∷ [] = ap (λ (i : ℕ). take i (front ++ b ∷ bs)) m ∙ take-append-add front (b ∷ bs) 1 in
          no_name before name (front ++ b ∷ []) rest (omega (arith, length-append front (b ∷ []))) z f (q ∙ ap (λ (t : List ℕ). t ++ rest) cut) r;
    }

falls_behind : (before front bytes : List ℕ) (left : ℕ) → length front ≡ 4 → AreBytes front → (reach before (greatest_len front) ≡ 0 → ⊥) → fall before (reach before (greatest_len front)) bytes ≡ Some left → NameFalls before (front ++ bytes) left
falls_behind before front bytes left len h room e =
    let n : ℕ = greatest_len front in
    let f = falls_of before (reach before n) bytes left e in
    let all : spelled_u32 n ≡ front = greatest_spelled front h (omega arith) ∙ ap (λ (i : ℕ). front ++ replicate (4 - i) 255) len ∙ append-nil front in
    let whole : length (front ++ bytes) ≡ 4 + length bytes = omega (arith, length-append front bytes) in
    let le : reach before n ≤ n = reach_le before n in
    let some : 0 < reach before n = elim (cases_lt 0 (reach before n)) [
      | inl q ↦ q
      | inr q ↦ absurd (room (omega arith))
    ] in
    record {
      some = f.some;
      within = omega (arith, f.inside some);
      in_name = λ m rest q lt.
          let same : front ≡ spelled_u32 m = sym (take_at front bytes 4 len) ∙ ap (take 4) q ∙ take_at (spelled_u32 m) rest 4 refl in
          let num : n ≡ m = sym (wide32.again n (greatest_fits front h)) ∙ ap (from_le_bytes w32) (all ∙ same) ∙ wide32.again m lt in
          omega (arith, f.in_name, ap length q, length-append (spelled_u32 m) rest);
      none = λ name rest g q r.
          let m : length (front ++ bytes) + 1 - left ≡ length front + (length bytes + 1 - left) = omega (arith, f.within) in
          let cut : take (length (front ++ bytes) + 1 - left) (front ++ bytes) ≡ spelled_u32 n ++ take (length bytes + 1 - left) bytes = ap (λ (i : ℕ). take i (front ++ bytes)) m ∙ take-append-add front bytes (length bytes + 1 - left) ∙ ap (λ (t : List ℕ). t ++ take (length bytes + 1 - left) bytes) (sym all) in
          let t = text_after n (take (length bytes + 1 - left) bytes) rest name (greatest_fits front h) g (q ∙ ap (λ (s : List ℕ). s ++ rest) cut) in
          let none = rises_none before name [] g.utf8 r in
          f.decided rest (ap (fall before (reach before n)) (sym t.1 ∙ sym (append-nil name)) ∙ ap (λ (i : ℕ). fall before (reach before i) (name ++ [])) (sym t.0) ∙ none);
    }

falls_from : (before : List ℕ) (k : ℕ) (front bytes : List ℕ) (left : ℕ) → length front + k ≡ 4 → AreBytes (front ++ bytes) → (k ≡ 0 → reach before (greatest_len front) ≡ 0 → ⊥) → name_fall before front k bytes ≡ Some left → NameFalls before (front ++ bytes) left
falls_from before zero front bytes left n h room e = falls_behind before front bytes left (omega arith) (bytes_left front bytes h) (room refl) e
falls_from before (suc k) front [] left n h room e = absurd cc
falls_from before (suc k) front (b ∷ bs) left n h room e = by (λ len bytes room q. falls_from before k (front ++ b ∷ []) bs left len bytes room q) (eqb (reach before (greatest_len (front ++ b ∷ []))) 0) refl e
  where
    some_is : (i : ℕ) (o : Option ℕ) → o ≡ Some i → o ≡ Some left → i ≡ left
    some_is i o q r = cc

    group : (front ++ b ∷ []) ++ bs ≡ front ++ b ∷ bs
    group = append_assoc front (b ∷ []) bs

    by : (length (front ++ b ∷ []) + k ≡ 4 → AreBytes ((front ++ b ∷ []) ++ bs) → (k ≡ 0 → reach before (greatest_len (front ++ b ∷ [])) ≡ 0 → ⊥) → name_fall before (front ++ b ∷ []) k bs ≡ Some left → NameFalls before ((front ++ b ∷ []) ++ bs) left)
        → (t : Bool) → eqb (reach before (greatest_len (front ++ b ∷ []))) 0 ≡ t → cond t (Some (length (b ∷ bs))) (name_fall before (front ++ b ∷ []) k bs) ≡ Some left → NameFalls before (front ++ b ∷ bs) left
    by next true p q = falls_in_len before front b bs left (omega arith) (eqb-true _ _ p) (some_is (length (b ∷ bs)) (Some (length (b ∷ bs))) refl q)
    by next false p q = subst (λ (t : List ℕ). NameFalls before t left) group (next (omega (arith, length-append front (b ∷ []))) (subst AreBytes (sym group) h) (λ z. not_zero _ p) q)

pub name_falls : (before bytes : List ℕ) (left : ℕ) → AreBytes bytes → name_fall before [] 4 bytes ≡ Some left → NameFalls before bytes left
name_falls before bytes left h e = falls_from before 4 [] bytes left refl h (λ z. absurd (omega (arith, z))) e

-- ---- where nothing falls a name goes on

short_begins : (before front : List ℕ) → IsUtf8 before → AreBytes front → length front ≤ 4 → (reach before (greatest_len front) ≡ 0 → ⊥) → Begins spelled_text (RisingName before) front
short_begins before front u h le room = by (reach before n) refl
  where
    n : ℕ
    n = greatest_len front

    more : List ℕ
    more = replicate (4 - length front) 255

    by : (k : ℕ) → reach before n ≡ k → Begins spelled_text (RisingName before) front
    by zero q = absurd (room q)
    by (suc k) q =
        let r = reach_rises before n k u q in
        let short : length r.0 < 2 ^ 32 = omega (arith, r.2, greatest_fits front h) in
        let whole : spelled_text r.0 ≡ front ++ (more ++ r.0) = ap (λ (i : ℕ). spelled_u32 i ++ r.0) r.2 ∙ ap (λ (t : List ℕ). t ++ r.0) (greatest_spelled front h le) ∙ append_assoc front more r.0 in
        (r.0, more ++ r.0, (record { utf8 = r.1; short = short }, r.3), whole)

-- what begins a name, and a name that rises if nothing falls
pub open_begins : (before front : List ℕ) → IsUtf8 before → Begins spelled_text FitsText front → 0 < length front → name_fall before [] 4 front ≡ None → Begins spelled_text (RisingName before) front
open_begins before front u b some e = by (fronts (spelled_u32 (length b.0)) b.0 front b.1 b.3)
  where
    n : ℕ
    n = length b.0

    len : List ℕ
    len = spelled_u32 n

    spelled_bytes : AreBytes len
    spelled_bytes = wide32.bytes n

    by : ((r : List ℕ) × (len ≡ front ++ r) × (r ++ b.0 ≡ b.1)) ⊎ ((r : List ℕ) × (front ≡ len ++ r)) → Begins spelled_text (RisingName before) front
    by (inl r) =
        let le : length front ≤ 4 = omega (arith, ap length r.1, length-append front r.0) in
        short_begins before front u (bytes_left front r.0 (subst AreBytes r.1 spelled_bytes)) le (open_len before 4 [] front [] some le (ap (name_fall before [] 4) (append-nil front) ∙ e))
    by (inr r) =
        let name : b.0 ≡ r.0 ++ b.1 = append_cancel_left len b.0 (r.0 ++ b.1) (b.3 ∙ ap (λ (t : List ℕ). t ++ b.1) r.1 ∙ append_assoc len r.0 b.1) in
        let is : greatest_len len ≡ n = ap (from_le_bytes w32) (append-nil len) ∙ wide32.again n b.2.short in
        let rest : fall before (reach before (greatest_len len)) r.0 ≡ None = open_rest before 4 [] len r.0 refl (ap (name_fall before [] 4) (sym r.1) ∙ e) in
        let here : fall before (reach before (length (r.0 ++ b.1))) r.0 ≡ None = ap (λ (i : ℕ). fall before (reach before i) r.0) (sym (is ∙ ap length name)) ∙ rest in
        let t = none_begins before r.0 b.1 u (subst IsUtf8 name b.2.utf8) here in
        let same : length t.0 ≡ n = t.3 ∙ sym (ap length name) in
        let whole : spelled_text t.0 ≡ front ++ t.1 = ap (λ (i : ℕ). spelled_u32 i ++ t.0) same ∙ ap (λ (s : List ℕ). len ++ s) t.4 ∙ sym (append_assoc len r.0 t.1) ∙ ap (λ (s : List ℕ). s ++ t.1) (sym r.1) in
        (t.0, t.1, (record { utf8 = t.2; short = omega (arith, same, b.2.short) }, t.5), whole)

-- ---- before the fall nothing falls

-- these bytes end before the fall
abbrev pub EndsBefore : ℕ → List ℕ → Option ℕ → Type 0
EndsBefore m bytes None = Unit {0}
EndsBefore m bytes (Some left) = m + left ≤ length bytes

fall_front : (before : List ℕ) (k m : ℕ) (bytes : List ℕ) (o : Option ℕ) → fall before k bytes ≡ o → EndsBefore m bytes o → fall before k (take m bytes) ≡ None
fall_front before k m bytes None e h = none_front before bytes k m e
fall_front before k m bytes (Some left) e h = (falls_of before k bytes left e).fronts m h

name_front : (before : List ℕ) (k : ℕ) (front bytes : List ℕ) (m : ℕ) (o : Option ℕ) → name_fall before front k bytes ≡ o → EndsBefore m bytes o → name_fall before front k (take m bytes) ≡ None
name_front before zero front bytes m o e h = fall_front before (reach before (greatest_len front)) m bytes o e h
name_front before (suc k) front [] zero o e h = refl
name_front before (suc k) front [] (suc m) o e h = refl
name_front before (suc k) front (b ∷ bs) zero o e h = refl
name_front before (suc k) front (b ∷ bs) (suc m) o e h = by (λ q r. name_front before k (front ++ b ∷ []) bs m o q r) (eqb (reach before (greatest_len (front ++ b ∷ []))) 0) e
  where
    shorter : (o : Option ℕ) → EndsBefore (suc m) (b ∷ bs) o → EndsBefore m bs o
    shorter None q = q
    shorter (Some left) q = omega arith

    late : (o : Option ℕ) → Some (length (b ∷ bs)) ≡ o → EndsBefore (suc m) (b ∷ bs) o → ⊥
    late None p q = cc
    late (Some left) p q = (let same : length (b ∷ bs) ≡ left = cc in omega arith)

    by : (name_fall before (front ++ b ∷ []) k bs ≡ o → EndsBefore m bs o → name_fall before (front ++ b ∷ []) k (take m bs) ≡ None)
        → (t : Bool) → cond t (Some (length (b ∷ bs))) (name_fall before (front ++ b ∷ []) k bs) ≡ o → cond t (Some (length (b ∷ take m bs))) (name_fall before (front ++ b ∷ []) k (take m bs)) ≡ None
    by next true q = absurd (late o q h)
    by next false q = next q (shorter o h)

pub front_open : (before bytes : List ℕ) (m : ℕ) (o : Option ℕ) → name_fall before [] 4 bytes ≡ o → EndsBefore m bytes o → name_fall before [] 4 (take m bytes) ≡ None
front_open before bytes m o e h = name_front before 4 [] bytes m o e h
