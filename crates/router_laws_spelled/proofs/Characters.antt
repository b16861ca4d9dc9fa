-- A text in UTF-8 is a row of characters: bytes below 128, and others of several bytes from 128 on. What stands behind a byte of ASCII is UTF-8 too.
use Rattle.std.proofs.Common.{◌≡◌, ℕ, ◌+◌, ◌<◌, ◌≤◌, ◌==◌, zero, suc, Bool, true, false, List, [], ◌∷◌, ◌++◌, length, get_or, drop, refl, sym, ◌∙◌, ap, subst, arith, append-nil, inl, inr, nat_lt}
use Rattle.std.specs.List.{AllByRecursion, prefix_len}
use Rattle.std.specs.Str.{IsUtf8}
use Rattle.std.proofs.lemmas.Bool.{and_parts, cases_lt}
use Rattle.std.proofs.lemmas.Bool.Decides.{nat_tests}
use Rattle.std.proofs.lemmas.List.Sums.{prefix_len-le-length, prefix_len_passes, prefix_len_stops}
use Rattle.std.proofs.lemmas.Str.{IsCharBoundary-after_ascii, IsCharBoundary-before_ascii, IsCharBoundary-end, IsUtf8-append, IsUtf8-drop, IsUtf8-encode, encode_ascii, inside_one}
use lib.Utf8.{scalar, scalars, encode, encodes, low_scalar}

pub by_characters : (P : List ℕ → Type 0) → P [] → ((b : ℕ) (bs : List ℕ) → b < 128 → IsUtf8 bs → P bs → P (b ∷ bs)) → ((c : ℕ) (bs : List ℕ) → scalar c ≡ true → 128 ≤ c → IsUtf8 bs → P bs → P (encode c ++ bs)) → (xs : List ℕ) → IsUtf8 xs → P xs
by_characters P none low high xs is = subst P is.1.1 (each is.0 is.1.0)
  where
    each : (cs : List ℕ) → scalars cs ≡ true → P (encodes cs)
    each [] valid = none
    each (c ∷ cs) valid =
        let parts = and_parts (scalar c) (scalars cs) valid in
        let rest : IsUtf8 (encodes cs) = (cs, (parts.1, refl)) in
        elim (cases_lt c 128) [
          | inl small ↦ subst (λ front. P (front ++ encodes cs)) (sym (encode_ascii c small)) (low c (encodes cs) small rest (each cs parts.1))
          | inr large ↦ high c (encodes cs) parts.0 large rest (each cs parts.1)
        ]

pub ascii_tail : (b : ℕ) (bs : List ℕ) → b < 128 → IsUtf8 (b ∷ bs) → IsUtf8 bs
ascii_tail b bs small is = IsUtf8-drop (b ∷ bs) 1 is (IsCharBoundary-after_ascii (b ∷ bs) 0 is (omega arith) small)

pub ascii_then : (b : ℕ) (bs : List ℕ) → b < 128 → IsUtf8 bs → IsUtf8 (b ∷ bs)
ascii_then b bs small is = IsUtf8-append (b ∷ []) bs (subst IsUtf8 (encode_ascii b small) (IsUtf8-encode b (low_scalar b (omega (arith, small))))) is

-- the bytes of a character from 128 on are from 128 on
pub all_high : (c : ℕ) → 128 ≤ c → AllByRecursion (λ b. 128 ≤ b) (encode c)
all_high c large = at_each (encode c) (λ k below. high k below)
  where
    high : (k : ℕ) → k < length (encode c) → 128 ≤ get_or (encode c) k 0
    high k below = elim (cases_lt (get_or (encode c) k 0) 128) [
      | inl low ↦ absurd (clash c (get_or (encode c) k 0) large low (inside_one c [] (encode c) k (sym (append-nil (encode c))) below low))
      | inr above ↦ above
    ]
      where
        clash : (n m : ℕ) → 128 ≤ n → m < 128 → n ≡ m → ⊥
        clash n m large low same = omega (arith, large, low, same)

    at_each : (xs : List ℕ) → ((k : ℕ) → k < length xs → 128 ≤ get_or xs k 0) → AllByRecursion (λ b. 128 ≤ b) xs
    at_each [] each = tt
    at_each (x ∷ xs) each = (each 0 (omega arith), at_each xs (λ k below. each (suc k) (next k (length xs) below)))
      where
        next : (k n : ℕ) → k < n → suc k < suc n
        next k n below = omega (arith, below)

pub apart : (b n : ℕ) → 128 ≤ b → n < 128 → (b == n) ≡ false
apart b n large small = grind (arith, nat_tests, large, small)

pub no_control : (b : ℕ) → 128 ≤ b → nat_lt b 32 ≡ false
no_control b large = grind (arith, nat_tests, large)

-- what stands behind a run of bytes of ASCII
pub behind_run_of : (p : ℕ → Bool) → ((b : ℕ) → p b ≡ true → b < 128) → (xs : List ℕ) → IsUtf8 xs → IsUtf8 (drop (prefix_len p xs) xs)
behind_run_of p low xs is = by (prefix_len p xs) refl
  where
    by : (n : ℕ) → prefix_len p xs ≡ n → IsUtf8 (drop n xs)
    by zero long = is
    by (suc n) long =
        let within : n < length xs = less n (prefix_len p xs) (length xs) long (prefix_len-le-length p xs) in
        let passes = low (get_or xs n 0) (prefix_len_passes p xs n 0 (earlier n (prefix_len p xs) long)) in
        subst (λ k. IsUtf8 (drop k xs)) (more n) (IsUtf8-drop xs (n + 1) is (IsCharBoundary-after_ascii xs n is within passes))
      where
        less : (n m k : ℕ) → m ≡ suc n → m ≤ k → n < k
        less n m k same le = omega (arith, same, le)

        earlier : (n m : ℕ) → m ≡ suc n → n < m
        earlier n m same = omega (arith, same)

        more : (n : ℕ) → n + 1 ≡ suc n
        more n = omega arith

-- what begins at the first byte that fails a test, where such a byte is ASCII
pub from_stop : (p : ℕ → Bool) → ((b : ℕ) → p b ≡ false → b < 128) → (xs : List ℕ) → IsUtf8 xs → IsUtf8 (drop (prefix_len p xs) xs)
from_stop p low xs is = elim (cases_lt (prefix_len p xs) (length xs)) [
  | inl within ↦ IsUtf8-drop xs (prefix_len p xs) is (IsCharBoundary-before_ascii xs (prefix_len p xs) within (low (get_or xs (prefix_len p xs) 0) (prefix_len_stops p xs 0 within)))
  | inr whole ↦ (
      let same : length xs ≡ prefix_len p xs = equal (prefix_len p xs) (length xs) (prefix_len-le-length p xs) whole in
      subst (λ k. IsUtf8 (drop k xs)) same (IsUtf8-drop xs (length xs) is (IsCharBoundary-end xs))
      )
]
  where
    equal : (n m : ℕ) → n ≤ m → m ≤ n → m ≡ n
    equal n m one two = omega (arith, one, two)
