-- The first byte of a word that has to be escaped.
use Rattle.std.proofs.Common.{◌≡◌, ℕ, zero, suc, ◌+◌, ◌<◌, ◌≤◌, true, false, List, [], ◌∷◌, ◌++◌, length, take, drop, get_or, refl, sym, ◌∙◌, ap, arith, Option, Some, None, Result, Ok, IsErr}
use Rattle.std.specs.List.{position, position_or_len}
use Rattle.std.proofs.lemmas.Grind.{common_steps}
use Rattle.std.proofs.lemmas.List.Quantifiers.{position-Some}
use Rattle.std.proofs.lemmas.List.Sums.{fails_before_first}
use Rattle.slee_disk.specs.Writes.{Writes}
use Rattle.slee_disk.proofs.WritesLemmas.{writes_stop, writes_then, writes_as}
use Rattle.slee_value.specs.Escape.{escaped, is_escaped, escape_of, spelled_byte}

plain_byte : (b : ℕ) → is_escaped true b ≡ false → spelled_byte true b ≡ b ∷ []
plain_byte b plain = rw plain refl

escaped_byte : (b : ℕ) → is_escaped true b ≡ true → spelled_byte true b ≡ escape_of b
escaped_byte b special = rw special refl

-- bytes that have to be escaped nowhere before a place
parted : (bytes : List ℕ) (at : ℕ) → at < length bytes → is_escaped true (get_or bytes at 0) ≡ true → ((k : ℕ) → k < at → is_escaped true (get_or bytes k 0) ≡ false)
    → escaped true bytes ≡ take at bytes ++ (escape_of (get_or bytes at 0) ++ escaped true (drop (at + 1) bytes))
parted [] at within special plain = absurd (omega (arith, within))
parted (b ∷ bs) zero within special plain = ap (λ (l : List ℕ). l ++ escaped true bs) (escaped_byte b special)
parted (b ∷ bs) (suc at) within special plain =
    ap (λ (l : List ℕ). l ++ escaped true bs) (plain_byte b (plain 0 (omega arith)))
    ∙ ap (λ (l : List ℕ). b ∷ l) (parted bs at (omega (arith, within)) special (λ k less. plain (suc k) (omega (arith, less))))
    ∙ ap (λ (n : ℕ). b ∷ take at bs ++ (escape_of (get_or bs at 0) ++ escaped true (drop n (b ∷ bs)))) next
  where
    next : suc (at + 1) ≡ suc at + 1
    next = omega arith

plain_all : (bytes : List ℕ) → ((k : ℕ) → k < length bytes → is_escaped true (get_or bytes k 0) ≡ false) → escaped true bytes ≡ bytes
plain_all [] plain = refl
plain_all (b ∷ bs) plain =
    ap (λ (l : List ℕ). l ++ escaped true bs) (plain_byte b (plain 0 (omega arith)))
    ∙ ap (λ (l : List ℕ). b ∷ l) (plain_all bs (λ k less. plain (suc k) (omega (arith, less))))

pub within : (bytes : List ℕ) (at : ℕ) → position (is_escaped true) bytes ≡ Some at → at < length bytes
within bytes at found = (position-Some (is_escaped true) bytes at 0 found).0

-- what stands before that byte, the byte, and what stands behind it
pub run_text : (bytes : List ℕ) (at : ℕ) → position (is_escaped true) bytes ≡ Some at
    → take at bytes ++ (escape_of (get_or bytes at 0) ++ escaped true (drop (at + 1) bytes)) ≡ escaped true bytes
run_text bytes at found =
    let first = position-Some (is_escaped true) bytes at 0 found in
    sym (parted bytes at first.0 first.1 first.2)

pub plain_text : (bytes : List ℕ) → position (is_escaped true) bytes ≡ None → bytes ≡ escaped true bytes
plain_text bytes none =
    let all : length bytes ≤ position_or_len (is_escaped true) bytes = grind (arith, common_steps) in
    sym (plain_all bytes (λ k less. fails_before_first (is_escaped true) bytes k 0 (omega arith)))

-- ---- the writes of a run

module _ {K T S E F : Type 0} (contents : K → Option (List ℕ)) (faults : K → ℕ) (old mid new : K) (bytes : List ℕ) (at : ℕ) (found : position (is_escaped true) bytes ≡ Some at) (r : Result S F) where
  -- the plain bytes couldn't be written
  pub plain_stops : (q : Result T E) → IsErr q → IsErr r → Writes contents faults old new (take at bytes) q → Writes contents faults old new (escaped true bytes) r
  plain_stops q bad worse w =
      writes_as contents faults old new _ _ r (run_text bytes at found)
      (writes_stop contents faults old new (take at bytes) (escape_of (get_or bytes at 0) ++ escaped true (drop (at + 1) bytes)) q r bad worse w)

  -- they are out, and the escape couldn't be written
  pub escape_stops : (x : T) (q : Result T E) → IsErr q → IsErr r → Writes {E = E} contents faults old mid (take at bytes) (Ok x)
      → Writes contents faults mid new (escape_of (get_or bytes at 0)) q → Writes contents faults old new (escaped true bytes) r
  escape_stops x q bad worse w more =
      writes_as contents faults old new _ _ r (run_text bytes at found)
      (writes_then contents faults old mid new (take at bytes) (escape_of (get_or bytes at 0) ++ escaped true (drop (at + 1) bytes)) x r w
      (writes_stop contents faults mid new (escape_of (get_or bytes at 0)) (escaped true (drop (at + 1) bytes)) q r bad worse more))

  -- both are out, and the rest was written
  pub run_goes_on : (last : K) (x y : T) → Writes {E = E} contents faults old mid (take at bytes) (Ok x) → Writes {E = E} contents faults mid last (escape_of (get_or bytes at 0)) (Ok y)
      → Writes contents faults last new (escaped true (drop (at + 1) bytes)) r → Writes contents faults old new (escaped true bytes) r
  run_goes_on last x y w more rest =
      writes_as contents faults old new _ _ r (run_text bytes at found)
      (writes_then contents faults old mid new (take at bytes) (escape_of (get_or bytes at 0) ++ escaped true (drop (at + 1) bytes)) x r w
      (writes_then contents faults mid last new (escape_of (get_or bytes at 0)) (escaped true (drop (at + 1) bytes)) y r more rest))
