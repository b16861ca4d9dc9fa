-- The first word of a line.
use Rattle.std.proofs.Common.{◌≡◌, ℕ, ◌+◌, ◌-◌, ◌<◌, zero, suc, List, [], ◌∷◌, length, get_or, take, drop, ap, refl, arith, eq-eqb, ne_eqb, add-one}
use Rattle.std.proofs.lemmas.List.{take_rest}
use Rattle.std.proofs.lemmas.Bool.{eqb-true}
use Rattle.std.specs.List.{onto_first}
use Rattle.memchr.specs.Find.{NoneBefore, Nowhere, Passes, is_byte}
use Rattle.signal_script.specs.Lines.{words_of}

word_at : (bs : List ℕ) (i : ℕ) → i < length bs → ((k : ℕ) → k < i → get_or bs k 0 ≡ 32 → ⊥) → get_or bs i 0 ≡ 32
    → words_of bs ≡ take i bs ∷ words_of (drop (suc i) bs)
word_at [] i within before here = absurd (omega arith)
word_at (b ∷ bs) zero within before here = rw (eq-eqb b 32 here) refl
word_at (b ∷ bs) (suc i) within before here =
    rw (ne_eqb b 32 (before 0 (omega arith)))
    (ap (onto_first b) (word_at bs i (omega arith) (λ k lt. before (suc k) (omega arith)) here))

-- the first word ends at the first space
pub space_found : (bs : List ℕ) (i : ℕ) → NoneBefore (Passes (is_byte 32) bs) 0 (length bs) i × Passes (is_byte 32) bs i
    → words_of bs ≡ take i bs ∷ words_of (take (length bs - (i + 1)) (drop (i + 1) bs))
space_found bs i is = rw (take_rest bs (i + 1), add-one) (word_at bs i is.0.high (λ k lt at. is.0.before k (omega arith) lt (eq-eqb _ 32 at)) (eqb-true _ 32 is.1))

-- where there is no space, there is one word
one_word : (bs : List ℕ) → ((k : ℕ) → k < length bs → get_or bs k 0 ≡ 32 → ⊥) → words_of bs ≡ bs ∷ []
one_word [] before = refl
one_word (b ∷ bs) before =
    rw (ne_eqb b 32 (before 0 (omega arith)))
    (ap (onto_first b) (one_word bs (λ k lt. before (suc k) (omega arith))))

pub space_missing : (bs : List ℕ) → Nowhere (Passes (is_byte 32) bs) 0 (length bs) → words_of bs ≡ bs ∷ []
space_missing bs is = one_word bs (λ k lt at. is k (omega arith) lt (eq-eqb _ 32 at))
