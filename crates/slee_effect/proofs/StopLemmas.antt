-- Reading a name stops at the first byte that can't go on.
use Rattle.std.proofs.Common.{◌≡◌, ℕ, ◌+◌, ◌-◌, ◌<◌, List, [], ◌∷◌, ◌++◌, length, take, Option, refl, sym, ap, subst, ◌∙◌, append_assoc, arith}
use Rattle.std.specs.List.{AllByRecursion}
use Rattle.std.proofs.lemmas.List.{take_at, length-append}
use Rattle.slee_value.specs.Bytes.{spelled_text, FitsText}
use Rattle.slee_value.specs.Reading.{Fault}
use Rattle.slee_value.proofs.ReadLemmas.{AreBytes, Begins, IsStuckBy}
use Rattle.slee_effect.specs.Names.{BeginsNext, IsFirstFault, StopsFirst}
use Rattle.slee_effect.proofs.NameReading.{FitsName, name_stuck, stuck_begins}

bytes_of : (bytes : List ℕ) → AllByRecursion (λ (b : ℕ). b < 256) bytes → AreBytes bytes
bytes_of [] h = tt
bytes_of (b ∷ bytes) h = (h.0, bytes_of bytes h.1)

next_of : (before : Option (List ℕ)) (front : List ℕ) → Begins spelled_text (FitsName before) front → BeginsNext before front
next_of before front b = (b.0, b.1, b.2.0, b.2.1, b.3)

of_next : (before : Option (List ℕ)) (front : List ℕ) → BeginsNext before front → Begins spelled_text (FitsName before) front
of_next before front b = (b.0, b.1, (b.2, b.3), b.4)

first_fault : (before : Option (List ℕ)) (bytes : List ℕ) (left : ℕ) → (s : IsStuckBy spelled_text (FitsName before) FitsText bytes left) → (0 < length s.front → Begins spelled_text (FitsName before) s.front) → IsFirstFault before bytes (length bytes - left)
first_fault before bytes left s begins =
    let len : length bytes ≡ length s.front + length s.back = ap length s.parts ∙ length-append s.front s.back in
    let at : length bytes - left ≡ length s.front = omega (arith, s.left_is) in
    let front : take (length bytes - left) bytes ≡ s.front = rw at (ap (take (length s.front)) s.parts ∙ take_at s.front s.back (length s.front) refl) in
    record {
      within = omega arith;
      begins = λ some. subst (BeginsNext before) (sym front) (next_of before s.front (begins (omega arith)));
      ends = λ more. first_ends bytes s.front s.back (length bytes - left) at s.parts more s.ends;
    }
  where
    first_ends : (bytes front back : List ℕ) (at : ℕ) → at ≡ length front → bytes ≡ front ++ back → at < length bytes → ((b : ℕ) (more : List ℕ) → back ≡ b ∷ more → ¬ (Begins spelled_text (FitsName before) (front ++ b ∷ []))) → ¬ (BeginsNext before (take (at + 1) bytes))
    first_ends bytes front [] at e parts more ends = absurd (omega (arith, ap length parts, length-append front []))
    first_ends bytes front (b ∷ back) at e parts more ends =
        let all : bytes ≡ (front ++ b ∷ []) ++ back = parts ∙ sym (append_assoc front (b ∷ []) back) in
        let len : length (front ++ b ∷ []) ≡ at + 1 = omega (arith, length-append front (b ∷ [])) in
        let cut : take (at + 1) bytes ≡ front ++ b ∷ [] = ap (take (at + 1)) all ∙ take_at (front ++ b ∷ []) back (at + 1) len in
        subst (λ (t : List ℕ). ¬ (BeginsNext before t)) (sym cut) (λ q. ends b back refl (of_next before (front ++ b ∷ []) q))

pub stops_first : (before : Option (List ℕ)) (bytes : List ℕ) (f : Fault) → StopsFirst before bytes f
stops_first before bytes f u h e =
    let s = name_stuck before bytes f (bytes_of bytes h) e in
    first_fault before bytes f.left s (stuck_begins before bytes f e s u)
