-- Reading the records one after the other, as a loop does.
use Rattle.std.proofs.Common.{◌≡◌, ◌≢◌, ℕ, zero, suc, ◌+◌, ◌-◌, ◌≤◌, List, [], ◌∷◌, ◌++◌, length, map, Option, Some, None, Result, Ok, Err, refl, sym, ap, ◌∙◌, subst, arith, length-append}
use Rattle.std.proofs.lemmas.Bool.Decides.{nat_tests}
use Rattle.std.proofs.lemmas.List.{append-nil}
use Rattle.commit_journal.specs.Spelling.{records_size}
use Rattle.commit_journal.specs.Reading.{payload_at, then_more, if_some, payloads, payloads_of}
use Rattle.commit_journal.specs.declared.record.Record.{Record}
use Rattle.commit_journal.specs.Views.{located, payload_of}

-- payloads that were read before
abbrev pub with_before : List (List ℕ) → Result (List (List ℕ)) ℕ → Result (List (List ℕ)) ℕ
with_before [] read = read
with_before (p ∷ ps) read = then_more p (with_before ps read)

before-more : (ps : List (List ℕ)) (p : List ℕ) (read : Result (List (List ℕ)) ℕ) → with_before (ps ++ p ∷ []) read ≡ with_before ps (then_more p read)
before-more [] p read = refl
before-more (q ∷ ps) p read = ap (then_more q) (before-more ps p read)

before-ok : (ps qs : List (List ℕ)) → with_before ps (Ok qs) ≡ Ok (ps ++ qs)
before-ok [] qs = refl
before-ok (p ∷ ps) qs = ap (then_more p) (before-ok ps qs)

before-err : (ps : List (List ℕ)) (at : ℕ) → with_before ps (Err at) ≡ Err (records_size ps + at)
before-err [] at = let e : at ≡ 0 + at = omega arith in ap (λ n. Err n) e
before-err (p ∷ ps) at = ap (then_more p) (before-err ps at) ∙ (let e : records_size ps + at + (5 + length p) ≡ 5 + length p + records_size ps + at = omega arith in ap (λ n. Err n) e)

size-more : (ps : List (List ℕ)) (p : List ℕ) → records_size (ps ++ p ∷ []) ≡ records_size ps + (5 + length p)
size-more [] p = omega arith
size-more (q ∷ ps) p = omega (arith, size-more ps p)

located-more : (first : ℕ) (ps : List (List ℕ)) (p : List ℕ) → located first (ps ++ p ∷ []) ≡ located first ps ++ record { at = first + records_size ps; payload = p } ∷ []
located-more first [] p = let e : first ≡ first + 0 = omega arith in ap (λ n. record { at = n; payload = p } ∷ []) e
located-more first (q ∷ ps) p =
    let e : first + (5 + length q) + records_size ps ≡ first + (5 + length q + records_size ps) = omega arith in
    ap (λ (l : List Record). record { at = first; payload = q } ∷ l) (located-more (first + (5 + length q)) ps p)
    ∙ ap (λ n. record { at = first; payload = q } ∷ (located (first + (5 + length q)) ps ++ record { at = n; payload = p } ∷ [])) e

count_le : (ps : List (List ℕ)) → length ps ≤ records_size ps
count_le [] = omega arith
count_le (p ∷ ps) = omega (arith, count_le ps)

-- as far as the loop has come
pub record SoFar (first : ℕ) (bytes : List ℕ) (ps : List (List ℕ)) (at : ℕ) (rest : List ℕ) (records : List Record) : Type 0 where
  pub read : with_before ps (payloads (length bytes - length ps) rest) ≡ payloads_of bytes
  pub size : records_size ps + length rest ≡ length bytes
  pub place : at ≡ first + records_size ps
  pub located_are : records ≡ located first ps

pub starts : (first : ℕ) (bytes : List ℕ) → SoFar first bytes [] first bytes []
starts first bytes = record { read = let e : length bytes - 0 ≡ length bytes = omega arith in ap (λ n. payloads n bytes) e; size = omega arith; place = omega arith; located_are = refl }

module _ (first : ℕ) (bytes : List ℕ) (ps : List (List ℕ)) (at : ℕ) (behind : List ℕ) (records : List Record) (so_far : SoFar first bytes ps at (1 ∷ behind) records) where
  steps : length bytes - length ps ≡ suc (length bytes - (length ps + 1))
  steps = omega (arith, so_far.size, count_le ps)

  one : payloads (suc (length bytes - (length ps + 1))) (1 ∷ behind) ≡ if_some (payload_at behind) (λ x. then_more x.0 (payloads (length bytes - (length ps + 1)) x.1))
  unfolding payloads
  one = refl

  pub goes_on : (p after : List ℕ) → payload_at behind ≡ Some (p, after) → length p + length after + 4 ≡ length behind → SoFar first bytes (ps ++ p ∷ []) (at + (5 + length p)) after (records ++ record { at = at; payload = p } ∷ [])
  goes_on p after is size =
      let count : length (ps ++ p ∷ []) ≡ length ps + 1 = length-append ps (p ∷ []) in
      let step : payloads (length bytes - length ps) (1 ∷ behind) ≡ then_more p (payloads (length bytes - length (ps ++ p ∷ [])) after) =
      ap (λ n. payloads n (1 ∷ behind)) steps ∙ one ∙ ap (λ (o : Option (List ℕ × List ℕ)). if_some o (λ x. then_more x.0 (payloads (length bytes - (length ps + 1)) x.1))) is ∙ ap (λ n. then_more p (payloads (length bytes - n) after)) (sym count) in
      record {
        read = before-more ps p (payloads (length bytes - length (ps ++ p ∷ [])) after) ∙ ap (with_before ps) (sym step) ∙ so_far.read;
        size = omega (arith, so_far.size, size, size-more ps p);
        place = omega (arith, so_far.place, size-more ps p);
        located_are =
            ap (λ (l : List Record). l ++ record { at = at; payload = p } ∷ []) so_far.located_are ∙ ap (λ n. located first ps ++ record { at = n; payload = p } ∷ []) so_far.place ∙ sym (located-more first ps p);
      }

  pub is_short : payload_at behind ≡ None → (further : ℕ) × (payloads_of bytes ≡ Err further) × (at ≡ first + further)
  is_short none =
      let step : payloads (length bytes - length ps) (1 ∷ behind) ≡ Err 0 = ap (λ n. payloads n (1 ∷ behind)) steps ∙ one ∙ ap (λ (o : Option (List ℕ × List ℕ)). if_some o (λ x. then_more x.0 (payloads (length bytes - (length ps + 1)) x.1))) none in
      (records_size ps + 0, sym so_far.read ∙ ap (with_before ps) step ∙ before-err ps 0, omega (arith, so_far.place))

stops : (n : ℕ) (gate : ℕ) (rest : List ℕ) → gate ≢ 1 → payloads n (gate ∷ rest) ≡ Ok []
unfolding payloads
stops zero gate rest shut = refl
stops (suc n) gate rest shut = grind (arith, nat_tests)

ends_here : (n : ℕ) → payloads n [] ≡ Ok []
unfolding payloads
ends_here zero = refl
ends_here (suc n) = refl

pub ended : (first : ℕ) (bytes : List ℕ) (ps : List (List ℕ)) (at : ℕ) (rest : List ℕ) (records : List Record) → SoFar first bytes ps at rest records → ((behind : List ℕ) → rest ≢ 1 ∷ behind) → payloads_of bytes ≡ Ok ps
ended first bytes ps at [] records so_far never = sym so_far.read ∙ ap (with_before ps) (ends_here (length bytes - length ps)) ∙ before-ok ps [] ∙ ap (λ (l : List (List ℕ)). Ok l) (append-nil ps)
ended first bytes ps at (gate ∷ rest) records so_far never =
    let shut : gate ≢ 1 = λ is. never rest (ap (λ n. n ∷ rest) is) in
    sym so_far.read ∙ ap (with_before ps) (stops (length bytes - length ps) gate rest shut) ∙ before-ok ps [] ∙ ap (λ (l : List (List ℕ)). Ok l) (append-nil ps)

map_push : {X Y : Type 0} (f : X → Y) (xs : List X) (x : X) → map f (xs ++ x ∷ []) ≡ map f xs ++ f x ∷ []
map_push f [] x = refl
map_push f (y ∷ xs) x = ap (λ l. f y ∷ l) (map_push f xs x)

-- a record more
pub found_more : (first : ℕ) (bytes : List ℕ) (records new : List Record) (p q after : List ℕ) (at : ℕ) → new ≡ records ++ record { at = at; payload = q } ∷ [] → q ≡ p
    → SoFar first bytes (map payload_of records ++ p ∷ []) (at + (5 + length p)) after (records ++ record { at = at; payload = p } ∷ [])
    → SoFar first bytes (map payload_of new) (at + (5 + length p)) after new
found_more first bytes records new p q after at is same so_far =
    let made : new ≡ records ++ record { at = at; payload = p } ∷ [] = is ∙ ap (λ (l : List ℕ). records ++ record { at = at; payload = l } ∷ []) same in
    let ps : map payload_of new ≡ map payload_of records ++ p ∷ [] = ap (map payload_of) made ∙ map_push payload_of records (record { at = at; payload = p }) in
    subst (λ (x : List (List ℕ)). SoFar first bytes x (at + (5 + length p)) after new) (sym ps) (subst (λ (x : List Record). SoFar first bytes (map payload_of records ++ p ∷ []) (at + (5 + length p)) after x) (sym made) so_far)
