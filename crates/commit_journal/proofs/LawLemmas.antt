-- The spelling of sides and the reading of them are one.
use Rattle.std.proofs.Common.{◌≡◌, ◌≢◌, ◌⊎◌, inl, inr, ℕ, zero, suc, ◌+◌, Bool, true, false, cond, eqb, List, [], ◌∷◌, ◌++◌, length, Option, Some, None, Result, Ok, Err, refl, sym, ◌∙◌, ap, arith, append_assoc}
use Rattle.std.specs.List.{flat_map}
use Rattle.std.specs.Str.{bytes_eq}
use Rattle.std.proofs.lemmas.Bool.{cases_eq}
use Rattle.std.proofs.lemmas.Bool.Decides.{nat_tests}
use Rattle.std.proofs.lemmas.List.Concat.{flat_map-cons}
use Rattle.std.proofs.lemmas.Slice.Eq.{bytes_eq-Decides}
use Rattle.slee_disk.specs.declared.side.Side.{Side}
use Rattle.slee_disk.specs.declared.side.Side.TheVariants.{A, B}
use Rattle.slee_disk.specs.Sides.{Sides, on}
use Rattle.slee_value.specs.Bytes.{spelled_bytes}
use Rattle.commit_journal.specs.Spelling.{Head, recorded, spelled, FitsText, records_size}
use Rattle.commit_journal.specs.Reading.{payload_at, then_more, if_some, payloads, payloads_of, Front, Blank, NoHeader, Header, header_or_not, front, Counting, Neither, Counts, NotOne, counting, first_difference, first_gate, Wrong, Other, Kept, with_records, with_front, with_counting, recovered}
use Rattle.commit_journal.specs.Kept.{StandsFound}
use Rattle.commit_journal.specs.Laws.{IsBytes, BeginsWith, AreRecords, AreShort}
use Rattle.commit_journal.proofs.Sizes.{length-spelled}
use Rattle.commit_journal.proofs.Spelled.{payload_again, header_again, front_open, payloads_again}
use Rattle.commit_journal.proofs.Spelt.{payload_takes, front_takes, payloads_take}
use Rattle.commit_journal.proofs.Recovers.{records_ok, stands_in, on_front}

-- ---- what is spelled is read

pub headers_read : (head : Head) (rest bytes : List ℕ) → BeginsWith head rest bytes → front bytes ≡ Header head rest
headers_read head [] bytes begins = absurd (begins.some refl)
headers_read head (gate ∷ rest) bytes begins = ap front begins.parts ∙ front_open head (gate ∷ rest) ∙ ap header_or_not (header_again head gate rest begins.fits)

pub records_read : (ps : List (List ℕ)) (bytes : List ℕ) → AreRecords ps bytes → payloads_of bytes ≡ Ok ps
records_read ps bytes are = ap payloads_of are.parts ∙ payloads_again (length (flat_map recorded ps ++ are.gate ∷ are.tail)) ps are.gate are.tail are.fits are.shut (omega arith)

-- ---- what is read was spelled

pub headers_spelled : (head : Head) (rest bytes : List ℕ) → IsBytes bytes → front bytes ≡ Header head rest → BeginsWith head rest bytes
headers_spelled head rest bytes are read =
    let t = front_takes bytes head rest are read in
    record { parts = t.0; fits = t.1; some = λ none. (let is = sym t.5 ∙ none in cc) }

pub records_spelled : (ps : List (List ℕ)) (bytes : List ℕ) → IsBytes bytes → bytes ≢ [] → payloads_of bytes ≡ Ok ps → AreRecords ps bytes
records_spelled ps [] are some read = absurd (some refl)
records_spelled ps (gate ∷ bytes) are some read = payloads_take (suc (length bytes)) gate bytes ps (λ i. are (suc i)) (omega arith) read

err_is : {A E : Type 0} (x y : E) → ◌≡◌ {A = Result A E} (Err x) (Err y) → x ≡ y
err_is x y e = cc

more_err : (p : List ℕ) (r : Result (List (List ℕ)) ℕ) (at : ℕ) → then_more p r ≡ Err at → (further : ℕ) × (r ≡ Err further) × (at ≡ further + (5 + length p))
more_err p (Ok qs) at e = absurd cc
more_err p (Err further) at e = (further, refl, sym (err_is (further + (5 + length p)) at e))

if_err : (o : Option (List ℕ × List ℕ)) (f : List ℕ × List ℕ → Result (List (List ℕ)) ℕ) (at : ℕ) → if_some o f ≡ Err at → ((o ≡ None) × (at ≡ 0)) ⊎ ((x : List ℕ × List ℕ) × (o ≡ Some x) × (f x ≡ Err at))
if_err None f at e = inl (refl, sym (err_is 0 at e))
if_err (Some x) f at e = inr (x, refl, e)

no_payload : (bytes payload rest : List ℕ) → payload_at bytes ≡ None → FitsText payload → rest ≢ [] → bytes ≢ spelled_bytes payload ++ rest
no_payload bytes payload [] none fits some = absurd (some refl)
no_payload bytes payload (gate ∷ rest) none fits some = λ is. (let found = sym none ∙ ap payload_at is ∙ payload_again payload gate rest fits in cc)

cond_is : {A : Type 0} (b c : Bool) (x y : A) → b ≡ c → cond b x y ≡ cond c x y
cond_is b c x y e = ap (λ t. cond t x y) e

pub short_stands : (steps : ℕ) (bytes : List ℕ) (at : ℕ) → IsBytes bytes → payloads steps bytes ≡ Err at → AreShort at bytes
unfolding payloads
short_stands zero bytes at are e = absurd cc
short_stands (suc steps) [] at are e = absurd cc
short_stands (suc steps) (gate ∷ bytes) at are e =
    let f : List ℕ × List ℕ → Result (List (List ℕ)) ℕ = λ x. then_more x.0 (payloads steps x.1) in
    elim (cases_eq gate 1) [
      | inl is_open ↦
          let yes : eqb gate 1 ≡ true = ap (λ n. eqb n 1) is_open in
          let fits : IsBytes bytes = λ i. are (suc i) in
          elim (if_err (payload_at bytes) f at (sym (cond_is (eqb gate 1) true (if_some (payload_at bytes) f) (Ok []) yes) ∙ e)) [
            | inl none ↦ record { payloads = []; behind = bytes; parts = ap (λ n. n ∷ bytes) is_open; place = none.1; short = λ payload rest fits some. no_payload bytes payload rest none.0 fits some }
            | inr found ↦
                let t = payload_takes bytes found.0.0 found.0.1 fits found.1 in
                let m = more_err found.0.0 (payloads steps found.0.1) at found.2 in
                let others = short_stands steps found.0.1 m.0 t.2 m.1 in
                record {
                  payloads = found.0.0 ∷ others.payloads;
                  behind = others.behind;
                  parts =
                      ap (λ n. n ∷ bytes) is_open ∙ ap (λ (l : List ℕ). 1 ∷ l) (t.0 ∙ ap (λ (l : List ℕ). spelled_bytes found.0.0 ++ l) others.parts ∙ sym (append_assoc (spelled_bytes found.0.0) (flat_map recorded others.payloads) (1 ∷ others.behind)))
                      ∙ ap (λ (l : List ℕ). l ++ 1 ∷ others.behind) (sym (flat_map-cons recorded found.0.0 others.payloads));
                  place = omega (arith, m.2, others.place);
                  short = others.short;
                }
          ]
      | inr shut ↦
          let nothing : payloads (suc steps) (gate ∷ bytes) ≡ Ok [] = grind (arith, nat_tests) in
          absurd (let no_error = sym nothing ∙ e in cc)
    ]

-- ---- two sides

sides_counting : (deployment : List ℕ) (sides : Sides) (kept : Kept) (c : Counting) → counting (front sides.a) (front sides.b) ≡ c → with_counting deployment (front sides.a) (front sides.b) c ≡ Ok (Some kept)
    → (side : Side) × (counting (front sides.a) (front sides.b) ≡ Counts side) × (with_front deployment side (front (on side sides)) ≡ Ok (Some kept))
sides_counting deployment sides kept Neither is e = absurd cc
sides_counting deployment sides kept (NotOne side kind) is e = absurd cc
sides_counting deployment sides kept (Counts A) is e = (A, is, e)
sides_counting deployment sides kept (Counts B) is e = (B, is, e)

front_header : (deployment : List ℕ) (side : Side) (kept : Kept) (f : Front) → with_front deployment side f ≡ Ok (Some kept) → (head : Head) × (gates : List ℕ) × (f ≡ Header head gates) × (with_records deployment side head (payloads_of gates) ≡ Ok (Some kept))
front_header deployment side kept Blank e = absurd cc
front_header deployment side kept NoHeader e = absurd cc
front_header deployment side kept (Header head gates) e = (head, gates, refl, e)

test_true : (t : Bool) (x : Result (Option Kept) Wrong) (w : Wrong) (kept : Kept) → cond t x (Err w) ≡ Ok (Some kept) → t ≡ true
test_true true x w kept e = refl
test_true false x w kept e = absurd cc

records_named : (deployment : List ℕ) (side : Side) (head : Head) (r : Result (List (List ℕ)) ℕ) (kept : Kept) → with_records deployment side head r ≡ Ok (Some kept) → head.deployment ≡ deployment
records_named deployment side head (Err at) kept e = absurd cc
records_named deployment side head (Ok ps) kept e = (bytes_eq-Decides head.deployment deployment).0 (test_true (bytes_eq head.deployment deployment) (Ok (Some (record { side = side; head = head; payloads = ps }))) (Other (length head.deployment) (first_difference head.deployment deployment)) kept e)

pub sides_spelled : (deployment : List ℕ) (kept : Kept) (sides : Sides) → ((side : Side) → IsBytes (on side sides)) → recovered deployment sides ≡ Ok (Some kept)
    → (kept.head.deployment ≡ deployment) × StandsFound kept (length (spelled kept.head kept.payloads)) sides
unfolding recovered
sides_spelled deployment kept sides are read =
    let c = sides_counting deployment sides kept (counting (front sides.a) (front sides.b)) refl read in
    let f = front_header deployment c.0 kept (front (on c.0 sides)) c.2 in
    let made = records_ok deployment c.0 f.0 (payloads_of f.1) kept f.3 in
    let head : f.0 ≡ kept.head = ap (λ (k : Kept). k.head) made.2 in
    let end : length (spelled kept.head kept.payloads) ≡ first_gate f.0 + records_size kept.payloads = omega (arith, length-spelled kept.head kept.payloads, ap first_gate head) in (
      ap (λ (h : Head). h.deployment) (sym head) ∙ records_named deployment c.0 f.0 (payloads_of f.1) kept f.3,
      stands_in deployment sides c.0 f.0 f.1 kept (length (spelled kept.head kept.payloads)) (are c.0) c.1 (on_front c.0 sides ∙ f.2) f.3 end,
    )
