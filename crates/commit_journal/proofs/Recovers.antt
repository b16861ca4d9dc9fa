-- What two sides stand for, as it is read.
use Rattle.std.proofs.Common.{◌≡◌, ℕ, suc, ◌+◌, ◌^◌, ◌<◌, ◌≤◌, Bool, true, false, cond, eqb, ltb, List, [], ◌∷◌, ◌++◌, length, get_or, Option, Some, None, Result, Ok, Err, IfOk, IfErr, refl, sym, ap, subst, ◌∙◌, append_assoc, arith, length-append}
use Rattle.std.specs.Str.{bytes_eq}
use Rattle.std.specs.List.{flat_map}
use Rattle.slee_disk.specs.declared.side.Side.{Side}
use Rattle.slee_disk.specs.declared.side.Side.TheVariants.{A, B}
use Rattle.slee_disk.specs.Sides.{Sides, on}
use Rattle.commit_journal.specs.declared.format.Format.TheVariants.{Two}
use Rattle.commit_journal.specs.declared.fault.JournalBad.{JournalBad}
use Rattle.commit_journal.specs.declared.fault.JournalBad.TheVariants as kinds
use Rattle.commit_journal.specs.Spelling.{Head, FitsHead, recorded, header, spelled, records_size}
use Rattle.commit_journal.specs.Reading.{payloads, payloads_of, first_difference, first_gate, Front, Blank, NoHeader, Header, next, by_generations, front, Neither, Counts, NotOne, counting, Bad, Other, Kept, with_records, with_front, with_counting, recovered}
use Rattle.commit_journal.specs.Kept.{StandsIn, StandsFound}
use Rattle.commit_journal.specs.Views.{front_on, kept_first}
use Rattle.commit_journal.proofs.Counting.{chosen}
use Rattle.commit_journal.proofs.Sizes.{length-header, length-spelled}
use Rattle.commit_journal.specs.Laws.{IsBytes}
use Rattle.commit_journal.proofs.Spelt.{front_takes, payloads_take}

pub if_ok : {T E : Type 0} (r : Result T E) (P Q : T → Type 0) → IfOk r P → ((x : T) → P x → Q x) → IfOk r Q
if_ok (Ok x) P Q p so = so x p
if_ok (Err e) P Q p so = tt

pub if_err : {T E : Type 0} (r : Result T E) (P Q : E → Type 0) → IfErr r P → ((x : E) → P x → Q x) → IfErr r Q
if_err (Ok x) P Q p so = tt
if_err (Err e) P Q p so = so e p

pub reads_wrong : (deployment : List ℕ) (sides : Sides) (side : Side) (kind : JournalBad) → counting (front sides.a) (front sides.b) ≡ NotOne side kind → recovered deployment sides ≡ Err (Bad side 0 kind)
unfolding recovered
reads_wrong deployment sides side kind e = ap (with_counting deployment (front sides.a) (front sides.b)) e

pub reads_nothing : (deployment : List ℕ) (sides : Sides) → counting (front sides.a) (front sides.b) ≡ Neither → recovered deployment sides ≡ Ok None
unfolding recovered
reads_nothing deployment sides e = ap (with_counting deployment (front sides.a) (front sides.b)) e

pub on_front : (side : Side) (sides : Sides) → front_on side (front sides.a) (front sides.b) ≡ front (on side sides)
on_front A sides = refl
on_front B sides = refl

pub reads_records : (deployment : List ℕ) (sides : Sides) (side : Side) (head : Head) (gates : List ℕ) → counting (front sides.a) (front sides.b) ≡ Counts side → front_on side (front sides.a) (front sides.b) ≡ Header head gates
    → recovered deployment sides ≡ with_records deployment side head (payloads_of gates)
reads_records deployment sides side head gates counts begins = chosen deployment side sides counts ∙ ap (with_front deployment side) (sym (on_front side sides) ∙ begins)

ok_some : {A E : Type 0} (x y : A) → ◌≡◌ {A = Result (Option A) E} (Ok (Some x)) (Ok (Some y)) → x ≡ y
ok_some x y e = cc

pub records_ok : (deployment : List ℕ) (side : Side) (head : Head) (r : Result (List (List ℕ)) ℕ) (k : Kept) → with_records deployment side head r ≡ Ok (Some k)
    → (ps : List (List ℕ)) × (r ≡ Ok ps) × (record { side = side; head = head; payloads = ps } ≡ k)
records_ok deployment side head (Err at) k e = absurd cc
records_ok deployment side head (Ok ps) k e = (ps, refl, same (bytes_eq head.deployment deployment) e)
  where
    same : (t : Bool) → cond t (Ok (Some (record { side = side; head = head; payloads = ps }))) (Err (Other (length head.deployment) (first_difference head.deployment deployment))) ≡ Ok (Some k) → record { side = side; head = head; payloads = ps } ≡ k
    same true e = ok_some (record { side = side; head = head; payloads = ps }) k e
    same false e = absurd cc

pub stands_in : (deployment : List ℕ) (sides : Sides) (side : Side) (head : Head) (gates : List ℕ) (k : Kept) (end : ℕ) → IsBytes (on side sides) → counting (front sides.a) (front sides.b) ≡ Counts side
    → front_on side (front sides.a) (front sides.b) ≡ Header head gates → with_records deployment side head (payloads_of gates) ≡ Ok (Some k) → end ≡ first_gate head + records_size k.payloads → StandsFound k end sides
stands_in deployment sides side head gates k end fits counts begins kept place =
    let f = front_takes (on side sides) head gates fits (sym (on_front side sides) ∙ begins) in
    let r = records_ok deployment side head (payloads_of gates) k kept in
    let made : Kept = record { side = side; head = head; payloads = r.0 } in
    let read : payloads (suc (length f.4)) (f.3 ∷ f.4) ≡ Ok r.0 = sym (ap payloads_of f.5) ∙ r.1 in
    let more : IsBytes f.4 = λ i. subst (λ (l : List ℕ). get_or l (suc i) 0 < 256) f.5 (f.2 (suc i)) in
    let t = payloads_take (suc (length f.4)) f.3 f.4 r.0 more (omega arith) read in
    let here : on side sides ≡ spelled head r.0 ++ t.gate ∷ t.tail =
    f.0 ∙ ap (λ (l : List ℕ). 1 ∷ (header head ++ l)) (f.5 ∙ t.parts) ∙ ap (λ (l : List ℕ). 1 ∷ l) (sym (append_assoc (header head) (flat_map recorded r.0) (t.gate ∷ t.tail))) in
    let size_is = length-spelled head r.0 in
    let place_is : end ≡ length (spelled head r.0) = omega (arith, place, size_is, ap (λ (q : Kept). records_size q.payloads) r.2) in
    record { tail = t.tail; stands = subst (λ (q : Kept). StandsIn q end t.tail sides) r.2 (record { gate = t.gate; shut = t.shut; here = here; place = place_is; counts = counts; fits_head = f.1; fits = t.fits }) }

pub header_fits : (sides : Sides) (side : Side) (head : Head) (gates : List ℕ) → IsBytes (on side sides) → front_on side (front sides.a) (front sides.b) ≡ Header head gates → length head.deployment + length head.snapshot + length gates ≤ length (on side sides)
header_fits sides side head gates fits begins =
    let f = front_takes (on side sides) head gates fits (sym (on_front side sides) ∙ begins) in
    omega (arith, ap length f.0, length-append (header head) gates, length-header head)

pub bytes_on : (side : Side) (a b : List ℕ) → IsBytes a → IsBytes b → IsBytes (on side (record { a = a; b = b }))
bytes_on A a b p q = p
bytes_on B a b p q = q

pub short_on : (side : Side) (a b : List ℕ) → length a < 2 ^ 63 → length b < 2 ^ 63 → length (on side (record { a = a; b = b })) < 2 ^ 63
short_on A a b p q = p
short_on B a b p q = q

pub same_first : (d e s : List ℕ) (ps : List (List ℕ)) → d ≡ e → s ≡ [] → ps ≡ [] → ◌≡◌ {A = Kept} (record { side = A; head = record { format = Two; generation = 1; deployment = d; snapshot = s }; payloads = ps }) (kept_first e)
same_first d e s ps p q r = λ i. record { side = A; head = record { format = Two; generation = 1; deployment = p i; snapshot = q i }; payloads = r i }

no_neither : (x y z w : Bool) → cond x (NotOne B kinds.Sides) (cond y (Counts A) (cond z (Counts B) (cond w (Counts A) (Counts B)))) ≡ Neither → ⊥
no_neither true y z w e = cc
no_neither false true z w e = cc
no_neither false false true w e = cc
no_neither false false false true e = cc
no_neither false false false false e = cc

never_neither : (a b : ℕ) → by_generations a b ≡ Neither → ⊥
unfolding by_generations
never_neither a b e = no_neither (eqb a b) (eqb (next b) a) (eqb (next a) b) (ltb b a) e

pub both_blank : (a b : Front) → counting a b ≡ Neither → (a ≡ Blank) × (b ≡ Blank)
both_blank Blank Blank e = (refl, refl)
both_blank Blank NoHeader e = absurd cc
both_blank Blank (Header h r) e = absurd cc
both_blank NoHeader b e = absurd cc
both_blank (Header h r) Blank e = absurd cc
both_blank (Header h r) NoHeader e = absurd cc
both_blank (Header h r) (Header k q) e = absurd (never_neither h.generation k.generation e)

-- a header that was read has a spelling
pub head_fits : (sides : Sides) (side : Side) (head : Head) (gates : List ℕ) → IsBytes (on side sides) → front_on side (front sides.a) (front sides.b) ≡ Header head gates → FitsHead head
head_fits sides side head gates fits begins = (front_takes (on side sides) head gates fits (sym (on_front side sides) ∙ begins)).1
