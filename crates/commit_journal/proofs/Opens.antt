-- A journal that was just opened.
use Rattle.std.proofs.Common.{◌≡◌, ◌≢◌, inl, inr, ⊎_elim, ℕ, ◌+◌, ◌≤◌, ◌<◌, ◌^◌, List, [], length, map, IsTrue, Some, None, Ok, refl, sym, ◌∙◌, ap, subst, arith}
use Rattle.slee_disk.specs.declared.side.Side.{Side}
use Rattle.slee_disk.specs.declared.side.Side.TheVariants.{A, B}
use Rattle.slee_disk.specs.Sides.{Sides, on}
use Rattle.slee_disk.specs.Disk.{DiskState, Looks}
use Rattle.commit_journal.specs.declared.stage.Stage.{Stage}
use Rattle.commit_journal.specs.declared.stage.Stage.TheVariants as stages
use Rattle.commit_journal.specs.declared.format.Format.TheVariants.{Two}
use Rattle.commit_journal.specs.declared.record.Record.{Record}
use Rattle.commit_journal.specs.declared.record.Found.{Found}
use Rattle.commit_journal.specs.Spelling.{FitsText, records_size}
use Rattle.commit_journal.specs.Reading.{Blank, front, first_gate, Kept, recovered}
use Rattle.commit_journal.specs.Kept.{StandsFound, AreBlank, Keeps, Stands}
use Rattle.commit_journal.specs.Views.{payload_of, located, kept_found, kept_first, IsRecovered, IsFresh}
use Rattle.commit_journal.specs.Journal.{View, payloads_on, kept_by, IsSound, IsOpenedAs}
use Rattle.commit_journal.proofs.Writes.{stands_keeps}
use Rattle.commit_journal.proofs.Sound.{payloads_on_stands, payloads_on_blank}

blank_on : (side : Side) (sides : Sides) → AreBlank sides → front (on side sides) ≡ Blank
blank_on A sides blank = blank.0
blank_on B sides blank = blank.1

pub fresh_runs : (stage : Stage) → IsFresh stage → stage ≢ stages.Stopped
fresh_runs stages.Blank fresh = λ is. cc
fresh_runs stages.Found fresh = λ is. cc
fresh_runs stages.Ready fresh = absurd fresh
fresh_runs stages.Stopped fresh = absurd fresh

fresh_not_ready : (stage : Stage) → IsFresh stage → stage ≢ stages.Ready
fresh_not_ready stages.Blank fresh = λ is. cc
fresh_not_ready stages.Found fresh = λ is. cc
fresh_not_ready stages.Ready fresh = absurd fresh
fresh_not_ready stages.Stopped fresh = absurd fresh

fresh_found : (stage : Stage) → IsFresh stage → stage ≢ stages.Blank → stage ≡ stages.Found
fresh_found stages.Blank fresh not_blank = absurd (not_blank refl)
fresh_found stages.Found fresh not_blank = refl
fresh_found stages.Ready fresh not_blank = absurd fresh
fresh_found stages.Stopped fresh not_blank = absurd fresh

module _ (f : Found) (deployment : List ℕ) (old new : DiskState) (failed : Type 0) (looks : Looks old new failed)
    (found : IsTrue old.told → IsRecovered deployment f (recovered deployment old.seen)) (stands : IsTrue old.told → f.stage ≡ stages.Found → StandsFound (kept_found f) f.end old.seen)
    (blank : IsTrue old.told → f.stage ≡ stages.Blank → AreBlank old.seen) where
  abbrev kept : Kept
  kept = kept_by f.side f.format f.generation f.deployment f.snapshot new

  with_payloads : (ps : List (List ℕ)) → payloads_on (on f.side new.seen) ≡ ps → map payload_of f.records.items ≡ ps → kept_found f ≡ kept
  with_payloads ps p q = λ i. record { side = f.side; head = record { format = f.format; generation = f.generation; deployment = f.deployment; snapshot = f.snapshot }; payloads = (q ∙ sym p) i }

  kept_is_found : IsTrue old.told → f.stage ≡ stages.Found → kept_found f ≡ kept
  kept_is_found told stage =
      let s = stands told stage in
      with_payloads (map payload_of f.records.items) (ap (λ (s : Sides). payloads_on (on f.side s)) looks.seen ∙ payloads_on_stands (kept_found f) f.end s.tail old.seen s.stands) refl

  kept_is_blank : IsTrue old.told → f.stage ≡ stages.Blank → kept_found f ≡ kept_first deployment → kept_found f ≡ kept
  kept_is_blank told stage first =
      with_payloads [] (ap (λ (s : Sides). payloads_on (on f.side s)) looks.seen ∙ payloads_on_blank (on f.side old.seen) (blank_on f.side old.seen (blank told stage))) (ap (λ (k : Kept). k.payloads) first)

  kept_is : IsTrue old.told → kept_found f ≡ kept
  kept_is told = ⊎_elim (λ x. kept_is_found told x.0) (λ x. kept_is_blank told x.0 x.2) (found told)

  told_old : IsTrue new.told → IsTrue old.told
  told_old told = subst IsTrue looks.passes.told told

  pub opened_sound : (batch : List (List ℕ)) (limit : ℕ) → batch ≡ [] → limit ≤ 268435456 → f.end < 2 ^ 63 + 23 → IsFresh f.stage → (f.stage ≡ stages.Found → FitsText f.deployment) → length f.deployment + 64 < 2 ^ 63 → (f.stage ≡ stages.Blank → (f.snapshot ≡ []) × (f.format ≡ Two) × (f.records.items ≡ []))
      → IsSound f.stage kept f.end batch limit new
  opened_sound batch limit none limited small fresh short sized first = record {
    ready = λ stage told. absurd (fresh_not_ready f.stage fresh stage);
    found = λ stage told. subst (λ (s : Sides). StandsFound kept f.end s) (sym looks.seen) (subst (λ (k : Kept). StandsFound k f.end old.seen) (kept_is (told_old told)) (stands (told_old told) stage));
    blank = λ stage told. subst AreBlank (sym looks.seen) (blank (told_old told) stage);
    idle = λ _. none;
    first = λ stage. (first stage).0;
    current = ⊎_elim (λ stage. absurd (fresh_not_ready f.stage fresh stage)) (λ stage. (first stage).1);
    short = λ not_blank. short (fresh_found f.stage fresh not_blank);
    sized = sized;
    room = omega (arith, ap records_size none, small);
    limited = limited;
  }

  pub opened_as : {D : Type 0} (disk : D) (batch : List (List ℕ)) (count : ℕ) (records : List Record) (limit : ℕ) → IsTrue old.told
      → IsOpenedAs deployment (recovered deployment old.seen) (record { disk = disk; stage = f.stage; kept = kept; batch = batch; length = count; records = records; limit = limit })
  opened_as {D = D} disk batch count records limit told =
      let v : View D = record { disk = disk; stage = f.stage; kept = kept; batch = batch; length = count; records = records; limit = limit } in
      let of_found : (f.stage ≡ stages.Found) × (recovered deployment old.seen ≡ Ok (Some (kept_found f))) → IsOpenedAs deployment (recovered deployment old.seen) v = λ x.
      inl (x.0, x.1 ∙ ap (λ (k : Kept). Ok (Some k)) (kept_is told)) in
      let of_blank : (f.stage ≡ stages.Blank) × (recovered deployment old.seen ≡ Ok None) × (kept_found f ≡ kept_first deployment) → IsOpenedAs deployment (recovered deployment old.seen) v = λ x.
      inr (x.0, x.1, sym (kept_is told) ∙ x.2) in
      ⊎_elim of_found of_blank (found told)

  pub opened_seen : f.deployment ≡ deployment → IsTrue old.told → Stands f.stage kept old.seen
  opened_seen named told =
      let of_found : (f.stage ≡ stages.Found) × (recovered deployment old.seen ≡ Ok (Some (kept_found f))) → Stands f.stage kept old.seen = λ x.
      let s = stands told x.0 in
      subst (λ (s : Stage). Stands s kept old.seen) (sym x.0) (subst (λ (k : Kept). Keeps k old.seen) (kept_is told) (stands_keeps (kept_found f) f.end s.tail old.seen s.stands)) in
      let of_blank : (f.stage ≡ stages.Blank) × (recovered deployment old.seen ≡ Ok None) × (kept_found f ≡ kept_first deployment) → Stands f.stage kept old.seen = λ x.
      subst (λ (s : Stage). Stands s kept old.seen) (sym x.0) (subst (λ (d : List ℕ). recovered d old.seen ≡ Ok None) (sym named) x.1) in
      ⊎_elim of_found of_blank (found told)

  pub opened_records : f.records.items ≡ located (first_gate (kept_found f).head) (map payload_of f.records.items) → IsTrue old.told → f.records.items ≡ located (first_gate kept.head) kept.payloads
  opened_records are told = subst (λ (k : Kept). f.records.items ≡ located (first_gate k.head) k.payloads) (kept_is told) are
