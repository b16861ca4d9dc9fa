-- A journal that is renewed.
use Rattle.std.proofs.Common.{◌≡◌, ◌≢◌, inl, ℕ, ◌≤◌, ◌<◌, ◌^◌, List, [], ◌∷◌, ◌++◌, length, IsTrue, refl, sym, ◌∙◌, ap, subst, arith}
use Rattle.std.proofs.lemmas.List.{append-nil}
use Rattle.slee_disk.specs.declared.side.Side.{Side}
use Rattle.slee_disk.specs.Sides.{Sides, on, other}
use Rattle.slee_disk.specs.Disk.{DiskState, LeavesOnly, is_clean}
use Rattle.slee_disk.proofs.Moments.{leaves_what}
use Rattle.commit_journal.specs.declared.format.Format.TheVariants.{Two}
use Rattle.commit_journal.specs.declared.stage.Stage.{Stage}
use Rattle.commit_journal.specs.declared.stage.Stage.TheVariants.{Ready, Found, Stopped}
use Rattle.commit_journal.specs.declared.stage.Stage.TheVariants as stages
use Rattle.commit_journal.specs.declared.record.Record.{Record}
use Rattle.commit_journal.specs.Spelling.{header, FitsHead, records_size, size}
use Rattle.commit_journal.specs.Reading.{Kept}
use Rattle.commit_journal.specs.Gate.{IsOpened}
use Rattle.commit_journal.specs.Rewriting.{IsRewritten}
use Rattle.commit_journal.specs.Kept.{StandsIn, Stands, with_more, side_renewed, generation_renewed, renewed, StandsOrRenewed}
use Rattle.commit_journal.specs.Renewal.{LeavesRenewed}
use Rattle.commit_journal.specs.Journal.{View, payloads_on, kept_by, IsSound, IsDurable, IsSameSide, GoesOn}
use Rattle.commit_journal.proofs.Rewrites.{first_stands, first_image, next_stands, next_image}
use Rattle.commit_journal.proofs.Sound.{kept_on, nothing_done}
use Rattle.commit_journal.proofs.Begins.{idle_leaves, ready_on, durable_on, same_payloads, ready_idle, length-behind}

-- ---- by how far the journal has come

pub renewed_stands : (stage : Stage) (kept : Kept) (end : ℕ) (batch : List (List ℕ)) (limit : ℕ) (old : DiskState) (snapshot behind : List ℕ) → IsSound stage kept end batch limit old → stage ≢ Stopped
    → FitsHead (renewed stage kept snapshot).head → behind ≡ header (renewed stage kept snapshot).head ++ 0 ∷ [] → IsTrue old.told → (new : Sides)
    → IsOpened (renewed stage kept snapshot).side [] behind (on (other (renewed stage kept snapshot).side) old.seen) new → StandsIn (renewed stage kept snapshot) (length behind) [] new
renewed_stands stages.Blank kept end batch limit old snapshot behind sound running fits is told new opened =
    first_stands kept.side (renewed stages.Blank kept snapshot).head behind fits is old.seen (sound.blank refl told) new opened.here opened.elsewhere
renewed_stands stages.Found kept end batch limit old snapshot behind sound running fits is told new opened =
    let found = sound.found refl told in
    next_stands (other kept.side) (renewed stages.Found kept snapshot).head behind fits is kept end found.tail old.seen refl refl found.stands new opened.here opened.elsewhere
renewed_stands stages.Ready kept end batch limit old snapshot behind sound running fits is told new opened =
    next_stands (other kept.side) (renewed stages.Ready kept snapshot).head behind fits is kept end [] old.seen refl refl (sound.ready refl told) new opened.here opened.elsewhere
renewed_stands stages.Stopped kept end batch limit old snapshot behind sound running fits is told new opened = absurd (running refl)

pub renewed_image : (stage : Stage) (kept : Kept) (end : ℕ) (batch : List (List ℕ)) (limit : ℕ) (old : DiskState) (snapshot behind : List ℕ) → IsSound stage kept end batch limit old → stage ≢ Stopped
    → FitsHead (renewed stage kept snapshot).head → behind ≡ header (renewed stage kept snapshot).head ++ 0 ∷ [] → IsTrue old.told → (image : Sides)
    → IsRewritten (renewed stage kept snapshot).side behind old.seen image → StandsOrRenewed stage kept snapshot image
renewed_image stages.Blank kept end batch limit old snapshot behind sound running fits is told image rewritten =
    first_image kept.side (renewed stages.Blank kept snapshot).head behind fits is old.seen (sound.blank refl told) image rewritten
renewed_image stages.Found kept end batch limit old snapshot behind sound running fits is told image rewritten =
    let found = sound.found refl told in
    next_image (other kept.side) (renewed stages.Found kept snapshot).head behind fits is kept end found.tail old.seen refl refl found.stands image rewritten
renewed_image stages.Ready kept end batch limit old snapshot behind sound running fits is told image rewritten =
    next_image (other kept.side) (renewed stages.Ready kept snapshot).head behind fits is kept end [] old.seen refl refl (sound.ready refl told) image rewritten
renewed_image stages.Stopped kept end batch limit old snapshot behind sound running fits is told image rewritten = absurd (running refl)

-- ---- the side is written

-- the fields of the renewed journal
pub same_renewed : (stage : Stage) (kept : Kept) (snapshot : List ℕ) (side : Side) (generation : ℕ) (disk : DiskState) → side ≡ side_renewed stage kept.side → generation ≡ generation_renewed stage kept.head.generation
    → kept_on (renewed stage kept snapshot) disk ≡ kept_by side Two generation kept.head.deployment snapshot disk
same_renewed stage kept snapshot side generation disk p q =
    λ i. record { side = sym p i; head = record { format = Two; generation = sym q i; deployment = kept.head.deployment; snapshot = snapshot }; payloads = payloads_on (on (sym p i) disk.seen) }

module _ (stage : Stage) (kept : Kept) (end : ℕ) (batch : List (List ℕ)) (limit : ℕ) (old : DiskState) (sound : IsSound stage kept end batch limit old) (running : stage ≢ Stopped)
    (snapshot behind : List ℕ) (fits : size (renewed stage kept snapshot).head [] ≤ limit) (generation : (renewed stage kept snapshot).head.generation < 2 ^ 64) (is : behind ≡ header (renewed stage kept snapshot).head ++ 0 ∷ []) where
  pub new_head_fits : FitsHead (renewed stage kept snapshot).head
  new_head_fits = record { generation = generation; deployment = omega (arith, fits, sound.limited); snapshot = omega (arith, fits, sound.limited) }

  module _ (new : DiskState) (is_told : new.told ≡ old.told) (opened : IsTrue old.told → IsOpened (renewed stage kept snapshot).side [] behind (on (other (renewed stage kept snapshot).side) old.seen) new.seen) where
    pub switched_stands : IsTrue old.told → StandsIn (renewed stage kept snapshot) (length behind) [] new.seen
    switched_stands told = renewed_stands stage kept end batch limit old snapshot behind sound running new_head_fits is told new.seen (opened told)

    pub switched_sound : (n : ℕ) (side : Side) (g : ℕ) → n ≡ length behind → batch ≡ [] → side ≡ side_renewed stage kept.side → g ≡ generation_renewed stage kept.head.generation → IsSound Ready (kept_by side Two g kept.head.deployment snapshot new) n batch limit new
    switched_sound n side g place none p q =
        let made : IsSound Ready (kept_on (renewed stage kept snapshot) new) n batch limit new = record {
          ready = λ _ told. (let old_told = subst IsTrue is_told told in subst (λ k. StandsIn (kept_on (renewed stage kept snapshot) new) k [] new.seen) (sym place) (ready_on (renewed stage kept snapshot) (length behind) new (switched_stands old_told)));
          found = λ is. absurd cc;
          blank = λ is. absurd cc;
          idle = ready_idle batch;
          first = λ is. absurd cc;
          current = λ _. refl;
          short = λ _. new_head_fits.deployment;
          sized = sound.sized;
          room = omega (arith, ap records_size none, place, length-behind (renewed stage kept snapshot).head behind is, fits, sound.limited);
          limited = sound.limited;
        } in
        subst (λ (k : Kept). IsSound Ready k n batch limit new) (same_renewed stage kept snapshot side g new p q) made

    pub switched_durable : (side : Side) (g : ℕ) → side ≡ side_renewed stage kept.side → g ≡ generation_renewed stage kept.head.generation → IsTrue old.told → IsTrue (is_clean new) → IsDurable (kept_by side Two g kept.head.deployment snapshot new) new
    switched_durable side g p q told clean = subst (λ (k : Kept). IsDurable k new) (same_renewed stage kept snapshot side g new p q) (durable_on (renewed stage kept snapshot) (length behind) new (switched_stands told) clean)

    pub switched_kept : (side : Side) (g : ℕ) → side ≡ side_renewed stage kept.side → g ≡ generation_renewed stage kept.head.generation → IsTrue old.told → kept_by side Two g kept.head.deployment snapshot new ≡ renewed stage kept snapshot
    switched_kept side g p q told =
        let none = same_payloads (renewed stage kept snapshot) (length behind) new (switched_stands told) in
        sym (same_renewed stage kept snapshot side g new p q) ∙ (λ i. record { side = side_renewed stage kept.side; head = (renewed stage kept snapshot).head; payloads = none i })

  pub switched_leaves : (new : DiskState) → IsTrue old.told → LeavesOnly old new (IsRewritten (renewed stage kept snapshot).side behind old.seen) → LeavesOnly old new (StandsOrRenewed stage kept snapshot)
  switched_leaves new told leaves = leaves_what old new _ _ leaves (λ image rewritten. renewed_image stage kept end batch limit old snapshot behind sound running new_head_fits is told image rewritten)

pub view_kept : {D : Type 0} (disk : D) (kept new : Kept) (batch none : List (List ℕ)) (count : ℕ) (records no_records : List Record) (limit : ℕ) → new ≡ kept → batch ≡ none → records ≡ no_records
    → ◌≡◌ {A = View D} (record { disk = disk; stage = Ready; kept = new; batch = batch; length = count; records = records; limit = limit }) (record { disk = disk; stage = Ready; kept = kept; batch = none; length = count; records = no_records; limit = limit })
view_kept disk kept new batch none count records no_records limit p q r = λ i. record { disk = disk; stage = Ready; kept = p i; batch = q i; length = count; records = r i; limit = limit }

pub moved : {D : Type 0} (v w : View D) (P : View D → Type 0) → v ≡ w → P w → P v
moved v w P same holds = subst P (sym same) holds

-- ---- where nothing is done

pub renewed_idle : {D : Type 0} (state : D → DiskState) (stage : Stage) (kept : Kept) (batch : List (List ℕ)) (snapshot : List ℕ) (disk : D) → IsTrue (is_clean (state disk)) → Stands stage kept (state disk).seen → batch ≡ []
    → LeavesRenewed state stage kept batch snapshot disk disk
renewed_idle state stage kept batch snapshot disk clean stands none =
    let p : kept.payloads ≡ kept.payloads ++ batch = sym (ap (λ (l : List (List ℕ)). kept.payloads ++ l) none ∙ append-nil kept.payloads) in
    let more : Stands stage (with_more kept batch) (state disk).seen = subst (λ (ps : List (List ℕ)). Stands stage (record { side = kept.side; head = kept.head; payloads = ps }) (state disk).seen) p stands in
    record {
      flushed = disk;
      first = nothing_done stage kept batch (state disk) clean stands;
      second = idle_leaves (state disk) (StandsOrRenewed stage (with_more kept batch) snapshot) clean (inl more);
      at_once = λ _. refl;
    }

-- ---- a flush comes before it

-- what goes on from the flushed journal goes on from the journal before
pub goes_through : {D : Type 0} (old mid new : View D) (snapshot : List ℕ) (n : ℕ) → mid.stage ≡ old.stage → IsSameSide old mid → GoesOn mid snapshot new n → GoesOn old snapshot new n
goes_through old mid new snapshot n stage same goes = record {
  generation_is = goes.generation_is ∙ (λ i. generation_renewed (stage i) (same.head i).generation);
  head = goes.head ∙ (λ i. record { format = Two; generation = generation_renewed (stage i) (same.head i).generation; deployment = (same.head i).deployment; snapshot = snapshot });
  side = goes.side ∙ (λ i. side_renewed (stage i) (same.side i));
  ready = goes.ready;
  empty = goes.empty;
  records = goes.records;
}
