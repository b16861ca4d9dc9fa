-- A journal that is begun.
use Rattle.std.proofs.Common.{◌≡◌, ◌≢◌, ◌⊎◌, inl, inr, ℕ, ◌+◌, ◌≤◌, ◌<◌, ◌^◌, List, [], ◌∷◌, ◌++◌, length, IsTrue, refl, sym, ◌∙◌, ap, subst, arith, length-append}
use Rattle.slee_disk.specs.Sides.{Sides, on, other}
use Rattle.slee_disk.specs.Disk.{DiskState, LeavesOnly, is_clean}
use Rattle.slee_disk.proofs.Moments.{reached_start, clean_only}
use Rattle.commit_journal.specs.declared.format.Format.{Format}
use Rattle.commit_journal.specs.declared.format.Format.TheVariants.{One, Two}
use Rattle.commit_journal.specs.declared.stage.Stage.{Stage}
use Rattle.commit_journal.specs.declared.stage.Stage.TheVariants.{Ready, Found, Stopped}
use Rattle.commit_journal.specs.declared.stage.Stage.TheVariants as stages
use Rattle.commit_journal.specs.declared.record.Record.{Record}
use Rattle.commit_journal.specs.Spelling.{Head, format_number, header, FitsHead, records_size, size}
use Rattle.commit_journal.specs.Reading.{Kept}
use Rattle.commit_journal.specs.Gate.{IsOpened}
use Rattle.commit_journal.specs.Blank.{IsBlankOrOpen}
use Rattle.commit_journal.specs.Rewriting.{IsRewritten}
use Rattle.commit_journal.specs.Kept.{StandsIn, StandsFound, IsWhole, Keeps, Stands, StandsOrBegun}
use Rattle.commit_journal.specs.Journal.{View, payloads_on, IsSound, size_begun, IsDurable}
use Rattle.commit_journal.proofs.Sizes.{length-header}
use Rattle.commit_journal.proofs.Writes.{stands_keeps}
use Rattle.commit_journal.proofs.Rewrites.{blank_here, first_stands, first_image}
use Rattle.commit_journal.proofs.Sound.{payloads_on_stands, payloads_on_blank, kept_on}

-- what holds of the sides of a clean disk holds of each image, where nothing is done
pub idle_leaves : (disk : DiskState) (P : Sides → Type 0) → IsTrue (is_clean disk) → P disk.seen → LeavesOnly disk disk P
idle_leaves disk P clean holds = (reached_start disk P (λ image now. subst P (sym (clean_only disk clean image now)) holds)).leaves

pub clean_images : (disk : DiskState) (P : Sides → Type 0) → IsTrue (is_clean disk) → P disk.seen → (image : Sides) → disk.images image → P image
clean_images disk P clean holds image now = subst P (sym (clean_only disk clean image now)) holds

-- a side whose format has the number 2 is of the second format
format_two : (format : Format) → format_number format ≡ 2 → format ≡ Two
format_two One is = absurd (omega (arith, is))
format_two Two is = refl

pub two_of : (head other : Head) → head ≡ other → format_number other.format ≡ 2 → head.format ≡ Two
two_of head other same is = ap (λ (h : Head). h.format) same ∙ format_two other.format is

-- a journal that isn't blank stands on a side
pub found_in : (stage : Stage) (kept : Kept) (end : ℕ) (batch : List (List ℕ)) (limit : ℕ) (disk : DiskState) → IsSound stage kept end batch limit disk → stage ≢ Stopped → stage ≢ stages.Blank → IsTrue disk.told → StandsFound kept end disk.seen
found_in stages.Blank kept end batch limit disk sound running not_blank told = absurd (not_blank refl)
found_in stages.Found kept end batch limit disk sound running not_blank told = sound.found refl told
found_in stages.Ready kept end batch limit disk sound running not_blank told = record { tail = []; stands = sound.ready refl told }
found_in stages.Stopped kept end batch limit disk sound running not_blank told = absurd (running refl)

-- ---- a side is ready, on which these payloads stand

module _ (kept : Kept) (at : ℕ) (new : DiskState) (stands : StandsIn kept at [] new.seen) where
  pub same_payloads : payloads_on (on kept.side new.seen) ≡ kept.payloads
  same_payloads = payloads_on_stands kept at [] new.seen stands

  pub ready_on : StandsIn (kept_on kept new) at [] new.seen
  ready_on = let e = sym same_payloads in subst (λ (ps : List (List ℕ)). StandsIn (record { side = kept.side; head = kept.head; payloads = ps }) at [] new.seen) e stands

  pub whole_on : IsWhole (kept_on kept new) new.seen
  whole_on = subst (λ k. StandsIn (kept_on kept new) k [] new.seen) ready_on.place ready_on

  pub keeps_on : Keeps (kept_on kept new) new.seen
  keeps_on = stands_keeps (kept_on kept new) at [] new.seen ready_on

  pub durable_on : IsTrue (is_clean new) → IsDurable (kept_on kept new) new
  durable_on clean = record { whole = whole_on; seen = keeps_on; images = clean_images new (Keeps (kept_on kept new)) clean keeps_on; clean = clean }

pub same_kept : {D : Type 0} (disk : D) (kept : Kept) (batch : List (List ℕ)) (count : ℕ) (records : List Record) (limit : ℕ) (ps : List (List ℕ)) → ps ≡ kept.payloads
    → ◌≡◌ {A = View D} (record { disk = disk; stage = Ready; kept = record { side = kept.side; head = kept.head; payloads = ps }; batch = batch; length = count; records = records; limit = limit })
    (record { disk = disk; stage = Ready; kept = kept; batch = batch; length = count; records = records; limit = limit })
same_kept disk kept batch count records limit ps p = λ i. record { disk = disk; stage = Ready; kept = record { side = kept.side; head = kept.head; payloads = p i }; batch = batch; length = count; records = records; limit = limit }

-- ---- what stands behind the last gate is cut

pub ready_idle : (batch : List (List ℕ)) → (Ready ≡ Found) ⊎ (Ready ≡ stages.Blank) → batch ≡ []
ready_idle batch (inl is) = absurd cc
ready_idle batch (inr is) = absurd cc

pub cut_sound : (stage : Stage) (kept : Kept) (end : ℕ) (batch : List (List ℕ)) (limit : ℕ) (old new : DiskState) → IsSound stage kept end batch limit old → stage ≢ stages.Blank → kept.head.format ≡ Two → new.told ≡ old.told
    → (IsTrue old.told → StandsIn kept end [] new.seen) → IsSound Ready (kept_on kept new) end batch limit new
cut_sound stage kept end batch limit old new sound not_blank format is_told cut = record {
  ready = λ _ told. ready_on kept end new (cut (subst IsTrue is_told told));
  found = λ is. absurd cc;
  blank = λ is. absurd cc;
  idle = ready_idle batch;
  first = λ is. absurd cc;
  current = λ _. format;
  short = λ _. sound.short not_blank;
  sized = sound.sized;
  room = sound.room;
  limited = sound.limited;
}

pub cut_leaves : (stage : Stage) (kept : Kept) (image : Sides) → Keeps kept image → StandsOrBegun stage kept image
cut_leaves stage kept image keeps = inr keeps

-- ---- the first side is begun

-- its size is that of its bytes and the gate before them
pub length-behind : (head : Head) (behind : List ℕ) → behind ≡ header head ++ 0 ∷ [] → length behind + 1 ≡ size head []
length-behind head behind is = omega (arith, ap length is, length-append (header head) (0 ∷ []), length-header head)

pub blank_size : (stage : Stage) (head : Head) (n : ℕ) → stage ≡ stages.Blank → n ≡ size head [] → n ≡ size_begun stage head
blank_size stage head n blank is = is ∙ ap (λ (s : Stage). size_begun s head) (sym blank)

pub stands_begun : (stage : Stage) (kept : Kept) (image : Sides) → stage ≡ stages.Blank → (Stands stages.Blank kept image) ⊎ Keeps kept image → StandsOrBegun stage kept image
stands_begun stage kept image blank either = subst (λ (s : Stage). StandsOrBegun s kept image) (sym blank) either

module _ (kept : Kept) (end : ℕ) (batch : List (List ℕ)) (limit : ℕ) (old : DiskState) (sound : IsSound stages.Blank kept end batch limit old) (fits : size kept.head [] ≤ limit) (generation : kept.head.generation < 2 ^ 64)
    (behind : List ℕ) (is : behind ≡ header (record { format = Two; generation = kept.head.generation; deployment = kept.head.deployment; snapshot = [] }) ++ 0 ∷ []) where
  abbrev first : Kept
  first = record { side = kept.side; head = kept.head; payloads = [] }

  pub is_header : behind ≡ header kept.head ++ 0 ∷ []
  is_header =
      is
      ∙ ap (λ (f : Format). header (record { format = f; generation = kept.head.generation; deployment = kept.head.deployment; snapshot = [] }) ++ 0 ∷ []) (sym (sound.current (inr refl)))
      ∙ ap (λ (l : List ℕ). header (record { format = kept.head.format; generation = kept.head.generation; deployment = kept.head.deployment; snapshot = l }) ++ 0 ∷ []) (sym (sound.first refl))

  pub head_fits : FitsHead kept.head
  head_fits = record { generation = generation; deployment = omega (arith, fits, sound.limited); snapshot = omega (arith, fits, sound.limited) }

  pub begun_stands : (new : Sides) → IsTrue old.told → IsOpened kept.side [] behind (on (other kept.side) old.seen) new → StandsIn first (length behind) [] new
  begun_stands new told opened = first_stands kept.side kept.head behind head_fits is_header old.seen (sound.blank refl told) new opened.here opened.elsewhere

  -- what a crash leaves
  pub begun_image : IsTrue old.told → kept.payloads ≡ [] → (image : Sides) → IsBlankOrOpen kept.side behind (on (other kept.side) old.seen) image → StandsOrBegun stages.Blank kept image
  begun_image told none image stands =
      let rewritten : IsRewritten kept.side behind old.seen image = record { here = by_here stands.here; elsewhere = stands.elsewhere } in
      let either = first_image kept.side kept.head behind head_fits is_header old.seen (sound.blank refl told) image rewritten in
      subst (λ (ps : List (List ℕ)). StandsOrBegun stages.Blank (record { side = kept.side; head = kept.head; payloads = ps }) image) (sym none) either
    where
      by_here : {X Y Z : Type 0} → Y ⊎ Z → X ⊎ Y ⊎ Z
      by_here (inl y) = inr (inl y)
      by_here (inr z) = inr (inr z)

  pub begun_sound : (new : DiskState) (n : ℕ) → n ≡ length behind → new.told ≡ old.told → (IsTrue old.told → IsOpened kept.side [] behind (on (other kept.side) old.seen) new.seen) → IsSound Ready (kept_on kept new) n batch limit new
  begun_sound new n size is_told opened =
      let none : records_size batch ≡ 0 = ap records_size (sound.idle (inr refl)) in
      record {
        ready = λ _ told. (let old_told = subst IsTrue is_told told in subst (λ k. StandsIn (kept_on kept new) k [] new.seen) (sym size) (ready_on first (length behind) new (begun_stands new.seen old_told (opened old_told))));
        found = λ is. absurd cc;
        blank = λ is. absurd cc;
        idle = ready_idle batch;
        first = λ is. absurd cc;
        current = λ _. sound.current (inr refl);
        short = λ _. head_fits.deployment;
        sized = sound.sized;
        room = omega (arith, none, size, length-behind kept.head behind is_header, fits, sound.limited);
        limited = sound.limited;
      }

-- the payloads of a blank side are none
pub blank_payloads : (kept : Kept) (end : ℕ) (batch : List (List ℕ)) (limit : ℕ) (disk : DiskState) → IsSound stages.Blank (kept_on kept disk) end batch limit disk → IsTrue disk.told → payloads_on (on kept.side disk.seen) ≡ []
blank_payloads kept end batch limit disk sound told = payloads_on_blank (on kept.side disk.seen) (blank_here kept.side disk.seen (sound.blank refl told))
