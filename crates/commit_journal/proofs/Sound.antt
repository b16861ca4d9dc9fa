-- What is true of the fields of each journal, over its calls.
use Rattle.std.proofs.Common.{◌≡◌, ◌≢◌, ◌⊎◌, inl, inr, ℕ, ◌+◌, ◌≤◌, Bool, true, false, List, [], ◌∷◌, ◌++◌, length, IsTrue, None, Result, Ok, Err, IfErr, IsErrAnd, refl, sym, ◌∙◌, ap, subst, arith}
use Rattle.std.specs.List.{flat_map}
use Rattle.std.proofs.lemmas.List.{append-nil}
use Rattle.slee_disk.specs.Sides.{Sides, on}
use Rattle.slee_disk.specs.Disk.{DiskState, LeavesOnly, is_clean}
use Rattle.slee_disk.proofs.Moments.{reached_start, clean_only}
use Rattle.commit_journal.specs.declared.stage.Stage.{Stage}
use Rattle.commit_journal.specs.declared.stage.Stage.TheVariants.{Ready, Found, Stopped}
use Rattle.commit_journal.specs.declared.stage.Stage.TheVariants as stages
use Rattle.commit_journal.specs.declared.record.Record.{Record}
use Rattle.commit_journal.specs.Spelling.{recorded, records_size, size}
use Rattle.commit_journal.specs.Reading.{Front, Blank, front, counting, Kept, recovered}
use Rattle.commit_journal.specs.Kept.{StandsIn, IsWhole, AreBlank, Keeps, Stands, with_more, KeepsOrMore, StandsOrMore}
use Rattle.commit_journal.specs.Batch.{or_none}
use Rattle.commit_journal.specs.Journal.{View, behind_front, payloads_on, IsSound}
use Rattle.commit_journal.proofs.Sizes.{length-spelled, records_size-more}
use Rattle.commit_journal.proofs.Spelled.{payloads_again, front_again}
use Rattle.commit_journal.proofs.Recovers.{reads_nothing}
use Rattle.commit_journal.proofs.Writes.{stands_keeps, found_keeps}

-- ---- what the fields stand for

pub payloads_on_stands : (kept : Kept) (at : ℕ) (tail : List ℕ) (sides : Sides) → StandsIn kept at tail sides → payloads_on (on kept.side sides) ≡ kept.payloads
unfolding payloads_on
payloads_on_stands kept at tail sides stands =
    let bytes = flat_map recorded kept.payloads ++ stands.gate ∷ tail in
    ap behind_front (ap front stands.here ∙ front_again kept.head kept.payloads stands.gate tail stands.fits_head)
    ∙ ap or_none (payloads_again (length bytes) kept.payloads stands.gate tail stands.fits stands.shut (omega arith))

pub payloads_on_blank : (bytes : List ℕ) → front bytes ≡ Blank → payloads_on bytes ≡ []
unfolding payloads_on
payloads_on_blank bytes blank = ap behind_front blank

-- the place of the last gate is known by what stands before it
pub whole_in : (kept : Kept) (at : ℕ) (sides : Sides) → StandsIn kept at [] sides → IsWhole kept sides
whole_in kept at sides stands = subst (λ k. StandsIn kept k [] sides) stands.place stands

-- the size of a side with its batch, by the place of its last gate
pub size_with : (kept : Kept) (at : ℕ) (sides : Sides) (batch : List (List ℕ)) → StandsIn kept at [] sides → at + 1 + records_size batch ≡ size kept.head (kept.payloads ++ batch)
size_with kept at sides batch stands = omega (arith, stands.place, length-spelled kept.head kept.payloads, records_size-more kept.payloads batch)

pub blank_reads : (deployment : List ℕ) (sides : Sides) → AreBlank sides → recovered deployment sides ≡ Ok None
blank_reads deployment sides blank = reads_nothing deployment sides (ap (λ (f : Front). counting f (front sides.b)) blank.0 ∙ ap (λ (f : Front). counting Blank f) blank.1)

-- ---- by how far it has come

pub sound_seen : (stage : Stage) (kept : Kept) (end : ℕ) (batch : List (List ℕ)) (limit : ℕ) (disk : DiskState) → IsSound stage kept end batch limit disk → stage ≢ Stopped → IsTrue disk.told → Stands stage kept disk.seen
sound_seen stages.Blank kept end batch limit disk sound running told = blank_reads kept.head.deployment disk.seen (sound.blank refl told)
sound_seen stages.Found kept end batch limit disk sound running told = found_keeps kept end disk (sound.found refl told)
sound_seen stages.Ready kept end batch limit disk sound running told = stands_keeps kept end [] disk.seen (sound.ready refl told)
sound_seen stages.Stopped kept end batch limit disk sound running told = absurd (running refl)

-- a batch that isn't empty is of a journal that was begun
pub ready_if : (stage : Stage) (kept : Kept) (end : ℕ) (batch : List (List ℕ)) (limit : ℕ) (disk : DiskState) → IsSound stage kept end batch limit disk → stage ≢ Stopped → batch ≢ [] → stage ≡ Ready
ready_if stages.Blank kept end batch limit disk sound running some = absurd (some (sound.idle (inr refl)))
ready_if stages.Found kept end batch limit disk sound running some = absurd (some (sound.idle (inl refl)))
ready_if stages.Ready kept end batch limit disk sound running some = refl
ready_if stages.Stopped kept end batch limit disk sound running some = absurd (running refl)

-- each image of a clean disk stands for what the disk's bytes stand for
pub clean_stands : (stage : Stage) (kept : Kept) (disk : DiskState) → IsTrue (is_clean disk) → Stands stage kept disk.seen → (image : Sides) → disk.images image → Stands stage kept image
clean_stands stage kept disk clean stands image now = subst (Stands stage kept) (sym (clean_only disk clean image now)) stands

-- where nothing is done
pub nothing_done : (stage : Stage) (kept : Kept) (batch : List (List ℕ)) (disk : DiskState) → IsTrue (is_clean disk) → Stands stage kept disk.seen → LeavesOnly disk disk (StandsOrMore stage kept batch)
nothing_done stage kept batch disk clean stands = (reached_start disk (StandsOrMore stage kept batch) (λ image now. inl (clean_stands stage kept disk clean stands image now))).leaves

pub as_ready : (stage : Stage) (kept : Kept) (batch : List (List ℕ)) (image : Sides) → stage ≡ Ready → KeepsOrMore kept batch image → StandsOrMore stage kept batch image
as_ready stage kept batch image ready keeps = subst (λ (s : Stage). StandsOrMore s kept batch image) (sym ready) keeps

pub keeps_ready : (stage : Stage) (kept : Kept) (sides : Sides) → stage ≡ Ready → Keeps kept sides → Stands stage kept sides
keeps_ready stage kept sides ready keeps = subst (λ (s : Stage). Stands s kept sides) (sym ready) keeps

-- a journal that is ready stands for what it keeps
pub ready_keeps : (stage : Stage) (kept : Kept) (sides : Sides) → stage ≡ Ready → Stands stage kept sides → Keeps kept sides
ready_keeps stage kept sides ready stands = subst (λ (s : Stage). Stands s kept sides) ready stands

pub runs : (s t : Stage) → s ≡ t → t ≢ Stopped → s ≢ Stopped
runs s t same running = λ is. running (sym same ∙ is)

-- a test that failed
pub not_so : (b : Bool) (P : Type 0) → b ≡ false → (IsTrue b → P) × (P → IsTrue b) → P → ⊥
not_so true P is both p = absurd cc
not_so false P is both p = absurd (let no : false ≡ true = both.1 p in cc)

-- the one error that there is
pub only_error : {T E : Type 0} (r : Result T E) (e : E) (P : E → Type 0) → IsErrAnd r (λ x. x ≡ e) → P e → IfErr r P
only_error (Ok x) e P is p = tt
only_error (Err x) e P is p = subst P (sym is) p

-- ---- an empty batch

pub idle_view : {D : Type 0} (v : View D) → v.batch ≡ [] → v ≡ record { disk = v.disk; stage = v.stage; kept = with_more v.kept v.batch; batch = []; length = v.length; records = v.records; limit = v.limit }
idle_view v none =
    let p : v.kept.payloads ≡ v.kept.payloads ++ v.batch = sym (ap (λ (l : List (List ℕ)). v.kept.payloads ++ l) none ∙ append-nil v.kept.payloads) in
    λ i. record { disk = v.disk; stage = v.stage; kept = record { side = v.kept.side; head = v.kept.head; payloads = p i }; batch = none i; length = v.length; records = v.records; limit = v.limit }

-- ---- a batch is written

-- what is kept, with the payloads that are read from a disk
abbrev pub kept_on : Kept → DiskState → Kept
kept_on kept disk = record { side = kept.side; head = kept.head; payloads = payloads_on (on kept.side disk.seen) }

module _ (stage : Stage) (kept : Kept) (end : ℕ) (batch : List (List ℕ)) (limit : ℕ) (old new : DiskState) (sound : IsSound stage kept end batch limit old)
    (is_ready : stage ≡ Ready) (is_told : new.told ≡ old.told)
    (written : IsTrue old.told → StandsIn kept end [] old.seen → StandsIn (with_more kept batch) (end + records_size batch) [] new.seen) where
  pub flushed_stands : IsTrue old.told → StandsIn (with_more kept batch) (end + records_size batch) [] new.seen
  flushed_stands told = written told (sound.ready is_ready told)

  pub flushed_payloads : IsTrue old.told → payloads_on (on kept.side new.seen) ≡ kept.payloads ++ batch
  flushed_payloads told = payloads_on_stands (with_more kept batch) (end + records_size batch) [] new.seen (flushed_stands told)

  pub flushed_kept : IsTrue old.told → StandsIn (kept_on kept new) (end + records_size batch) [] new.seen
  flushed_kept told = let e = sym (flushed_payloads told) in subst (λ (ps : List (List ℕ)). StandsIn (record { side = kept.side; head = kept.head; payloads = ps }) (end + records_size batch) [] new.seen) e (flushed_stands told)

  pub flushed_whole : IsTrue old.told → IsWhole (kept_on kept new) new.seen
  flushed_whole told = let stands = flushed_kept told in subst (λ k. StandsIn (kept_on kept new) k [] new.seen) stands.place stands

  pub flushed_seen : IsTrue old.told → Stands stage (kept_on kept new) new.seen
  flushed_seen told = keeps_ready stage (kept_on kept new) new.seen is_ready (stands_keeps (kept_on kept new) (end + records_size batch) [] new.seen (flushed_kept told))

  pub flushed_sound : (n : ℕ) (rest : List (List ℕ)) → n ≡ records_size batch → rest ≡ [] → IsSound stage (kept_on kept new) (end + n) rest limit new
  flushed_sound n rest size none = record {
    ready = λ _ told. subst (λ k. StandsIn (kept_on kept new) (end + k) [] new.seen) (sym size) (flushed_kept (subst IsTrue is_told told));
    found = λ is_found. absurd (cc (sym is_ready ∙ is_found));
    blank = λ is_blank. absurd (cc (sym is_ready ∙ is_blank));
    idle = λ _. none;
    first = λ is_blank. absurd (cc (sym is_ready ∙ is_blank));
    current = λ _. sound.current (inl is_ready);
    short = sound.short;
    sized = sound.sized;
    room = omega (arith, ap records_size none, sound.room, size);
    limited = sound.limited;
  }

-- two views that differ in payloads and batch alone, the length being counted in two ways
pub same_view : {D : Type 0} (disk : D) (stage : Stage) (kept : Kept) (records : List Record) (limit : ℕ) (more b c : List (List ℕ)) (ps : List (List ℕ)) (m n : ℕ) → ps ≡ kept.payloads ++ more → b ≡ c → m ≡ n
    → ◌≡◌ {A = View D} (record { disk = disk; stage = stage; kept = record { side = kept.side; head = kept.head; payloads = ps }; batch = b; length = m; records = records; limit = limit })
    (record { disk = disk; stage = stage; kept = with_more kept more; batch = c; length = n; records = records; limit = limit })
same_view disk stage kept records limit more b c ps m n p q r = λ i. record { disk = disk; stage = stage; kept = record { side = kept.side; head = kept.head; payloads = p i }; batch = q i; length = r i; records = records; limit = limit }

-- ---- a payload is added

pub sound_more : (stage : Stage) (kept : Kept) (end : ℕ) (batch : List (List ℕ)) (limit : ℕ) (disk : DiskState) → IsSound stage kept end batch limit disk → stage ≡ Ready → (payload : List ℕ) (new : List (List ℕ)) → new ≡ batch ++ payload ∷ []
    → end + 1 + records_size batch + (5 + length payload) ≤ limit → IsSound stage kept end new limit disk
sound_more stage kept end batch limit disk sound is_ready payload new is room =
    let size : records_size new ≡ records_size batch + (5 + length payload) = omega (arith, ap records_size is, records_size-more batch (payload ∷ [])) in
    record {
      ready = sound.ready;
      found = sound.found;
      blank = sound.blank;
      idle = elim_ready;
      first = sound.first;
      current = sound.current;
      short = sound.short;
      sized = sound.sized;
      room = omega (arith, size, room, sound.limited);
      limited = sound.limited;
    }
  where
    elim_ready : (stage ≡ Found) ⊎ (stage ≡ stages.Blank) → new ≡ []
    elim_ready (inl is_found) = absurd (cc (sym is_ready ∙ is_found))
    elim_ready (inr is_blank) = absurd (cc (sym is_ready ∙ is_blank))

-- the view with the payload
pub more_view : {D : Type 0} (disk : D) (stage : Stage) (kept : Kept) (records : List Record) (limit end : ℕ) (batch new : List (List ℕ)) (payload : List ℕ) → new ≡ batch ++ payload ∷ []
    → ◌≡◌ {A = View D} (record { disk = disk; stage = stage; kept = kept; batch = new; length = end + 1 + records_size new; records = records; limit = limit })
    (record { disk = disk; stage = stage; kept = kept; batch = batch ++ payload ∷ []; length = end + 1 + records_size batch + (5 + length payload); records = records; limit = limit })
more_view disk stage kept records limit end batch new payload is =
    let count : end + 1 + records_size new ≡ end + 1 + records_size batch + (5 + length payload) = omega (arith, ap records_size is, records_size-more batch (payload ∷ [])) in
    λ i. record { disk = disk; stage = stage; kept = kept; batch = is i; length = count i; records = records; limit = limit }
