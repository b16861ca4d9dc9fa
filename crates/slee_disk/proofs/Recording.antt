-- What a call of a disk in memory does, by how it was kept.
use Rattle.std.proofs.Common.{◌≡◌, ◌⊎◌, inl, inr, ⊎_elim, ℕ, ◌+◌, ◌≤◌, Bool, true, false, Result, Ok, Err, OnOk, OnErr, IsErr, IsTrue, List, [], ◌∷◌, length, take, refl, sym, ◌∙◌, ap, subst, arith, length-append}
use Rattle.std.proofs.lemmas.Bool.{cases_lt}
use Rattle.std.proofs.lemmas.List.{take_all, take_min, take-append-le}
use Rattle.slee_disk.specs.declared.side.Side.{Side}
use Rattle.slee_disk.specs.declared.side.Side.TheVariants.{A, B}
use Rattle.slee_disk.specs.declared.call.Act.{Act}
use Rattle.slee_disk.specs.declared.call.Act.TheVariants as acts
use Rattle.slee_disk.specs.declared.call.Call.{Call}
use Rattle.slee_disk.specs.Sides.{Sides, on, other, Torn, Cut, AtSide, Holds, overwritten}
use Rattle.slee_disk.specs.Causes.{Rose}
use Rattle.slee_disk.specs.Disk.{DiskState, Passes, Looks, Changes, KeepsSettled, Settles}
use Rattle.slee_disk.specs.Calls.{Instant, with_side, marked, seen_after, done, after, fresh, Since, call_of, more}
use Rattle.slee_disk.specs.Instants.{seen_there}
use Rattle.slee_disk.specs.MemoryDisk.{MemoryState, state_at, state_of, seen_of, Recorded}

after-more : (calls : List Call) (side : Side) (act : Act) (failed : Bool) (first : Instant) → after (more calls side act failed) first ≡ done side failed act (after calls first)
after-more [] side act failed first = refl
after-more (call ∷ calls) side act failed first = after-more calls side act failed (done call.side call.failed call.act first)

-- how a call was kept: as one that failed or not, or not at all
abbrev Kept : List Call → List Call → Side → Act → Type 0
Kept old new side act = ((failed : Bool) × (new ≡ more old side act failed)) ⊎ (new ≡ old)

pub done_seen : (side : Side) (failed : Bool) (act : Act) (at : Instant) → (done side failed act at).seen ≡ seen_after side failed act at.seen
done_seen side true acts.Look at = refl
done_seen side false acts.Look at = refl
done_seen side failed (acts.Write place bytes) at = refl
done_seen side failed (acts.Cut size) at = refl
done_seen side true acts.Sync at = refl
done_seen side false acts.Sync at = refl

pub seen_more : (calls new : List Call) (side : Side) (act : Act) (failed : Bool) (first : Sides) → new ≡ more calls side act failed → (after new (fresh first)).seen ≡ seen_after side failed act (after calls (fresh first)).seen
seen_more calls new side act failed first is = ap (λ (l : List Call). (after l (fresh first)).seen) is ∙ ap (λ (i : Instant). i.seen) (after-more calls side act failed (fresh first)) ∙ done_seen side failed act (after calls (fresh first))

-- what is held stays what reads give
pub held_more : (calls new : List Call) (side : Side) (act : Act) (failed : Bool) (first held next : Sides) → (after calls (fresh first)).seen ≡ held → new ≡ more calls side act failed → next ≡ seen_after side failed act held → (after new (fresh first)).seen ≡ next
held_more calls new side act failed first held next was is does = seen_more calls new side act failed first is ∙ ap (seen_after side failed act) was ∙ sym does

-- a write or a cut may leave a side as it was
pub torn_same : (place n : ℕ) (c : List ℕ) → Torn place n c c
torn_same place n c = record { before = take_min place c; after = refl; no_shorter = omega arith; no_longer = omega arith }

pub cut_same : (size : ℕ) (c : List ℕ) → Cut size c c
cut_same size c = record { before = refl; no_shorter = omega arith; no_longer = omega arith }

-- ---- over two runs of calls that began with the same bytes

module _ (first : Sides) (calls new : List Call) (f g : ℕ) (failed : Type 0) (rising : f ≤ g) (cause : failed → Rose f g) where
  abbrev old_state : DiskState
  old_state = state_at first calls f

  abbrev new_state : DiskState
  new_state = state_at first new g

  passes_same : new ≡ calls → Passes old_state new_state failed
  passes_same is =
      record {
        told = refl;
        later = omega (arith, ap length is);
        nothing_else = λ k image le left. inl (subst (λ (l : List Call). Since l first k image) is left);
        keeps = λ k image le left. subst (λ (l : List Call). Since l first k image) (sym is) left;
        faults = rising;
        cause = cause;
      }

  passes_more : (side : Side) (act : Act) (x : Bool) → new ≡ more calls side act x → Passes old_state new_state failed
  passes_more side act x is =
      let size : length new ≡ length calls + 1 = ap length is ∙ length-append calls (call_of side act x ∷ []) in
      let front : (k : ℕ) → k ≤ length calls → take k new ≡ take k calls = λ k le. ap (take k) is ∙ take-append-le k calls (call_of side act x ∷ []) le in
      record {
        told = refl;
        later = omega (arith, size);
        nothing_else = λ k image le left. elim (cases_lt (length calls) left.0) [
          | inl lt ↦ inr (subst (λ (l : List Call). (after l (fresh first)).images image) (take_all left.0 new (omega (arith, size))) left.3)
          | inr within ↦ inl (left.0, left.1, within, subst (λ (l : List Call). (after l (fresh first)).images image) (front left.0 within) left.3)
        ];
        keeps = λ k image le left. (left.0, left.1, omega (arith, size, left.2), subst (λ (l : List Call). (after l (fresh first)).images image) (sym (front left.0 left.2)) left.3);
        faults = rising;
        cause = cause;
      }

  passes_either : (side : Side) (act : Act) → Kept calls new side act → Passes old_state new_state failed
  passes_either side act (inl is) = passes_more side act is.0 is.1
  passes_either side act (inr is) = passes_same is

  images_same : (image : Sides) → new ≡ calls → (after new (fresh first)).images image → (after calls (fresh first)).images image
  images_same image is now = subst (λ (l : List Call). (after l (fresh first)).images image) is now

  images_more : (side : Side) (act : Act) (x : Bool) (image : Sides) → new ≡ more calls side act x → (after new (fresh first)).images image → (done side x act (after calls (fresh first))).images image
  images_more side act x image is now = subst (λ (i : Instant). i.images image) (after-more calls side act x (fresh first)) (subst (λ (l : List Call). (after l (fresh first)).images image) is now)

  settled_same : (which : Side) → new ≡ calls → (after new (fresh first)).settled which ≡ (after calls (fresh first)).settled which
  settled_same which is = ap (λ (l : List Call). (after l (fresh first)).settled which) is

  settled_more : (side : Side) (act : Act) (x : Bool) (which : Side) → new ≡ more calls side act x → (after new (fresh first)).settled which ≡ (done side x act (after calls (fresh first))).settled which
  settled_more side act x which is = ap (λ (l : List Call). (after l (fresh first)).settled which) is ∙ ap (λ (i : Instant). i.settled which) (after-more calls side act x (fresh first))

  seen_same : new ≡ calls → (after new (fresh first)).seen ≡ (after calls (fresh first)).seen
  seen_same is = ap (λ (l : List Call). (after l (fresh first)).seen) is

  -- looks and syncs
  sync_images : (side : Side) (x : Bool) (at : Instant) (image : Sides) → (done side x acts.Sync at).images image → at.images image
  sync_images side true at image now = now
  sync_images side false at image now = now.0

  settles : (side which : Side) (x : Bool) (at : Instant) → IsTrue (at.settled which) → IsTrue ((done side x acts.Sync at).settled which)
  settles side which true at was = was
  settles A A false at was = refl
  settles A B false at was = was
  settles B A false at was = was
  settles B B false at was = refl

  look_seen : (side : Side) (x : Bool) (seen : Sides) → seen_after side x acts.Look seen ≡ seen
  look_seen side true seen = refl
  look_seen side false seen = refl

  sync_seen : (side : Side) (x : Bool) (seen : Sides) → seen_after side x acts.Sync seen ≡ seen
  sync_seen side true seen = refl
  sync_seen side false seen = refl

  nothing_done : (new ≡ calls) → Looks old_state new_state failed
  nothing_done is = record { passes = passes_same is; seen = seen_same is; images = λ image now. images_same image is now; settled = λ which was. subst IsTrue (sym (settled_same which is)) was }

  pub looks_look : (side : Side) → Kept calls new side acts.Look → Looks old_state new_state failed
  looks_look side (inl is) = record {
    passes = passes_more side acts.Look is.0 is.1;
    seen = seen_more calls new side acts.Look is.0 first is.1 ∙ look_seen side is.0 (after calls (fresh first)).seen;
    images = λ image now. images_more side acts.Look is.0 image is.1 now;
    settled = λ which was. subst IsTrue (sym (settled_more side acts.Look is.0 which is.1)) was;
  }
  looks_look side (inr is) = nothing_done is

  pub keeps_look : (side : Side) → Kept calls new side acts.Look → KeepsSettled old_state new_state
  keeps_look side (inl is) = λ which. settled_more side acts.Look is.0 which is.1
  keeps_look side (inr is) = λ which. settled_same which is

  pub looks_sync : (side : Side) → Kept calls new side acts.Sync → Looks old_state new_state failed
  looks_sync side (inl is) = record {
    passes = passes_more side acts.Sync is.0 is.1;
    seen = seen_more calls new side acts.Sync is.0 first is.1 ∙ sync_seen side is.0 (after calls (fresh first)).seen;
    images = λ image now. sync_images side is.0 (after calls (fresh first)) image (images_more side acts.Sync is.0 image is.1 now);
    settled = λ which was. subst IsTrue (sym (settled_more side acts.Sync is.0 which is.1)) (settles side which is.0 (after calls (fresh first)) was);
  }
  looks_sync side (inr is) = nothing_done is

  -- a sync that succeeded, and one that failed
  pub synced : (side : Side) → new ≡ more calls side acts.Sync false → (image : Sides) → (after new (fresh first)).images image → on side image ≡ on side (after calls (fresh first)).seen
  synced side is image now = (images_more side acts.Sync false image is now).1

  sync_here : (side : Side) (at : Instant) → IsTrue ((done side false acts.Sync at).settled side)
  sync_here A at = refl
  sync_here B at = refl

  sync_there : (side : Side) (x : Bool) (at : Instant) → (done side x acts.Sync at).settled (other side) ≡ at.settled (other side)
  sync_there side true at = refl
  sync_there A false at = refl
  sync_there B false at = refl

  pub settled_here : (side : Side) → new ≡ more calls side acts.Sync false → IsTrue ((after new (fresh first)).settled side)
  settled_here side is = subst IsTrue (sym (settled_more side acts.Sync false side is)) (sync_here side (after calls (fresh first)))

  pub settled_there : (side : Side) → Kept calls new side acts.Sync → (after new (fresh first)).settled (other side) ≡ (after calls (fresh first)).settled (other side)
  settled_there side (inl is) = settled_more side acts.Sync is.0 (other side) is.1 ∙ sync_there side is.0 (after calls (fresh first))
  settled_there side (inr is) = settled_same (other side) is

  pub failed_sync : (side : Side) → (new ≡ more calls side acts.Sync true) ⊎ (new ≡ calls) → KeepsSettled old_state new_state
  failed_sync side (inl is) = λ which. settled_more side acts.Sync true which is
  failed_sync side (inr is) = λ which. settled_same which is

  -- writes and cuts
  marked_there : (side : Side) (mark : Bool) (marks : Side → Bool) → marked side mark marks (other side) ≡ marks (other side)
  marked_there A mark marks = refl
  marked_there B mark marks = refl

  not_marked : (side : Side) (marks : Side → Bool) → IsTrue (marked side false marks side) → IsTrue (marks side)
  not_marked A marks is = absurd cc
  not_marked B marks is = absurd cc

  pub changes_none : (side : Side) (step : List ℕ → List ℕ → Type 0) → ((c : List ℕ) → step c c) → new ≡ calls → Changes side step old_state new_state failed
  changes_none side step same is = record {
    passes = passes_same is;
    images = λ image now. (image, images_same image is now, record { here = same (on side image); there = refl });
    seen_there = ap (on (other side)) (seen_same is);
    settled_there = settled_same (other side) is;
    settled_here = λ now. subst IsTrue (settled_same side is) now;
  }

  pub changes_write : (side : Side) (place : ℕ) (bytes : List ℕ) → Kept calls new side (acts.Write place bytes) → Changes side (Torn place (length bytes)) old_state new_state failed
  changes_write side place bytes (inl is) = record {
    passes = passes_more side (acts.Write place bytes) is.0 is.1;
    images = λ image now. images_more side (acts.Write place bytes) is.0 image is.1 now;
    seen_there = ap (on (other side)) (seen_more calls new side (acts.Write place bytes) is.0 first is.1) ∙ seen_there side is.0 (acts.Write place bytes) (after calls (fresh first)).seen;
    settled_there = settled_more side (acts.Write place bytes) is.0 (other side) is.1 ∙ marked_there side false (after calls (fresh first)).settled;
    settled_here = λ now. not_marked side (after calls (fresh first)).settled (subst IsTrue (settled_more side (acts.Write place bytes) is.0 side is.1) now);
  }
  changes_write side place bytes (inr is) = changes_none side (Torn place (length bytes)) (torn_same place (length bytes)) is

  pub changes_cut : (side : Side) (size : ℕ) → Kept calls new side (acts.Cut size) → Changes side (Cut size) old_state new_state failed
  changes_cut side size (inl is) = record {
    passes = passes_more side (acts.Cut size) is.0 is.1;
    images = λ image now. images_more side (acts.Cut size) is.0 image is.1 now;
    seen_there = ap (on (other side)) (seen_more calls new side (acts.Cut size) is.0 first is.1) ∙ seen_there side is.0 (acts.Cut size) (after calls (fresh first)).seen;
    settled_there = settled_more side (acts.Cut size) is.0 (other side) is.1 ∙ marked_there side false (after calls (fresh first)).settled;
    settled_here = λ now. not_marked side (after calls (fresh first)).settled (subst IsTrue (settled_more side (acts.Cut size) is.0 side is.1) now);
  }
  changes_cut side size (inr is) = changes_none side (Cut size) (cut_same size) is

here_there : (side : Side) (change : List ℕ → List ℕ) (sides : Sides) → AtSide side (λ old new. new ≡ change old) sides (with_side side change sides)
here_there A change sides = record { here = refl; there = refl }
here_there B change sides = record { here = refl; there = refl }

-- ---- over two states of a disk in memory

kept_of : {T E : Type 0} (old new : MemoryState) (side : Side) (act : Act) (result : Result T E) → Recorded old new side act result → Kept old.calls new.calls side act
kept_of old new side act (Ok x) kept = inl (false, kept.ok)
kept_of old new side act (Err e) kept = ⊎_elim (λ is. inl (true, is)) (λ is. inr is) kept.err

rose_of : {T E : Type 0} (before now : ℕ) (result : Result T E) → OnErr result (Rose before now) → IsErr result → Rose before now
rose_of before now (Ok x) rose bad = absurd cc
rose_of before now (Err e) rose bad = rose

module _ {T E : Type 0} (old new : MemoryState) (side : Side) (result : Result T E) where
  pub len_looks : Recorded old new side acts.Look result → Looks (state_of old) (state_of new) (IsErr result)
  len_looks kept = subst (λ (f : Sides). Looks (state_of old) (state_at f new.calls new.faults) (IsErr result)) (sym kept.first)
      (looks_look old.first old.calls new.calls old.faults new.faults (IsErr result) kept.cause.later (rose_of old.faults new.faults result kept.cause.failed) side (kept_of old new side acts.Look result kept))

  pub len_settled : Recorded old new side acts.Look result → KeepsSettled (state_of old) (state_of new)
  len_settled kept = subst (λ (f : Sides). KeepsSettled (state_of old) (state_at f new.calls new.faults)) (sym kept.first)
      (keeps_look old.first old.calls new.calls old.faults new.faults (IsErr result) kept.cause.later (rose_of old.faults new.faults result kept.cause.failed) side (kept_of old new side acts.Look result kept))

  pub sync_looks : Recorded old new side acts.Sync result → Looks (state_of old) (state_of new) (IsErr result)
  sync_looks kept = subst (λ (f : Sides). Looks (state_of old) (state_at f new.calls new.faults) (IsErr result)) (sym kept.first)
      (looks_sync old.first old.calls new.calls old.faults new.faults (IsErr result) kept.cause.later (rose_of old.faults new.faults result kept.cause.failed) side (kept_of old new side acts.Sync result kept))

  pub write_changes : (place : ℕ) (bytes : List ℕ) → Recorded old new side (acts.Write place bytes) result → Changes side (Torn place (length bytes)) (state_of old) (state_of new) (IsErr result)
  write_changes place bytes kept = subst (λ (f : Sides). Changes side (Torn place (length bytes)) (state_of old) (state_at f new.calls new.faults) (IsErr result)) (sym kept.first)
      (changes_write old.first old.calls new.calls old.faults new.faults (IsErr result) kept.cause.later (rose_of old.faults new.faults result kept.cause.failed) side place bytes (kept_of old new side (acts.Write place bytes) result kept))

  pub cut_changes : (size : ℕ) → Recorded old new side (acts.Cut size) result → Changes side (Cut size) (state_of old) (state_of new) (IsErr result)
  cut_changes size kept = subst (λ (f : Sides). Changes side (Cut size) (state_of old) (state_at f new.calls new.faults) (IsErr result)) (sym kept.first)
      (changes_cut old.first old.calls new.calls old.faults new.faults (IsErr result) kept.cause.later (rose_of old.faults new.faults result kept.cause.failed) side size (kept_of old new side (acts.Cut size) result kept))

-- what reads give after a call
pub seen_now : (old new : MemoryState) (side : Side) (act : Act) (failed : Bool) → new.first ≡ old.first → new.calls ≡ more old.calls side act failed → seen_of new ≡ seen_after side failed act (seen_of old)
seen_now old new side act failed same is = ap (λ (f : Sides). (after new.calls (fresh f)).seen) same ∙ seen_more old.calls new.calls side act failed old.first is

seen_before : (old new : MemoryState) → new.first ≡ old.first → new.calls ≡ old.calls → seen_of new ≡ seen_of old
seen_before old new same is = ap (λ (f : Sides). (after new.calls (fresh f)).seen) same ∙ ap (λ (l : List Call). (after l (fresh old.first)).seen) is

-- a call that failed changes nothing that is read
pub failed_seen : {T E : Type 0} (old new : MemoryState) (side : Side) (act : Act) (result : Result T E) → Recorded old new side act result → OnErr result (seen_of new ≡ seen_of old)
failed_seen old new side act (Ok x) kept = tt
failed_seen old new side act (Err e) kept = ⊎_elim (λ is. seen_now old new side act true kept.first is) (λ is. seen_before old new kept.first is) kept.err

pub write_written : {T E : Type 0} (old new : MemoryState) (side : Side) (place : ℕ) (bytes : List ℕ) (result : Result T E) → Recorded old new side (acts.Write place bytes) result → OnOk result (AtSide side (Holds place bytes) (seen_of old) (seen_of new))
write_written old new side place bytes (Ok x) kept = subst (AtSide side (Holds place bytes) (seen_of old)) (sym (seen_now old new side (acts.Write place bytes) false kept.first kept.ok)) (here_there side (overwritten place bytes) (seen_of old))
write_written old new side place bytes (Err e) kept = tt

pub cut_cut : {T E : Type 0} (old new : MemoryState) (side : Side) (size : ℕ) (result : Result T E) → Recorded old new side (acts.Cut size) result → OnOk result (AtSide side (λ was now. now ≡ take size was) (seen_of old) (seen_of new))
cut_cut old new side size (Ok x) kept = subst (AtSide side (λ was now. now ≡ take size was) (seen_of old)) (sym (seen_now old new side (acts.Cut size) false kept.first kept.ok)) (here_there side (take size) (seen_of old))
cut_cut old new side size (Err e) kept = tt

pub sync_durable : {T E : Type 0} (old new : MemoryState) (side : Side) (result : Result T E) → Recorded old new side acts.Sync result → OnOk result ((image : Sides) → (state_of new).images image → on side image ≡ on side (seen_of old))
sync_durable old new side (Ok x) kept =
    subst (λ (f : Sides). (image : Sides) → (state_at f new.calls new.faults).images image → on side image ≡ on side (seen_of old)) (sym kept.first)
    (synced old.first old.calls new.calls old.faults old.faults ⊥ (omega arith) (λ e. absurd e) side kept.ok)
sync_durable old new side (Err e) kept = tt

pub sync_settles : {T E : Type 0} (old new : MemoryState) (side : Side) (result : Result T E) → Recorded old new side acts.Sync result → Settles side (state_of old) (state_of new) result
sync_settles {T} {E} old new side (Ok x) kept =
    let r : Result T E = Ok x in
    subst (λ (f : Sides). Settles side (state_of old) (state_at f new.calls new.faults) r) (sym kept.first) (record {
      here = λ told. settled_here old.first old.calls new.calls old.faults old.faults ⊥ (omega arith) (λ e. absurd e) side kept.ok;
      there = settled_there old.first old.calls new.calls old.faults old.faults ⊥ (omega arith) (λ e. absurd e) side (inl (false, kept.ok));
      failed = tt;
    })
sync_settles {T} {E} old new side (Err e) kept =
    let r : Result T E = Err e in
    subst (λ (f : Sides). Settles side (state_of old) (state_at f new.calls new.faults) r) (sym kept.first) (record {
      here = λ told. tt;
      there = settled_there old.first old.calls new.calls old.faults old.faults ⊥ (omega arith) (λ e. absurd e) side (kept_of old new side acts.Sync r kept);
      failed = failed_sync old.first old.calls new.calls old.faults old.faults ⊥ (omega arith) (λ e. absurd e) side kept.err;
    })
