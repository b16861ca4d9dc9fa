-- What a stop leaves is one of the images that a crash may leave.
use Rattle.std.proofs.Common.{◌≡◌, ◌⊎◌, inl, inr, ⊎_elim, ℕ, ◌+◌, ◌-◌, ◌≤◌, min, Bool, true, false, List, [], ◌∷◌, ◌++◌, length, take, drop, replicate, refl, sym, ◌∙◌, ap, subst, arith, length-append, length-take, take-take}
use Rattle.std.proofs.Math.Seq.{drop-append_seam}
use Rattle.std.proofs.lemmas.List.{take-append-le, take_min, length-replicate, length-drop}
use Rattle.slee_disk.specs.declared.side.Side.{Side}
use Rattle.slee_disk.specs.declared.side.Side.TheVariants.{A, B}
use Rattle.slee_disk.specs.declared.call.Act.{Act}
use Rattle.slee_disk.specs.declared.call.Act.TheVariants as acts
use Rattle.slee_disk.specs.declared.call.Call.{Call}
use Rattle.slee_disk.specs.Sides.{Sides, on, other, sides_of, filled, Torn, Cut, overwritten}
use Rattle.slee_disk.specs.Calls.{Instant, with_side, Stepped, seen_after, done, after, fresh, torn_piece, Stopped, left_after, stopped_by, stopped, image_of}
use Rattle.slee_disk.specs.Instants.{seen_there}
use Rattle.slee_disk.specs.MemoryDisk.{MemoryState, state_of}
use Rattle.slee_disk.proofs.Moments.{same_sides}
use Rattle.slee_disk.proofs.Recording.{torn_same, cut_same, done_seen}
use Rattle.slee_disk.proofs.Overwrites.{length_filled}

-- ---- one side

length_torn : (part fill : ℕ) (bytes : List ℕ) → length (torn_piece part fill bytes) ≡ length bytes
length_torn part fill bytes =
    length-append (take part bytes) (replicate (length bytes - part) fill)
    ∙ omega (arith, length-take part bytes, length-replicate (length bytes - part) fill)

length_front : (at : ℕ) (old : List ℕ) → length (take at (filled at old)) ≡ at
length_front at old = omega (arith, length-take at (filled at old), length_filled at old)

length_written : (at : ℕ) (piece old : List ℕ) → length (overwritten at piece old) ≡ at + length piece + (length old - (at + length piece))
length_written at piece old =
    length-append (take at (filled at old) ++ piece) (drop (at + length piece) old)
    ∙ omega (arith, length-append (take at (filled at old)) piece, length_front at old, length-drop (at + length piece) old)

front_written : (at m : ℕ) (piece old : List ℕ) → m ≤ at → m ≤ length old → take m (overwritten at piece old) ≡ take m old
front_written at m piece old within inside =
    let front = take at (filled at old) in
    take-append-le m (front ++ piece) (drop (at + length piece) old) (omega (arith, length-append front piece, length_front at old))
    ∙ take-append-le m front piece (omega (arith, length_front at old))
    ∙ take-take m at (filled at old) within
    ∙ take-append-le m old (replicate (at - length old) 0) inside

-- other bytes written over a side are what a write of as many bytes may leave
torn_over : (at : ℕ) (piece old : List ℕ) (n : ℕ) → length piece ≡ n → Torn at n old (overwritten at piece old)
torn_over at piece old n size =
    let long : length (take at (filled at old) ++ piece) ≡ at + n = length-append (take at (filled at old)) piece ∙ omega (arith, length_front at old, size) in
    record {
      before = front_written at (min at (length old)) piece old (omega arith) (omega arith) ∙ take_min at old;
      after = ap (λ k. drop k (overwritten at piece old)) (sym long) ∙ drop-append_seam (take at (filled at old) ++ piece) (drop (at + length piece) old) ∙ ap (λ k. drop (at + k) old) size;
      no_shorter = omega (arith, length_written at piece old, size);
      no_longer = omega (arith, length_written at piece old, size);
    }

cut_is_cut : (size : ℕ) (old : List ℕ) → Cut size old (take size old)
cut_is_cut size old = record { before = take-take size size old (omega arith); no_shorter = omega (arith, length-take size old); no_longer = omega (arith, length-take size old) }

-- ---- two sides

-- each side is as it is read, or as a stop leaves it
abbrev Picked : Stopped → Sides → Type 0
Picked stop image = (which : Side) → (on which image ≡ on which stop.seen) ⊎ (on which image ≡ on which stop.left)

-- whichever is picked on each side, a crash may leave it
abbrev Covers : Stopped → (Sides → Type 0) → Type 0
Covers stop images = (image : Sides) → Picked stop image → images image

on_side : (side : Side) (here there : List ℕ) → on side (sides_of side here there) ≡ here
on_side A here there = refl
on_side B here there = refl

on_other : (side : Side) (here there : List ℕ) → on (other side) (sides_of side here there) ≡ there
on_other A here there = refl
on_other B here there = refl

-- what holds of a side and of the other holds of each
each_side : (side : Side) (P : Side → Type 0) → P side → P (other side) → (which : Side) → P which
each_side A P here there A = here
each_side A P here there B = there
each_side B P here there A = there
each_side B P here there B = here

covers_step : (side : Side) (step : List ℕ → List ℕ → Type 0) (stop next : Stopped) (images : Sides → Type 0)
    → step (on side stop.seen) (on side next.seen) → step (on side stop.left) (on side next.left)
    → on (other side) next.seen ≡ on (other side) stop.seen → on (other side) next.left ≡ on (other side) stop.left
    → Covers stop images → Covers next (Stepped side step images)
covers_step side step stop next images seen left seen_there left_there covers image picked =
    let there : (on (other side) image ≡ on (other side) stop.seen) ⊎ (on (other side) image ≡ on (other side) stop.left)
    = ⊎_elim (λ is. inl (is ∙ seen_there)) (λ is. inr (is ∙ left_there)) (picked (other side)) in
    let from : (c : List ℕ) → (c ≡ on side stop.seen) ⊎ (c ≡ on side stop.left) → step c (on side image) → Stepped side step images image
    = λ c is does. (
      sides_of side c (on (other side) image),
      covers (sides_of side c (on (other side) image)) (each_side side (λ which. (on which (sides_of side c (on (other side) image)) ≡ on which stop.seen) ⊎ (on which (sides_of side c (on (other side) image)) ≡ on which stop.left))
          (⊎_elim (λ same. inl (on_side side c (on (other side) image) ∙ same)) (λ same. inr (on_side side c (on (other side) image) ∙ same)) is)
          (⊎_elim (λ same. inl (on_other side c (on (other side) image) ∙ same)) (λ same. inr (on_other side c (on (other side) image) ∙ same)) there)),
      record { here = subst (λ (x : List ℕ). step x (on side image)) (sym (on_side side c (on (other side) image))) does; there = sym (on_other side c (on (other side) image)) },
    ) in
    ⊎_elim
    (λ is. from (on side stop.seen) (inl refl) (subst (step (on side stop.seen)) (sym is) seen))
    (λ is. from (on side stop.left) (inr refl) (subst (step (on side stop.left)) (sym is) left))
    (picked side)

seen_other : (side : Side) (change : List ℕ → List ℕ) (sides : Sides) → on (other side) (with_side side change sides) ≡ on (other side) sides
seen_other side change sides = on_other side (change (on side sides)) (on (other side) sides)

seen_here : (side : Side) (change : List ℕ → List ℕ) (sides : Sides) → on side (with_side side change sides) ≡ change (on side sides)
seen_here side change sides = on_side side (change (on side sides)) (on (other side) sides)

-- what is read after a write or a cut is what it may leave, whether it failed or not
write_read : (side : Side) (failed : Bool) (at : ℕ) (bytes : List ℕ) (seen : Sides) → Torn at (length bytes) (on side seen) (on side (seen_after side failed (acts.Write at bytes) seen))
write_read side true at bytes seen = torn_same at (length bytes) (on side seen)
write_read side false at bytes seen = subst (Torn at (length bytes) (on side seen)) (sym (seen_here side (overwritten at bytes) seen)) (torn_over at bytes (on side seen) (length bytes) refl)

cut_read : (side : Side) (failed : Bool) (size : ℕ) (seen : Sides) → Cut size (on side seen) (on side (seen_after side failed (acts.Cut size) seen))
cut_read side true size seen = cut_same size (on side seen)
cut_read side false size seen = subst (Cut size (on side seen)) (sym (seen_here side (take size) seen)) (cut_is_cut size (on side seen))

covers_write : (part fill : ℕ) (side : Side) (failed : Bool) (at : ℕ) (bytes : List ℕ) (stop : Stopped) (images : Sides → Type 0) → Covers stop images
    → Covers (record { seen = seen_after side failed (acts.Write at bytes) stop.seen; left = left_after part fill side failed (acts.Write at bytes) stop }) (Stepped side (Torn at (length bytes)) images)
covers_write part fill side failed at bytes stop images covers =
    covers_step side (Torn at (length bytes)) stop (record { seen = seen_after side failed (acts.Write at bytes) stop.seen; left = left_after part fill side failed (acts.Write at bytes) stop }) images
    (write_read side failed at bytes stop.seen)
    (subst (Torn at (length bytes) (on side stop.left)) (sym (seen_here side (overwritten at (torn_piece part fill bytes)) stop.left)) (torn_over at (torn_piece part fill bytes) (on side stop.left) (length bytes) (length_torn part fill bytes)))
    (seen_there side failed (acts.Write at bytes) stop.seen)
    (seen_other side (overwritten at (torn_piece part fill bytes)) stop.left)
    covers

covers_cut : (part fill : ℕ) (side : Side) (failed : Bool) (size : ℕ) (stop : Stopped) (images : Sides → Type 0) → Covers stop images
    → Covers (record { seen = seen_after side failed (acts.Cut size) stop.seen; left = left_after part fill side failed (acts.Cut size) stop }) (Stepped side (Cut size) images)
covers_cut part fill side failed size stop images covers =
    covers_step side (Cut size) stop (record { seen = seen_after side failed (acts.Cut size) stop.seen; left = left_after part fill side failed (acts.Cut size) stop }) images
    (cut_read side failed size stop.seen)
    (subst (Cut size (on side stop.left)) (sym (seen_here side (take size) stop.left)) (cut_is_cut size (on side stop.left)))
    (seen_there side failed (acts.Cut size) stop.seen)
    (seen_other side (take size) stop.left)
    covers

covers_sync : (side : Side) (stop : Stopped) (images : Sides → Type 0) → Covers stop images
    → Covers (record { seen = stop.seen; left = sides_of side (on side stop.seen) (on (other side) stop.left) }) (λ image. images image × (on side image ≡ on side stop.seen))
covers_sync side stop images covers image picked =
    let here : on side image ≡ on side stop.seen = ⊎_elim (λ is. is) (λ is. is ∙ on_side side (on side stop.seen) (on (other side) stop.left)) (picked side) in
    let there : (on (other side) image ≡ on (other side) stop.seen) ⊎ (on (other side) image ≡ on (other side) stop.left) = ⊎_elim (λ is. inl is) (λ is. inr (is ∙ on_other side (on side stop.seen) (on (other side) stop.left))) (picked (other side)) in
    (covers image (each_side side (λ which. (on which image ≡ on which stop.seen) ⊎ (on which image ≡ on which stop.left)) (inl here) there), here)

covers_done : (part fill : ℕ) (side : Side) (failed : Bool) (act : Act) (stop : Stopped) (at : Instant) → stop.seen ≡ at.seen → Covers stop at.images
    → Covers (record { seen = seen_after side failed act stop.seen; left = left_after part fill side failed act stop }) (done side failed act at).images
covers_done part fill side true acts.Look stop at same covers = covers
covers_done part fill side false acts.Look stop at same covers = covers
covers_done part fill side failed (acts.Write place bytes) stop at same covers = covers_write part fill side failed place bytes stop at.images covers
covers_done part fill side failed (acts.Cut size) stop at same covers = covers_cut part fill side failed size stop at.images covers
covers_done part fill side true acts.Sync stop at same covers = covers
covers_done part fill side false acts.Sync stop at same covers =
    subst (λ (seen : Sides). Covers (record { seen = stop.seen; left = sides_of side (on side stop.seen) (on (other side) stop.left) }) (λ image. at.images image × (on side image ≡ on side seen))) same (covers_sync side stop at.images covers)

covers_after : (part fill : ℕ) (calls : List Call) (stop : Stopped) (at : Instant) → stop.seen ≡ at.seen → Covers stop at.images
    → Covers (stopped part fill calls stop) (after calls at).images
covers_after part fill [] stop at same covers = covers
covers_after part fill (call ∷ calls) stop at same covers =
    covers_after part fill calls (stopped_by part fill call stop) (done call.side call.failed call.act at)
    (ap (seen_after call.side call.failed call.act) same ∙ sym (done_seen call.side call.failed call.act at))
    (covers_done part fill call.side call.failed call.act stop at same covers)

covers_first : (first : Sides) → Covers (record { seen = first; left = first }) (fresh first).images
covers_first first image picked = same_sides A image first (⊎_elim (λ is. is) (λ is. is) (picked A)) (⊎_elim (λ is. is) (λ is. is) (picked B))

pub image_possible : (part fill : ℕ) (calls : List Call) (first : Sides) → (after calls (fresh first)).images (image_of part fill calls first)
image_possible part fill calls first =
    covers_after part fill calls (record { seen = first; left = first }) (fresh first) refl (covers_first first) (image_of part fill calls first) (λ which. inr refl)

-- so it is one of the images of each moment from an earlier one on
pub image_is_left : (m : MemoryState) (call part fill t : ℕ) (image : Sides) → image ≡ image_of part fill (take call m.calls) m.first → call ≤ length m.calls → t ≤ call → (state_of m).since t image
image_is_left m call part fill t image is recorded le = subst (λ (i : Sides). (state_of m).since t i) (sym is) (call, le, recorded, image_possible part fill (take call m.calls) m.first)
