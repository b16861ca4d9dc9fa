-- What a crash may leave by calls to one side, whatever was pending.
use Rattle.std.proofs.Common.{◌≡◌, ◌≢◌, ℕ, ◌+◌, ◌∙◌, refl, subst, sym, arith}
use Rattle.slee_disk.specs.declared.side.Side.{Side}
use Rattle.slee_disk.specs.Sides.{Sides, Cut, Torn}
use Rattle.slee_disk.specs.Disk.{DiskState, Looks, Changes}
use Rattle.commit_journal.specs.declared.stage.Stage.{Stage}
use Rattle.commit_journal.specs.declared.stage.Stage.TheVariants as stages
use Rattle.commit_journal.specs.Spelling.{size}
use Rattle.commit_journal.specs.Reading.{Kept}
use Rattle.commit_journal.specs.Kept.{StandsFound}
use Rattle.commit_journal.specs.Beginning.{MayLeave, size_left}
use Rattle.commit_journal.proofs.Sizes.{length-spelled}

pub leaves_itself : (side : Side) (count : ℕ) (old new : DiskState) → ((image : Sides) → new.images image → old.images image) → MayLeave side count old new
leaves_itself side count old new same = record { each = λ image now. (image, same image now, record { here = refl; there = refl }) }

-- one run of calls, and then another
pub leaves_more : (side : Side) (count : ℕ) (old mid new : DiskState) → MayLeave side count old mid → MayLeave side count mid new → MayLeave side count old new
leaves_more side count old mid new first second = record {
  each = λ image now.
      let here = second.each image now in
      let before = first.each here.0 here.1 in
      (before.0, before.1, record { here = here.2.here ∙ before.2.here; there = here.2.there ∙ before.2.there });
}

-- a call that changes nothing
pub leaves_look : (side : Side) (count : ℕ) (old new : DiskState) (failed : Type 0) → Looks old new failed → MayLeave side count old new
leaves_look side count old new failed looks = leaves_itself side count old new looks.images

pub leaves_cut : (side : Side) (count : ℕ) (old new : DiskState) (failed : Type 0) → Changes side (Cut count) old new failed → MayLeave side count old new
leaves_cut side count old new failed changes = record {
  each = λ image now. let from = changes.images image now in (from.0, from.1, record { here = from.2.here.before; there = from.2.there });
}

-- ---- of a blank side nothing has to stay

pub beside_cut : (side : Side) (count : ℕ) (old new : DiskState) (failed : Type 0) → Changes side (Cut count) old new failed → MayLeave side 0 old new
beside_cut side count old new failed changes = record {
  each = λ image now. let from = changes.images image now in (from.0, from.1, record { here = refl; there = from.2.there });
}

pub beside_write : (side : Side) (at count : ℕ) (old new : DiskState) (failed : Type 0) → Changes side (Torn at count) old new failed → MayLeave side 0 old new
beside_write side at count old new failed changes = record {
  each = λ image now. let from = changes.images image now in (from.0, from.1, record { here = refl; there = from.2.there });
}

-- ---- by the stage of a journal

pub left_blank : (stage : Stage) (kept : Kept) (old new : DiskState) → stage ≡ stages.Blank → MayLeave kept.side 0 old new → MayLeave kept.side (size_left stage kept) old new
left_blank stage kept old new blank leaves = subst (λ (s : Stage). MayLeave kept.side (size_left s kept) old new) (sym blank) leaves

size_found : (stage : Stage) (kept : Kept) → stage ≢ stages.Blank → size kept.head kept.payloads ≡ size_left stage kept
size_found stages.Blank kept some = absurd (some refl)
size_found stages.Found kept some = refl
size_found stages.Ready kept some = refl
size_found stages.Stopped kept some = refl

pub left_found : (stage : Stage) (kept : Kept) (end : ℕ) (old new : DiskState) → stage ≢ stages.Blank → StandsFound kept end old.seen → MayLeave kept.side (end + 1) old new → MayLeave kept.side (size_left stage kept) old new
left_found stage kept end old new some found leaves =
    let n : end + 1 ≡ size kept.head kept.payloads = omega (arith, found.stands.place, length-spelled kept.head kept.payloads) in
    subst (λ (k : ℕ). MayLeave kept.side k old new) (n ∙ size_found stage kept some) leaves
