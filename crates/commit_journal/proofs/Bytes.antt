-- The bytes that a journal leaves on the sides of its disk.
use Rattle.std.proofs.Common.{◌≡◌, ◌≢◌, ◌+◌, ℕ, List, [], take, sym, ◌∙◌, ap, subst, arith}
use Rattle.slee_disk.specs.declared.side.Side.{Side}
use Rattle.slee_disk.specs.Sides.{Sides, other}
use Rattle.slee_disk.specs.Disk.{DiskState}
use Rattle.commit_journal.specs.declared.format.Format.TheVariants.{Two}
use Rattle.commit_journal.specs.declared.stage.Stage.{Stage}
use Rattle.commit_journal.specs.declared.stage.Stage.TheVariants.{Ready}
use Rattle.commit_journal.specs.Spelling.{size}
use Rattle.commit_journal.specs.Reading.{Kept}
use Rattle.commit_journal.specs.Kept.{StandsIn, StandsFound, with_more, side_renewed, renewed}
use Rattle.commit_journal.specs.Written.{IsWritten, IsUntouched}
use Rattle.commit_journal.specs.Journal.{View, kept_by, IsFlushed, IsRenewed}
use Rattle.commit_journal.proofs.Sizes.{length-spelled}
use Rattle.commit_journal.proofs.Rewrites.{other_twice}
use Rattle.commit_journal.proofs.Sound.{kept_on}
use Rattle.commit_journal.proofs.Begins.{same_payloads}
use Rattle.commit_journal.proofs.Renewals.{same_renewed}

-- what is written is what is read
pub written_on : (kept : Kept) (at : ℕ) (new : DiskState) → StandsIn kept at [] new.seen → IsWritten kept new.seen → IsWritten (kept_on kept new) new.seen
written_on kept at new stands written =
    subst (λ (ps : List (List ℕ)). IsWritten (record { side = kept.side; head = kept.head; payloads = ps }) new.seen) (sym (same_payloads kept at new stands)) written

-- what stands before the cut, by its size
pub cut_size : (kept : Kept) (at : ℕ) (sides : Sides) (old new : List ℕ) → StandsFound kept at sides → new ≡ take (at + 1) old → new ≡ take (size kept.head kept.payloads) old
cut_size kept at sides old new found cut =
    let n : at + 1 ≡ size kept.head kept.payloads = omega (arith, found.stands.place, length-spelled kept.head kept.payloads) in
    cut ∙ ap (λ k. take k old) n

-- the fields of a renewed journal say the same of the bytes
pub written_renewed : (stage : Stage) (kept : Kept) (snapshot : List ℕ) (side : Side) (generation : ℕ) (disk : DiskState) → side ≡ side_renewed stage kept.side → generation ≡ (renewed stage kept snapshot).head.generation
    → IsWritten (kept_on (renewed stage kept snapshot) disk) disk.seen → IsWritten (kept_by side Two generation kept.head.deployment snapshot disk) disk.seen
written_renewed stage kept snapshot side generation disk p q written = subst (λ (k : Kept). IsWritten k disk.seen) (same_renewed stage kept snapshot side generation disk p q) written

-- the side beside the renewed one is the one that counted
pub beside_ready : (stage : Stage) (kept : Kept) (mid new : Sides) → stage ≡ Ready → IsUntouched (other (side_renewed stage kept.side)) mid new → IsWritten kept mid → IsWritten kept new
beside_ready stage kept mid new is_ready same written =
    let side_is : other (side_renewed stage kept.side) ≡ kept.side = ap (λ (s : Stage). other (side_renewed s kept.side)) is_ready ∙ other_twice kept.side in
    subst (λ (s : Side). IsUntouched s mid new) side_is same ∙ written

-- a journal that was flushed and then renewed
pub renewed_through : {D : Type 0} (state : D → DiskState) (old mid new : View D) (snapshot : List ℕ) → IsFlushed state old mid → (old.batch ≡ [] → mid ≡ old) → (old.batch ≢ [] → old.stage ≡ Ready)
    → IsRenewed state mid snapshot new → IsRenewed state old snapshot new
renewed_through {D} state old mid new snapshot flushed idle is_ready renewal = record {
  same = renewal.same ∙ ap (λ (v : View D). record { disk = new.disk; stage = Ready; kept = renewed v.stage v.kept snapshot; batch = []; length = new.length; records = []; limit = v.limit }) flushed.same;
  durable = renewal.durable;
  written = renewal.written;
  beside = λ none. subst (λ (v : View D). IsUntouched (other (side_renewed v.stage v.kept.side)) (state v.disk).seen (state new.disk).seen) (idle none) (renewal.beside empty);
  beside_flushed = λ some.
      beside_ready old.stage (with_more old.kept old.batch) (state mid.disk).seen (state new.disk).seen (is_ready some)
      (subst (λ (v : View D). IsUntouched (other (side_renewed v.stage v.kept.side)) (state mid.disk).seen (state new.disk).seen) flushed.same (renewal.beside empty))
      (subst (λ (v : View D). IsWritten v.kept (state mid.disk).seen) flushed.same (flushed.written some));
}
  where
    empty : mid.batch ≡ []
    empty = ap (λ (v : View D). v.batch) flushed.same
