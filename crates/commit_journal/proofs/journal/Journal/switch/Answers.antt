use Rattle.std.proofs.Common.{◌≡◌, ap, refl, subst, ◌<◌, ◌≤◌, ◌^◌, length, IsTrue, [], ◌∷◌, ◌++◌, arith}
use Rattle.slee_disk.specs.declared.side.Side.{Side}
use Rattle.slee_disk.specs.Sides.{on, other}
use Rattle.slee_disk.specs.Disk.{LeavesOnly}
use Rattle.slee_disk.proofs.Moments.{clean_told}
use Rattle.commit_journal.specs.Spelling.{header, size}
use Rattle.commit_journal.specs.Gate.{IsOpened}
use Rattle.commit_journal.specs.Rewriting.{IsRewritten}
use Rattle.commit_journal.specs.Kept.{renewed, side_renewed, generation_renewed}
use Rattle.commit_journal.specs.Beginning.{MayLeave}
use Rattle.commit_journal.specs.Journal.{kept_by}
use Rattle.commit_journal.proofs.Sound.{runs}
use Rattle.commit_journal.proofs.Renewals.{moved, new_head_fits, switched_stands, switched_sound, switched_durable, switched_kept, switched_leaves, view_kept}
use Rattle.commit_journal.proofs.Rewrites.{spelled_here}
use Rattle.commit_journal.proofs.Bytes.{written_on, written_renewed}
use Rattle.commit_journal.proofs.journal.Journal.switch.Goals as goal

pub invariant_of-self : goal.invariant_of-self
invariant_of-self g c =
    let old = g.D.Disk.disk c.self.inside.disk in
    let new = g.D.Disk.disk c.rewrite_side.new.disk in
    let kept = kept_by c.self.inside.side c.self.inside.format c.self.inside.generation c.self.inside.deployment c.self.inside.snapshot old in
    let running = runs _ _ (ap (λ v. v.stage) c.self.view_is) c.requires.running in
    let side = moved _ _ (λ v. c.next_side-side.result.0 ≡ side_renewed v.stage v.kept.side) c.self.view_is c.next_side-side.ensures.side in
    let generation = moved _ _ (λ v. c.next_side-side.result.1 ≡ generation_renewed v.stage v.kept.head.generation) c.self.view_is c.next_side-side.ensures.generation in
    let fits = moved _ _ (λ v. size (renewed v.stage v.kept c.args.snapshot).head [] ≤ v.limit) c.self.view_is c.requires.fits in
    let is = moved _ _ (λ v. c.args.bytes.now ≡ header (renewed v.stage v.kept c.args.snapshot).head ++ 0 ∷ []) c.self.view_is c.requires.bytes in
    let bound : generation_renewed c.self.inside.stage c.self.inside.generation < 2 ^ 64 = omega (arith, generation) in
    let opened = λ (told : IsTrue old.told). subst (λ (s : Side). IsOpened s [] c.args.bytes.now (on (other s) old.seen) new.seen) side (c.in-Ok.ensures.opened told) in
    let none = moved _ _ (λ v. v.batch ≡ []) c.self.view_is c.requires.empty in
    switched_sound c.self.inside.stage kept c.self.inside.end c.self.inside.batch c.self.inside.limit old c.self.invariant running c.args.snapshot c.args.bytes.now fits bound is new c.rewrite_side.ensures.told opened _ _ _ refl none side generation

pub returns-in-Ok-clause-renewed : goal.returns-in-Ok-clause-renewed
returns-in-Ok-clause-renewed g c =
    let old = g.D.Disk.disk c.self.inside.disk in
    let new = g.D.Disk.disk c.rewrite_side.new.disk in
    let kept = kept_by c.self.inside.side c.self.inside.format c.self.inside.generation c.self.inside.deployment c.self.inside.snapshot old in
    let running = runs _ _ (ap (λ v. v.stage) c.self.view_is) c.requires.running in
    let side = moved _ _ (λ v. c.next_side-side.result.0 ≡ side_renewed v.stage v.kept.side) c.self.view_is c.next_side-side.ensures.side in
    let generation = moved _ _ (λ v. c.next_side-side.result.1 ≡ generation_renewed v.stage v.kept.head.generation) c.self.view_is c.next_side-side.ensures.generation in
    let fits = moved _ _ (λ v. size (renewed v.stage v.kept c.args.snapshot).head [] ≤ v.limit) c.self.view_is c.requires.fits in
    let is = moved _ _ (λ v. c.args.bytes.now ≡ header (renewed v.stage v.kept c.args.snapshot).head ++ 0 ∷ []) c.self.view_is c.requires.bytes in
    let bound : generation_renewed c.self.inside.stage c.self.inside.generation < 2 ^ 64 = omega (arith, generation) in
    let opened = λ (told : IsTrue old.told). subst (λ (s : Side). IsOpened s [] c.args.bytes.now (on (other s) old.seen) new.seen) side (c.in-Ok.ensures.opened told) in
    let none = moved _ _ (λ v. v.batch ≡ []) c.self.view_is c.requires.empty in
    let after = renewed c.self.inside.stage kept c.args.snapshot in
    let fit = new_head_fits c.self.inside.stage kept c.self.inside.end c.self.inside.batch c.self.inside.limit old c.self.invariant running c.args.snapshot c.args.bytes.now fits bound is in
    rw (← c.self.view_is) (λ told.
    let stands = switched_stands c.self.inside.stage kept c.self.inside.end c.self.inside.batch c.self.inside.limit old c.self.invariant running c.args.snapshot c.args.bytes.now fits bound is new c.rewrite_side.ensures.told opened told in
    record {
      same = view_kept _ _ _ _ [] _ _ [] _ (switched_kept c.self.inside.stage kept c.self.inside.end c.self.inside.batch c.self.inside.limit old c.self.invariant running c.args.snapshot c.args.bytes.now fits bound is new c.rewrite_side.ensures.told opened _ _ side generation told) none c.clear.ensures.items;
      durable = switched_durable c.self.inside.stage kept c.self.inside.end c.self.inside.batch c.self.inside.limit old c.self.invariant running c.args.snapshot c.args.bytes.now fits bound is new c.rewrite_side.ensures.told opened _ _ side generation told (c.in-Ok.ensures.rest told);
      written = written_renewed c.self.inside.stage kept c.args.snapshot _ _ new side generation (written_on after (length c.args.bytes.now) new stands (spelled_here after.side after.head c.args.bytes.now fit is _ (opened told).here));
      beside = λ _. (opened told).elsewhere;
      beside_flushed = λ some. absurd (some none);
    })

pub returns-in-Ok-clause-any_moment : goal.returns-in-Ok-clause-any_moment
returns-in-Ok-clause-any_moment g c =
    let old = g.D.Disk.disk c.self.inside.disk in
    let new = g.D.Disk.disk c.rewrite_side.new.disk in
    let kept = kept_by c.self.inside.side c.self.inside.format c.self.inside.generation c.self.inside.deployment c.self.inside.snapshot old in
    let running = runs _ _ (ap (λ v. v.stage) c.self.view_is) c.requires.running in
    let side = moved _ _ (λ v. c.next_side-side.result.0 ≡ side_renewed v.stage v.kept.side) c.self.view_is c.next_side-side.ensures.side in
    let generation = moved _ _ (λ v. c.next_side-side.result.1 ≡ generation_renewed v.stage v.kept.head.generation) c.self.view_is c.next_side-side.ensures.generation in
    let fits = moved _ _ (λ v. size (renewed v.stage v.kept c.args.snapshot).head [] ≤ v.limit) c.self.view_is c.requires.fits in
    let is = moved _ _ (λ v. c.args.bytes.now ≡ header (renewed v.stage v.kept c.args.snapshot).head ++ 0 ∷ []) c.self.view_is c.requires.bytes in
    let bound : generation_renewed c.self.inside.stage c.self.inside.generation < 2 ^ 64 = omega (arith, generation) in
    rw (← c.self.view_is) (λ clean. switched_leaves c.self.inside.stage kept c.self.inside.end c.self.inside.batch c.self.inside.limit old c.self.invariant running c.args.snapshot c.args.bytes.now fits bound is new (clean_told old clean)
    (subst (λ (s : Side). LeavesOnly old new (IsRewritten s c.args.bytes.now old.seen)) side (c.rewrite_side.ensures.any_moment clean)))

pub returns-in-Err-clause-any_moment : goal.returns-in-Err-clause-any_moment
returns-in-Err-clause-any_moment g c =
    let old = g.D.Disk.disk c.self.inside.disk in
    let new = g.D.Disk.disk c.rewrite_side.new.disk in
    let kept = kept_by c.self.inside.side c.self.inside.format c.self.inside.generation c.self.inside.deployment c.self.inside.snapshot old in
    let running = runs _ _ (ap (λ v. v.stage) c.self.view_is) c.requires.running in
    let side = moved _ _ (λ v. c.next_side-side.result.0 ≡ side_renewed v.stage v.kept.side) c.self.view_is c.next_side-side.ensures.side in
    let generation = moved _ _ (λ v. c.next_side-side.result.1 ≡ generation_renewed v.stage v.kept.head.generation) c.self.view_is c.next_side-side.ensures.generation in
    let fits = moved _ _ (λ v. size (renewed v.stage v.kept c.args.snapshot).head [] ≤ v.limit) c.self.view_is c.requires.fits in
    let is = moved _ _ (λ v. c.args.bytes.now ≡ header (renewed v.stage v.kept c.args.snapshot).head ++ 0 ∷ []) c.self.view_is c.requires.bytes in
    let bound : generation_renewed c.self.inside.stage c.self.inside.generation < 2 ^ 64 = omega (arith, generation) in
    rw (← c.self.view_is) (λ clean. switched_leaves c.self.inside.stage kept c.self.inside.end c.self.inside.batch c.self.inside.limit old c.self.invariant running c.args.snapshot c.args.bytes.now fits bound is new (clean_told old clean)
    (subst (λ (s : Side). LeavesOnly old new (IsRewritten s c.args.bytes.now old.seen)) side (c.rewrite_side.ensures.any_moment clean)))

pub returns-in-Ok-clause-stays : goal.returns-in-Ok-clause-stays
returns-in-Ok-clause-stays g c =
    let side = moved _ _ (λ v. c.next_side-side.result.0 ≡ side_renewed v.stage v.kept.side) c.self.view_is c.next_side-side.ensures.side in
    rw (← c.self.view_is) (subst (λ (s : Side). MayLeave s 0 (g.D.Disk.disk c.self.inside.disk) (g.D.Disk.disk c.rewrite_side.new.disk)) side c.rewrite_side.ensures.stays)

pub returns-in-Err-clause-stays : goal.returns-in-Err-clause-stays
returns-in-Err-clause-stays g c =
    let side = moved _ _ (λ v. c.next_side-side.result.0 ≡ side_renewed v.stage v.kept.side) c.self.view_is c.next_side-side.ensures.side in
    rw (← c.self.view_is) (subst (λ (s : Side). MayLeave s 0 (g.D.Disk.disk c.self.inside.disk) (g.D.Disk.disk c.rewrite_side.new.disk)) side c.rewrite_side.ensures.stays)
