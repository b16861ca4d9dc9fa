use Rattle.std.proofs.Common.{◌≡◌, ◌+◌, ap, refl, [], arith}
use Rattle.slee_disk.proofs.Moments.{clean_told}
use Rattle.commit_journal.specs.Spelling.{records_size}
use Rattle.commit_journal.specs.Kept.{with_more}
use Rattle.commit_journal.specs.Journal.{kept_by}
use Rattle.commit_journal.proofs.Writes.{stands_ends}
use Rattle.commit_journal.proofs.Sound.{runs, not_so, whole_in, idle_view, flushed_whole, sound_seen, ready_if, clean_stands, nothing_done, flushed_payloads, flushed_seen, flushed_sound, same_view}
use Rattle.commit_journal.proofs.Bytes.{written_on}
use Rattle.commit_journal.proofs.journal.Journal.flush.Goals as goal

-- ---- nothing is written

pub returns-then-is_empty-clause-flushed : goal.returns-then-is_empty-clause-flushed
returns-then-is_empty-clause-flushed g c =
    let running = runs _ _ (ap (λ v. v.stage) c.self.view_is) c.requires in
    let none = c.is_empty.ensures.0 c.if-is_empty.true in
    rw (← c.self.view_is) (λ told. record {
      same = idle_view _ none;
      seen = sound_seen _ _ _ _ _ _ c.self.invariant running told;
      whole = λ ready. whole_in _ _ _ (c.self.invariant.ready ready told);
      written = λ some. absurd (some none);
      beside = refl;
    })

pub returns-then-is_empty-clause-acknowledged : goal.returns-then-is_empty-clause-acknowledged
returns-then-is_empty-clause-acknowledged g c =
    let disk = g.D.Disk.disk c.self.inside.disk in
    let running = runs _ _ (ap (λ v. v.stage) c.self.view_is) c.requires in
    rw (← c.self.view_is) (λ clean. record {
      images = clean_stands _ _ disk clean (sound_seen _ _ _ _ _ _ c.self.invariant running (clean_told disk clean));
      clean = clean;
    })

pub returns-then-is_empty-clause-any_moment : goal.returns-then-is_empty-clause-any_moment
returns-then-is_empty-clause-any_moment g c =
    let disk = g.D.Disk.disk c.self.inside.disk in
    let running = runs _ _ (ap (λ v. v.stage) c.self.view_is) c.requires in
    rw (← c.self.view_is) (λ clean. nothing_done _ _ c.self.inside.batch disk clean (sound_seen _ _ _ _ _ _ c.self.invariant running (clean_told disk clean)))

-- ---- the batch is written

pub write_batch-requires : goal.write_batch-requires
write_batch-requires g c =
    let some = not_so c.is_empty.result _ c.if-is_empty.false c.is_empty.ensures in
    let ready = ready_if _ _ _ _ _ _ c.self.invariant (runs _ _ (ap (λ v. v.stage) c.self.view_is) c.requires) some in
    record { some = some; room = omega (arith, c.self.invariant.room); shut = λ told. stands_ends _ _ _ (c.self.invariant.ready ready told) }

pub invariant_of-self : goal.invariant_of-self
invariant_of-self g c =
    let old = g.D.Disk.disk c.self.inside.disk in
    let kept = kept_by c.self.inside.side c.self.inside.format c.self.inside.generation c.self.inside.deployment c.self.inside.snapshot old in
    let some = not_so c.is_empty.result _ c.if-is_empty.false c.is_empty.ensures in
    let ready = ready_if _ _ _ _ _ _ c.self.invariant (runs _ _ (ap (λ v. v.stage) c.self.view_is) c.requires) some in
    flushed_sound _ kept _ c.self.inside.batch _ old (g.D.Disk.disk c.write_batch.new.disk) c.self.invariant ready c.write_batch.ensures.told
    (λ told stands. c.in-Ok.ensures.acknowledged kept refl told stands) c.size.result c.clear.new.self c.size.ensures.size c.clear.ensures

pub returns-in-Ok-clause-flushed : goal.returns-in-Ok-clause-flushed
returns-in-Ok-clause-flushed g c =
    let old = g.D.Disk.disk c.self.inside.disk in
    let new = g.D.Disk.disk c.write_batch.new.disk in
    let kept = kept_by c.self.inside.side c.self.inside.format c.self.inside.generation c.self.inside.deployment c.self.inside.snapshot old in
    let some = not_so c.is_empty.result _ c.if-is_empty.false c.is_empty.ensures in
    let ready = ready_if _ _ _ _ _ _ c.self.invariant (runs _ _ (ap (λ v. v.stage) c.self.view_is) c.requires) some in
    let count : c.self.inside.end + c.size.result + 1 + records_size c.clear.new.self ≡ c.self.inside.end + 1 + records_size c.self.inside.batch = omega (arith, c.size.ensures.size, ap records_size c.clear.ensures) in
    rw (← c.self.view_is) (λ told.
    let stands = c.self.invariant.ready ready told in
    let payloads = flushed_payloads _ kept _ c.self.inside.batch _ old new c.self.invariant ready c.write_batch.ensures.told (λ told stands. c.in-Ok.ensures.acknowledged kept refl told stands) told in
    record {
      same = same_view c.write_batch.new.disk _ kept _ _ c.self.inside.batch c.clear.new.self [] _ _ _ payloads c.clear.ensures count;
      seen = flushed_seen _ kept _ c.self.inside.batch _ old new c.self.invariant ready c.write_batch.ensures.told (λ told stands. c.in-Ok.ensures.acknowledged kept refl told stands) told;
      whole = λ _. flushed_whole _ kept _ c.self.inside.batch _ old new c.self.invariant ready c.write_batch.ensures.told (λ told stands. c.in-Ok.ensures.acknowledged kept refl told stands) told;
      written = λ _. written_on (with_more kept c.self.inside.batch) _ new (c.in-Ok.ensures.acknowledged kept refl told stands) (c.in-Ok.ensures.written kept refl told stands);
      beside = c.in-Ok.ensures.beside told;
    })

pub returns-in-Ok-clause-acknowledged : goal.returns-in-Ok-clause-acknowledged
returns-in-Ok-clause-acknowledged g c =
    let old = g.D.Disk.disk c.self.inside.disk in
    let new = g.D.Disk.disk c.write_batch.new.disk in
    let kept = kept_by c.self.inside.side c.self.inside.format c.self.inside.generation c.self.inside.deployment c.self.inside.snapshot old in
    let some = not_so c.is_empty.result _ c.if-is_empty.false c.is_empty.ensures in
    let ready = ready_if _ _ _ _ _ _ c.self.invariant (runs _ _ (ap (λ v. v.stage) c.self.view_is) c.requires) some in
    rw (← c.self.view_is) (λ clean. record {
      images = clean_stands _ _ new (c.in-Ok.ensures.rest clean) (flushed_seen _ kept _ c.self.inside.batch _ old new c.self.invariant ready c.write_batch.ensures.told
          (λ told stands. c.in-Ok.ensures.acknowledged kept refl told stands) (clean_told old clean));
      clean = c.in-Ok.ensures.rest clean;
    })
