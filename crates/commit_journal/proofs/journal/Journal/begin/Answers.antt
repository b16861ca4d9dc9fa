use Rattle.std.proofs.Common.{◌≡◌, inl, inr, ap, sym, refl, ◌∙◌, subst, ◌≤◌, List, ℕ, [], ◌∷◌, ◌++◌, length, arith}
use Rattle.slee_disk.proofs.Moments.{leaves_what, clean_told}
use Rattle.commit_journal.specs.declared.format.Format.TheVariants.{Two}
use Rattle.commit_journal.specs.declared.stage.Stage.{Stage}
use Rattle.commit_journal.specs.Spelling.{header, size}
use Rattle.commit_journal.specs.Kept.{StandsOrBegun}
use Rattle.commit_journal.specs.Journal.{kept_by, IsSound}
use Rattle.commit_journal.proofs.Sound.{runs, sound_seen}
use Rattle.commit_journal.proofs.Begins.{two_of, idle_leaves, found_in, same_payloads, durable_on, same_kept, cut_sound, head_fits, is_header, begun_stands, begun_image, begun_sound, blank_payloads}
use Rattle.commit_journal.proofs.Rewrites.{spelled_here}
use Rattle.commit_journal.proofs.Bytes.{written_on, cut_size}
use Rattle.commit_journal.proofs.Pending.{leaves_itself, left_blank, left_found}
use Rattle.commit_journal.proofs.journal.Journal.begin.Goals as goal

-- ---- what stands behind the last gate is cut

pub invariant_of-self : goal.invariant_of-self
invariant_of-self g c =
    let old = g.D.Disk.disk c.self.inside.disk in
    let kept = kept_by c.self.inside.side c.self.inside.format c.self.inside.generation c.self.inside.deployment c.self.inside.snapshot old in
    let running = runs _ _ (ap (λ v. v.stage) c.self.view_is) c.requires.running in
    let format = two_of kept.head _ (ap (λ v. v.kept.head) c.self.view_is) c.requires.current in
    cut_sound _ kept _ _ _ old (g.D.Disk.disk c.cut_behind.new.disk) c.self.invariant c.in_default.not-Blank format c.cut_behind.ensures.told
    (λ told. c.in-Ok.ensures.ready kept refl told (found_in _ _ _ _ _ _ c.self.invariant running c.in_default.not-Blank told))

pub returns-in-Ok-clause-begun : goal.returns-in-Ok-clause-begun
returns-in-Ok-clause-begun g c =
    let old = g.D.Disk.disk c.self.inside.disk in
    let new = g.D.Disk.disk c.cut_behind.new.disk in
    let kept = kept_by c.self.inside.side c.self.inside.format c.self.inside.generation c.self.inside.deployment c.self.inside.snapshot old in
    let running = runs _ _ (ap (λ v. v.stage) c.self.view_is) c.requires.running in
    rw (← c.self.view_is) (λ told.
    let found = found_in _ _ _ _ _ _ c.self.invariant running c.in_default.not-Blank told in
    let stands = c.in-Ok.ensures.ready kept refl told found in
    record {
      same = same_kept _ kept _ _ _ _ _ (same_payloads kept c.self.inside.end new stands);
      durable = durable_on kept c.self.inside.end new stands (c.in-Ok.ensures.rest told);
      written = λ blank. absurd (c.in_default.not-Blank blank);
      cut = λ _. cut_size kept c.self.inside.end old.seen _ _ found (c.in-Ok.ensures.cut told).here;
      beside = (c.in-Ok.ensures.cut told).there;
    })

pub returns-in-Ok-clause-any_moment : goal.returns-in-Ok-clause-any_moment
returns-in-Ok-clause-any_moment g c =
    let old = g.D.Disk.disk c.self.inside.disk in
    let kept = kept_by c.self.inside.side c.self.inside.format c.self.inside.generation c.self.inside.deployment c.self.inside.snapshot old in
    let running = runs _ _ (ap (λ v. v.stage) c.self.view_is) c.requires.running in
    rw (← c.self.view_is) (λ clean. leaves_what _ _ _ (StandsOrBegun c.self.inside.stage kept) (c.in-Ok.ensures.any_moment kept refl clean (found_in _ _ _ _ _ _ c.self.invariant running c.in_default.not-Blank (clean_told old clean)))
    (λ image keeps. inr keeps))

-- ---- the first side is begun

pub returns-in_err-bytes-clause-any_moment : goal.returns-in_err-bytes-clause-any_moment
returns-in_err-bytes-clause-any_moment g c =
    let disk = g.D.Disk.disk c.self.inside.disk in
    let running = runs _ _ (ap (λ v. v.stage) c.self.view_is) c.requires.running in
    rw (← c.self.view_is) (λ clean. idle_leaves disk _ clean (inl (sound_seen _ _ _ _ _ _ c.self.invariant running (clean_told disk clean))))

pub invariant_of-self-in-Ok-write_side : goal.invariant_of-self-in-Ok-write_side
invariant_of-self-in-Ok-write_side g c =
    let old = g.D.Disk.disk c.self.inside.disk in
    let kept = kept_by c.self.inside.side c.self.inside.format c.self.inside.generation c.self.inside.deployment c.self.inside.snapshot old in
    let sound = subst (λ (s : Stage). IsSound s kept c.self.inside.end c.self.inside.batch c.self.inside.limit old) c.in-Blank.is c.self.invariant in
    let length_is = ap length c.as_slice-deployment.ensures in
    let none_is = ap length (sound.first refl) in
    let fits : size kept.head [] ≤ c.self.inside.limit = omega (arith, length_is, none_is, c.in_ok-bytes.ensures.fits) in
    let is : c.deref.result.now ≡ header (record { format = Two; generation = c.self.inside.generation; deployment = c.self.inside.deployment; snapshot = [] }) ++ 0 ∷ [] =
    c.deref.ensures.value ∙ c.in_ok-bytes.ensures.bytes ∙ ap (λ (l : List ℕ). header (record { format = Two; generation = c.self.inside.generation; deployment = l; snapshot = [] }) ++ 0 ∷ []) c.as_slice-deployment.ensures in
    begun_sound kept _ _ _ old sound fits (omega arith) c.deref.result.now is (g.D.Disk.disk c.write_side.new.disk) c.len.result (c.len.ensures ∙ c.in_ok-bytes.bytes.ok.0 ∙ sym (ap length c.deref.ensures.value)) c.write_side.ensures.told
    c.in-Ok-write_side.ensures.opened

pub returns-in-Ok-write_side-clause-begun : goal.returns-in-Ok-write_side-clause-begun
returns-in-Ok-write_side-clause-begun g c =
    let old = g.D.Disk.disk c.self.inside.disk in
    let kept = kept_by c.self.inside.side c.self.inside.format c.self.inside.generation c.self.inside.deployment c.self.inside.snapshot old in
    let sound = subst (λ (s : Stage). IsSound s kept c.self.inside.end c.self.inside.batch c.self.inside.limit old) c.in-Blank.is c.self.invariant in
    let length_is = ap length c.as_slice-deployment.ensures in
    let none_is = ap length (sound.first refl) in
    let fits : size kept.head [] ≤ c.self.inside.limit = omega (arith, length_is, none_is, c.in_ok-bytes.ensures.fits) in
    let is : c.deref.result.now ≡ header (record { format = Two; generation = c.self.inside.generation; deployment = c.self.inside.deployment; snapshot = [] }) ++ 0 ∷ [] =
    c.deref.ensures.value ∙ c.in_ok-bytes.ensures.bytes ∙ ap (λ (l : List ℕ). header (record { format = Two; generation = c.self.inside.generation; deployment = l; snapshot = [] }) ++ 0 ∷ []) c.as_slice-deployment.ensures in
    let new = g.D.Disk.disk c.write_side.new.disk in
    let fit = head_fits kept _ _ _ old sound fits (omega arith) c.deref.result.now is in
    let header_is = is_header kept _ _ _ old sound fits (omega arith) c.deref.result.now is in
    rw (← c.self.view_is) (λ told.
    let opened = c.in-Ok-write_side.ensures.opened told in
    let stands = begun_stands kept _ _ _ old sound fits (omega arith) c.deref.result.now is new.seen told opened in
    record {
      same = same_kept _ kept _ _ _ _ _ (same_payloads _ (length c.deref.result.now) new stands ∙ sym (blank_payloads kept _ _ _ old sound told));
      durable = durable_on _ (length c.deref.result.now) new stands (c.in-Ok-write_side.ensures.rest told);
      written = λ _. written_on _ (length c.deref.result.now) new stands (spelled_here kept.side kept.head c.deref.result.now fit header_is _ opened.here);
      cut = λ some. absurd (some c.in-Blank.is);
      beside = opened.elsewhere;
    })

pub returns-in-Ok-write_side-clause-any_moment : goal.returns-in-Ok-write_side-clause-any_moment
returns-in-Ok-write_side-clause-any_moment g c =
    let old = g.D.Disk.disk c.self.inside.disk in
    let kept = kept_by c.self.inside.side c.self.inside.format c.self.inside.generation c.self.inside.deployment c.self.inside.snapshot old in
    let sound = subst (λ (s : Stage). IsSound s kept c.self.inside.end c.self.inside.batch c.self.inside.limit old) c.in-Blank.is c.self.invariant in
    let length_is = ap length c.as_slice-deployment.ensures in
    let none_is = ap length (sound.first refl) in
    let fits : size kept.head [] ≤ c.self.inside.limit = omega (arith, length_is, none_is, c.in_ok-bytes.ensures.fits) in
    let is : c.deref.result.now ≡ header (record { format = Two; generation = c.self.inside.generation; deployment = c.self.inside.deployment; snapshot = [] }) ++ 0 ∷ [] =
    c.deref.ensures.value ∙ c.in_ok-bytes.ensures.bytes ∙ ap (λ (l : List ℕ). header (record { format = Two; generation = c.self.inside.generation; deployment = l; snapshot = [] }) ++ 0 ∷ []) c.as_slice-deployment.ensures in
    rw (← c.self.view_is) (λ clean. leaves_what _ _ _ (StandsOrBegun c.self.inside.stage kept) (c.write_side.ensures.any_moment clean) (λ image is_image.
    subst (λ (s : Stage). StandsOrBegun s kept image) (sym c.in-Blank.is) (begun_image kept _ _ _ old sound fits (omega arith) c.deref.result.now is (clean_told old clean) (blank_payloads kept _ _ _ old sound (clean_told old clean)) image is_image)))

pub returns-clause-any_moment : goal.returns-clause-any_moment
returns-clause-any_moment g c =
    let old = g.D.Disk.disk c.self.inside.disk in
    let kept = kept_by c.self.inside.side c.self.inside.format c.self.inside.generation c.self.inside.deployment c.self.inside.snapshot old in
    let sound = subst (λ (s : Stage). IsSound s kept c.self.inside.end c.self.inside.batch c.self.inside.limit old) c.in-Blank.is c.self.invariant in
    let length_is = ap length c.as_slice-deployment.ensures in
    let none_is = ap length (sound.first refl) in
    let fits : size kept.head [] ≤ c.self.inside.limit = omega (arith, length_is, none_is, c.in_ok-bytes.ensures.fits) in
    let is : c.deref.result.now ≡ header (record { format = Two; generation = c.self.inside.generation; deployment = c.self.inside.deployment; snapshot = [] }) ++ 0 ∷ [] =
    c.deref.ensures.value ∙ c.in_ok-bytes.ensures.bytes ∙ ap (λ (l : List ℕ). header (record { format = Two; generation = c.self.inside.generation; deployment = l; snapshot = [] }) ++ 0 ∷ []) c.as_slice-deployment.ensures in
    rw (← c.self.view_is) (λ clean. leaves_what _ _ _ (StandsOrBegun c.self.inside.stage kept) (c.write_side.ensures.any_moment clean) (λ image is_image.
    subst (λ (s : Stage). StandsOrBegun s kept image) (sym c.in-Blank.is) (begun_image kept _ _ _ old sound fits (omega arith) c.deref.result.now is (clean_told old clean) (blank_payloads kept _ _ _ old sound (clean_told old clean)) image is_image)))

-- ---- whatever was pending

pub returns-in-Ok-clause-stays : goal.returns-in-Ok-clause-stays
returns-in-Ok-clause-stays g c =
    let old = g.D.Disk.disk c.self.inside.disk in
    let kept = kept_by c.self.inside.side c.self.inside.format c.self.inside.generation c.self.inside.deployment c.self.inside.snapshot old in
    let running = runs _ _ (ap (λ v. v.stage) c.self.view_is) c.requires.running in
    rw (← c.self.view_is) (λ told. left_found c.self.inside.stage kept c.self.inside.end old _ c.in_default.not-Blank (found_in _ _ _ _ _ _ c.self.invariant running c.in_default.not-Blank told) c.cut_behind.ensures.stays)

pub returns-in-Err-clause-stays : goal.returns-in-Err-clause-stays
returns-in-Err-clause-stays g c =
    let old = g.D.Disk.disk c.self.inside.disk in
    let kept = kept_by c.self.inside.side c.self.inside.format c.self.inside.generation c.self.inside.deployment c.self.inside.snapshot old in
    let running = runs _ _ (ap (λ v. v.stage) c.self.view_is) c.requires.running in
    rw (← c.self.view_is) (λ told. left_found c.self.inside.stage kept c.self.inside.end old _ c.in_default.not-Blank (found_in _ _ _ _ _ _ c.self.invariant running c.in_default.not-Blank told) c.cut_behind.ensures.stays)

pub returns-in_err-bytes-clause-stays : goal.returns-in_err-bytes-clause-stays
returns-in_err-bytes-clause-stays g c = rw (← c.self.view_is) (λ told. leaves_itself _ _ _ _ (λ image now. now))

pub returns-in-Ok-write_side-clause-stays : goal.returns-in-Ok-write_side-clause-stays
returns-in-Ok-write_side-clause-stays g c =
    let old = g.D.Disk.disk c.self.inside.disk in
    let kept = kept_by c.self.inside.side c.self.inside.format c.self.inside.generation c.self.inside.deployment c.self.inside.snapshot old in
    rw (← c.self.view_is) (λ told. left_blank c.self.inside.stage kept old _ c.in-Blank.is c.write_side.ensures.stays)

pub returns-clause-stays : goal.returns-clause-stays
returns-clause-stays g c =
    let old = g.D.Disk.disk c.self.inside.disk in
    let kept = kept_by c.self.inside.side c.self.inside.format c.self.inside.generation c.self.inside.deployment c.self.inside.snapshot old in
    rw (← c.self.view_is) (λ told. left_blank c.self.inside.stage kept old _ c.in-Blank.is c.write_side.ensures.stays)
