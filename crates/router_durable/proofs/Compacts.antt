-- A journal that is compacted.
use Rattle.std.proofs.Common.{◌≡◌, ⊎_elim, inl, inr, ℕ, zero, suc, ◌<◌, ◌≤◌, ◌^◌, List, [], ◌∷◌, ◌++◌, length, take, drop, map, Bool, true, false, refl, sym, ◌∙◌, ap, subst, append-nil, Option, Some, None, Ok, Err, IsTrue, arith}
use mathlib.Core.List.{IsPrefix}
use Rattle.slee_disk.specs.Causes.{Rose}
use Rattle.slee_disk.specs.Sides.{Sides}
use Rattle.slee_disk.specs.Disk.{DiskState, LeavesOnly, is_clean}
use Rattle.slee_disk.proofs.Moments.{leaves_start, leaves_what, clean_only, clean_told}
use Rattle.commit_journal.specs.declared.fault.BeginFault.TheVariants as begin_faults
use Rattle.commit_journal.specs.declared.format.Format.TheVariants.{One, Two}
use Rattle.commit_journal.specs.declared.record.Record.{Record}
use Rattle.commit_journal.specs.declared.stage.Stage.{Stage}
use Rattle.commit_journal.specs.declared.stage.Stage.TheVariants.{Ready}
use Rattle.commit_journal.specs.Journal.{View, GoesOn, IsRenewed, IsSameSide, LeavesInRenewal}
use Rattle.commit_journal.specs.Kept.{Keeps, Stands, StandsOrRenewed, with_more, renewed}
use Rattle.commit_journal.specs.Reading.{Kept, recovered}
use Rattle.commit_journal.specs.Spelling.{Head, size}
use Rattle.commit_journal.specs.Views.{payload_of}
use Rattle.commit_journal.specs.Written.{IsWritten}
use Rattle.deploy_model.specs.Deployed.{Deployed}
use Rattle.script_types.specs.Program.{Program}
use Rattle.trace_history.specs.declared.entry.Entry.{Entry}
use Rattle.router_core.specs.States.{IsOwn}
use Rattle.router_laws_kept.specs.Kept.{CanBeKept}
use Rattle.router_state.specs.Initial.{initial}
use Rattle.router_state.specs.Restoring.{snapshot_text, state_of_snapshot}
use Rattle.router_state.specs.State.{State}
use Rattle.router_steps.specs.Histories.{replay}
use Rattle.slee_descriptor.specs.declared.deployment.Deployment.{Deployment as Served}
use Rattle.router_durable.specs.declared.fault.Stop.{Stop}
use Rattle.router_durable.specs.declared.fault.Stop.TheVariants as stops
use Rattle.router_durable.specs.Anew.{size_anew, IsFullAnew}
use Rattle.router_durable.specs.Choices.{written_format}
use Rattle.router_durable.specs.Compacting.{StandsThrough, origin_anew, Renews, IsCompacted, Ends, Compacts}
use Rattle.router_durable.specs.Core.{Held, is_down, lifted, state_held, records_behind, IsSound, IsSoundWith}
use Rattle.router_durable.specs.Facts.{Origin, origin_of, base_of, records_since, RestartsIn}
use Rattle.router_durable.specs.Recovery.{choices_in, past_of, end_of, restart, records_of, records}
use Rattle.router_durable.specs.Taking.{IsShort}
use Rattle.router_durable.proofs.Opens.{Based, alone_based, based_stands, fresh_sound, front_none, keeps_restarts, leaves_kept, text_stands}
use Rattle.router_durable.proofs.Replays.{behind_deployment, behind_program}
use Rattle.router_durable.proofs.Steps.{held, again_now, sound_stopped}

-- what a renewal of the journal does in any case
pub record Renewing {D : Type 0} (disk_of : D → DiskState) (v w : View D) (text : List ℕ) : Type 0 where
  pub told : (disk_of w.disk).told ≡ (disk_of v.disk).told
  pub rising : (disk_of v.disk).faults ≤ (disk_of w.disk).faults
  pub limit : w.limit ≡ v.limit
  pub leaves : IsTrue (is_clean (disk_of v.disk)) → LeavesInRenewal disk_of v text w

-- where no entry stands, nothing waits in the batch
pub none_waits : {D : Type 0} (j : View D) (disk : DiskState) (o : Origin) (history : List Entry) (acked : ℕ) (stop : Option Stop) → IsSound j disk o history acked stop → is_down stop ≡ false → history ≡ [] → j.batch ≡ []
none_waits {D} j disk o history acked stop sound up none = sound.batch up ∙ ap (λ (h : List Entry). records_behind o h acked) none ∙ empty acked
  where
    empty : (n : ℕ) → records_behind o [] n ≡ []
    empty zero = refl
    empty (suc n) = refl

module _ {D : Type 0} (disk_of : D → DiskState) (j j2 : View D) (d : Deployed) (p : Program) (o : Origin) (first : o.initial ≡ initial d p) (history : List Entry) (acked : ℕ) (stop : Option Stop) (b : Served) (s : State)
    (kept : IsSoundWith j (disk_of j.disk) o history acked stop b s) (up : is_down stop ≡ false) (none : history ≡ []) (text : List ℕ) (is_text : text ≡ snapshot_text written_format s) (short : IsShort s One)
    (renews : Renewing disk_of j j2 text) (idle : j2.batch ≡ []) where
  abbrev old : DiskState
  old = disk_of j.disk

  abbrev new : DiskState
  new = disk_of j2.disk

  sound : IsSound j old o history acked stop
  sound = kept.sound

  state_is : s ≡ base_of o
  state_is = kept.state ∙ ap (replay (base_of o)) none

  can : CanBeKept s
  can = subst CanBeKept (sym state_is) sound.keepable

  deployed : s.deployment ≡ d
  deployed =
      behind_deployment written_format o.initial.deployment o.initial.program o.snapshot o.start sound.based (choices_in written_format o.found) s state_is
      ∙ ap (λ (t : State). t.deployment) first

  programmed : s.program ≡ p
  programmed =
      behind_program written_format o.initial.deployment o.initial.program o.snapshot o.start sound.based (choices_in written_format o.found) s state_is
      ∙ ap (λ (t : State). t.program) first

  nothing : j.batch ≡ []
  nothing = none_waits j old o history acked stop sound up none

  clean : IsTrue o.told → IsTrue (is_clean old)
  clean told = sound.rest told up

  -- the side that is written
  abbrev after : Kept
  after = renewed j.stage j.kept text

  based : Based d p o.deployment s s after.head []
  based = alone_based d p o.deployment s after.head refl sound.named (ap (state_of_snapshot written_format d p) is_text ∙ text_stands d p s can deployed programmed short)

  -- ---- what a crash leaves

  leaves_either : IsTrue o.told → LeavesOnly old new (StandsOrRenewed j.stage j.kept text)
  leaves_either told =
      let left = (renews.leaves (clean told)).flushed idle in
      let same : with_more j.kept j.batch ≡ j.kept = ap (λ (ps : List (List ℕ)). with_more j.kept ps) nothing ∙ ap (λ (ps : List (List ℕ)). record { side = j.kept.side; head = j.kept.head; payloads = ps }) (append-nil j.kept.payloads) in
      subst (λ (k : Kept). LeavesOnly old new (StandsOrRenewed j.stage k text)) same
      (subst (λ (x : D). LeavesOnly (disk_of x) new (StandsOrRenewed j.stage (with_more j.kept j.batch) text)) (left.at_once nothing) left.second)

  -- what is read stands for the state
  seen_stands : IsTrue o.told → RestartsIn o history acked old.seen
  seen_stands told = again_now j old o history acked stop sound told up

  part_none : (told : IsTrue o.told) → (seen_stands told).part ≡ []
  part_none told = let r = seen_stands told in front_none r.part (subst (λ (h : List Entry). IsPrefix r.part h) none r.front)

  read_is : IsTrue o.told → recovered o.deployment old.seen ≡ Ok (Some j.kept)
  read_is told = subst (λ (x : List ℕ). recovered x old.seen ≡ Ok (Some j.kept)) sound.named (sound.seen told up)

  stands_through : IsTrue o.told → (image : Sides) → StandsOrRenewed j.stage j.kept text image → StandsThrough o s image
  stands_through told image stands = ⊎_elim
      (λ before.
      let keeps : Keeps j.kept image = subst (λ (g : Stage). Stands g j.kept image) (sound.stage up) before in
      let same : recovered o.deployment image ≡ recovered o.deployment old.seen = subst (λ (x : List ℕ). recovered x image ≡ Ok (Some j.kept)) sound.named keeps ∙ sym (read_is told) in
      let r = seen_stands told in
      record {
        state = ap (λ x. end_of (past_of o.initial x)) same ∙ r.state ∙ ap (λ (h : List Entry). Ok (replay (base_of o) h)) (part_none told) ∙ ap (λ (t : State). Ok t) (sym state_is);
        records = inl (ap records_of same ∙ r.records ∙ ap (λ (h : List Entry). o.found ++ records_since o h) (part_none told) ∙ append-nil o.found);
      })
      (λ keeps.
      let stood = based_stands d p o.deployment s s after.head [] based after image refl refl keeps in
      record { state = ap (λ (t : State). restart t o.deployment image) first ∙ stood.0; records = inr stood.1 })
      stands

  pub compaction_leaves : IsTrue o.told → LeavesOnly old new (StandsThrough o (state_held (held o j history acked stop)))
  compaction_leaves told = subst (λ (t : State). LeavesOnly old new (StandsThrough o t)) kept.state (leaves_what old new _ _ (leaves_either told) (stands_through told))

  compaction_told : IsTrue o.told → IsTrue new.told
  compaction_told told = subst IsTrue (sym renews.told) (clean_told old (clean told))

  -- how many bytes the side has
  sized : size after.head [] ≡ size_anew o.deployment (state_held (held o j history acked stop))
  sized = omega (arith, ap length sound.named, ap length is_text, ap (λ (t : State). length (snapshot_text written_format t)) kept.state)

  -- ---- it is compacted

  module _ (n : ℕ) (goes : GoesOn j text j2 n) (renewal : IsTrue old.told → IsRenewed disk_of j text j2) (within : size after.head [] ≤ j.limit) where
    abbrev pub origin_after : Bool → Origin
    origin_after torn = origin_of disk_of (initial d p) o.deployment j2.disk j2.records s j2 torn

    based_after : Based d p o.deployment s s j2.kept.head j2.records
    based_after =
        subst (λ (h : Head). Based d p o.deployment s s h j2.records) (sym goes.head)
        (subst (λ (rs : List Record). Based d p o.deployment s s after.head rs) (sym goes.records) based)

    told_before : IsTrue new.told → IsTrue old.told
    told_before told = subst IsTrue renews.told told

    kept_after : IsTrue new.told → j2.kept ≡ after
    kept_after told = ap (λ (v : View D). v.kept) (renewal (told_before told)).same

    payloads_after : IsTrue new.told → j2.kept.payloads ≡ map payload_of j2.records
    payloads_after told = ap (λ (k : Kept). k.payloads) (kept_after told) ∙ sym (ap (map payload_of) goes.records)

    fresh : IsSound j2 new (origin_after false) [] 0 None
    fresh =
        fresh_sound disk_of d p o.deployment s s j2 j2.disk j2.records can based_after goes.ready goes.empty (λ told. told) (λ told. (renewal (told_before told)).durable) payloads_after
        (λ is. omega arith) (omega arith)
        (λ is image left.
        let durable = (renewal (told_before (clean_told new is))).durable in
        inl (keeps_restarts disk_of d p o.deployment s s j2 j2.disk j2.records can based_after goes.ready goes.empty j2.kept image refl (payloads_after (clean_told new is)) (durable.images image (new.only_now image left))))

    lifted_sound : (stop : Option Stop) → is_down stop ≡ false → IsSound j2 new (origin_after false) [] 0 (lifted stop)
    lifted_sound None u = fresh
    lifted_sound (Some stops.DiskFault) u = absurd (cc u)
    lifted_sound (Some (stops.Full size_of adding)) u = fresh
    lifted_sound (Some stops.NoMemory) u = sound_stopped j2 new (origin_after false) [] 0 stops.NoMemory refl tt fresh

    none_acked : acked ≡ 0
    none_acked = omega (arith, sound.within, ap length none)

    -- what is true of the fields then; `torn` stays false
    pub compacted_sound : (torn : Bool) → torn ≡ false → (last : Option Stop) → last ≡ lifted stop → IsSoundWith j2 new (origin_after torn) history acked last b s
    compacted_sound torn whole last is_last = record {
      sound = subst (λ (x : Option Stop). IsSound j2 new (origin_after torn) history acked x) (sym is_last)
          (subst (λ (x : Bool). IsSound j2 new (origin_after x) history acked (lifted stop)) (sym whole)
          (subst (λ (h : List Entry). IsSound j2 new (origin_after false) h acked (lifted stop)) (sym none)
          (subst (λ k. IsSound j2 new (origin_after false) [] k (lifted stop)) (sym none_acked) (lifted_sound stop up))));
      state = based_after.state ∙ sym (ap (replay (base_of (origin_after torn))) none);
      own = kept.own;
    }

    module _ (torn : Bool) (whole : torn ≡ false) (last : Option Stop) (is_last : last ≡ lifted stop) where
      abbrev was : Held D
      was = held o j history acked stop

      abbrev new_held : Held D
      new_held = held (origin_after torn) j2 history acked last

      origin_is : origin_after torn ≡ origin_anew new (state_held was) o (origin_after torn)
      origin_is = λ i. record {
        initial = sym first i;
        deployment = o.deployment;
        snapshot = (ap (λ (h : Head). h.snapshot) goes.head ∙ is_text ∙ ap (snapshot_text written_format) kept.state) i;
        start = kept.state i;
        found = ap (map payload_of) goes.records i;
        before = ap (map payload_of) goes.records i;
        moment = new.moment;
        faults = new.faults;
        told = new.told;
        clean = is_clean new;
        counting = (origin_after torn).counting;
        torn = whole i;
      }

      renews_then : IsTrue o.told → (k : Kept) → recovered o.deployment old.seen ≡ Ok (Some k) → Renews o.deployment (snapshot_text written_format (state_held was)) k new.seen n (origin_after torn)
      renews_then told k is =
          let told_then : IsTrue new.told = subst IsTrue (sym renews.told) (clean_told old (clean told)) in
          let found : Ok (Some j.kept) ≡ Ok (Some k) = sym (read_is told) ∙ is in
          let same : j.kept ≡ k = cc found in
          let target : after ≡ renewed Ready k (snapshot_text written_format (state_held was)) =
          λ i. renewed (sound.stage up i) (same i) ((is_text ∙ ap (snapshot_text written_format) kept.state) i) in
          let is_after : j2.kept ≡ renewed Ready k (snapshot_text written_format (state_held was)) = kept_after told_then ∙ target in
          let renewal_is = renewal (clean_told old (clean told)) in
          record {
            left = leaves_kept disk_of (initial d p) o.deployment j2.disk j2.records s j2 torn _ is_after based_after.named (ap (map payload_of) goes.records) told_then renewal_is.durable;
            written = subst (λ (x : Kept). IsWritten x new.seen) is_after renewal_is.written;
            number_is = goes.generation_is ∙ ap (λ (x : Kept). x.head.generation) target;
          }

      pub compacted : Compacts old new was (Ok n) new_held
      compacted = record {
        ends = record {
          same = λ i. record { disk = j2.disk; origin = origin_after torn; limit = renews.limit i; history = history; acked = acked; stop = is_last i };
          origin = origin_is;
          fits = omega (arith, sized, within);
          renews = renews_then;
        };
        told = compaction_told;
        any_moment = compaction_leaves;
      }

  -- ---- the disk fails

  module _ (still : IsSameSide j j2) (rose : Rose old.faults new.faults) (within : size after.head [] ≤ j.limit) where
    abbrev pub origin_torn : Origin
    origin_torn = record o { torn = true }

    pub torn_sound : IsSoundWith j2 new origin_torn history acked (Some stops.DiskFault) b s
    torn_sound = record {
      sound = record {
        legal = sound.legal;
        again = sound.again;
        found = sound.found;
        based = sound.based;
        keepable = sound.keepable;
        named = ap (λ (h : Head). h.deployment) still.head ∙ sound.named;
        stands = ap (λ (h : Head). h.snapshot) still.head ∙ sound.stands;
        format = ap (λ (h : Head). h.format) still.head ∙ sound.format;
        stage = λ u. absurd cc;
        batch = λ u. absurd cc;
        within = sound.within;
        tells = sound.tells;
        kept = λ told u. absurd cc;
        seen = λ told u. absurd cc;
        rest = λ told u. absurd cc;
        whole = λ u. absurd cc;
        left = λ told whole. absurd (cc whole);
        counted = sound.counted;
        text = sound.text;
        sized = λ told. sound.sized told ∙ ap (λ (h : Head). size h o.found) (sym still.head);
        safe = record {
          told = λ told. subst IsTrue (sym renews.told) (sound.safe.told told);
          later = λ is. omega (arith, sound.safe.later is, (leaves_either (sound.tells is)).later);
          since = λ is whole. absurd (cc whole);
          now = λ told whole. absurd (cc whole);
        };
        faults = omega (arith, sound.faults, renews.rising);
        cause = omega (arith, rose, sound.faults);
      };
      state = kept.state;
      own = kept.own;
    }

    pub torn_ends : Compacts old new (held o j history acked stop) (Err begin_faults.DiskFault) (held origin_torn j2 history acked (Some stops.DiskFault))
    torn_ends = record {
      ends = (λ i. record { disk = j2.disk; origin = origin_torn; limit = renews.limit i; history = history; acked = acked; stop = Some stops.DiskFault }, rose, omega (arith, sized, within));
      told = compaction_told;
      any_moment = compaction_leaves;
    }

-- ---- nothing is done

-- for want of memory
pub nothing_compacted : {D : Type 0} (disk_of : D → DiskState) (j : View D) (o : Origin) (history : List Entry) (acked : ℕ) (stop : Option Stop) (b : Served) (s : State) → IsSoundWith j (disk_of j.disk) o history acked stop b s → is_down stop ≡ false → history ≡ []
    → Compacts (disk_of j.disk) (disk_of j.disk) (held o j history acked stop) (Err begin_faults.NoMemory) (held o j history acked stop)
nothing_compacted {D} disk_of j o history acked stop b s kept up none = record {
  ends = refl;
  told = λ told. clean_told (disk_of j.disk) (kept.sound.rest told up);
  any_moment = λ told. leaves_start (disk_of j.disk) _ (λ image now. still_stands told image now);
}
  where
    still_stands : IsTrue o.told → (image : Sides) → (disk_of j.disk).images image → StandsThrough o (state_held (held o j history acked stop)) image
    still_stands told image now =
        let r = again_now j (disk_of j.disk) o history acked stop kept.sound told up in
        let same : image ≡ (disk_of j.disk).seen = clean_only (disk_of j.disk) (kept.sound.rest told up) image now in
        let part : r.part ≡ [] = front_none r.part (subst (λ (h : List Entry). IsPrefix r.part h) none r.front) in
        record {
          state = ap (restart o.initial o.deployment) same ∙ r.state ∙ ap (λ (h : List Entry). Ok (replay (base_of o) h)) (part ∙ sym none);
          records = inl (ap (records o.deployment) same ∙ r.records ∙ ap (λ (h : List Entry). o.found ++ records_since o h) part ∙ append-nil o.found);
        }

-- and for want of room, where the journal is as it was
pub full_compacted : {D : Type 0} (disk_of : D → DiskState) (j j2 : View D) (o : Origin) (history : List Entry) (acked : ℕ) (stop : Option Stop) (b : Served) (s : State) → IsSoundWith j (disk_of j.disk) o history acked stop b s → is_down stop ≡ false → history ≡ []
    → j2 ≡ j → (text : List ℕ) → text ≡ snapshot_text written_format s → (size_of adding : ℕ) → (size_of ≡ 0) × (adding ≡ size (renewed j.stage j.kept text).head []) × (j.limit < size (renewed j.stage j.kept text).head [])
    → Compacts (disk_of j.disk) (disk_of j2.disk) (held o j history acked stop) (Err (begin_faults.Full size_of adding)) (held o j2 history acked stop)
full_compacted {D} disk_of j j2 o history acked stop b s kept up none same text is_text size_of adding full =
    let sized : size (renewed j.stage j.kept text).head [] ≡ size_anew o.deployment (state_held (held o j history acked stop)) =
    omega (arith, ap length kept.sound.named, ap length is_text, ap (λ (t : State). length (snapshot_text written_format t)) kept.state) in
    subst (λ (v : View D). Compacts (disk_of j.disk) (disk_of v.disk) (held o j history acked stop) (Err (begin_faults.Full size_of adding)) (held o v history acked stop)) (sym same) (record {
      ends = (refl, (full.0, full.1 ∙ sized, omega (arith, full.1, full.2)));
      told = (nothing_compacted disk_of j o history acked stop b s kept up none).told;
      any_moment = (nothing_compacted disk_of j o history acked stop b s kept up none).any_moment;
    })

pub same_compacted : {D : Type 0} (disk_of : D → DiskState) (j j2 : View D) (o : Origin) (history : List Entry) (acked : ℕ) (stop : Option Stop) (b : Served) (s : State) → IsSoundWith j (disk_of j.disk) o history acked stop b s → is_down stop ≡ false → history ≡ []
    → j2 ≡ j → Compacts (disk_of j.disk) (disk_of j2.disk) (held o j history acked stop) (Err begin_faults.NoMemory) (held o j2 history acked stop)
same_compacted {D} disk_of j j2 o history acked stop b s kept up none same =
    subst (λ (v : View D). Compacts (disk_of j.disk) (disk_of v.disk) (held o j history acked stop) (Err begin_faults.NoMemory) (held o v history acked stop)) (sym same) (nothing_compacted disk_of j o history acked stop b s kept up none)
