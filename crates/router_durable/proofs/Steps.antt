-- A step and a flush keep what is true of a router over a journal.
use Rattle.std.proofs.Common.{◌≡◌, ◌⊎◌, inl, inr, ⊎_elim, ℕ, zero, suc, ◌+◌, ◌≤◌, take, drop, List, [], ◌∷◌, ◌++◌, length, true, false, refl, sym, ◌∙◌, ap, subst, append_assoc, append-nil, length-append, Option, Some, None, Result, Ok, Err, ◌≢◌, if◌then◌else◌, IsTrue, arith}
use Rattle.std.proofs.lemmas.Bool.{cases_Bool}
use Rattle.std.proofs.lemmas.List.{take_all}
use mathlib.Core.List.{IsPrefix}
use Rattle.slee_disk.specs.Causes.{Rose}
use Rattle.slee_disk.specs.Sides.{Sides}
use Rattle.slee_disk.specs.Disk.{DiskState, LeavesOnly, is_clean}
use Rattle.slee_disk.proofs.Moments.{leaves_what, leaves_start, now_since, clean_told, clean_only}
use Rattle.commit_journal.specs.declared.stage.Stage.{Stage}
use Rattle.commit_journal.specs.declared.stage.Stage.TheVariants.{Ready}
use Rattle.commit_journal.specs.declared.stage.Stage.TheVariants as stages
use Rattle.commit_journal.specs.Reading.{Kept, recovered}
use Rattle.commit_journal.specs.Spelling.{Head, records_size, size}
use Rattle.commit_journal.specs.Kept.{with_more, Keeps, KeepsOrMore, Stands, StandsOrMore}
use Rattle.commit_journal.specs.Journal.{View, payloads_on, HasRoomFor, IsFullFor as IsTooLong, with_payload}
use Rattle.commit_journal.proofs.Sizes.{records_size-more}
use Rattle.trace_history.specs.Histories.{choices_of}
use Rattle.trace_history.specs.Views.{HasRoomForLines, HistoryView}
use Rattle.trace_history.specs.declared.choice.Choice.{Choice}
use Rattle.trace_history.specs.declared.entry.Entry.{Entry}
use Rattle.slee_descriptor.specs.declared.deployment.Deployment.{Deployment}
use Rattle.router_state.specs.Restoring.{state_of_snapshot}
use Rattle.router_state.specs.State.{State}
use Rattle.router_steps.specs.Histories.{is_choice, replay, Legal}
use Rattle.router_steps.specs.Payloads.{choice_in, payload, payloads}
use Rattle.router_steps.specs.Steps.{after, is_enabled, lines_of_step, step_entry}
use Rattle.router_durable.specs.declared.fault.Stop.{Stop}
use Rattle.router_durable.specs.declared.fault.Stop.TheVariants as stops
use Rattle.router_durable.specs.Anew.{is_first, is_anew}
use Rattle.router_durable.specs.Choices.{AreReadAgain, written_format}
use Rattle.router_durable.specs.Recovery.{records_of}
use Rattle.router_durable.specs.Facts.{Origin, base_of, records_since, RestartsIn, IsCrashSafe, HasRecords, HasRecordsOrMore, size_after, size_added, HasRoom, IsFullFor}
use Rattle.router_core.specs.States.{IsOwn}
use Rattle.router_plans.specs.Plans.{IsPlanOf, PlanView}
use Rattle.router_durable.specs.declared.fault.StepFault.{StepFault}
use Rattle.router_durable.specs.declared.fault.StepFault.TheVariants as faults
use Rattle.router_durable.specs.Core.{Held, is_down, is_written, IsStopOf, state_held, records_behind, IsSound, IsSoundWith, Adds, Makes, IsHeld}
use Rattle.router_durable.proofs.HistoryLemmas.{payloads-append, choices_of-append, replay-append, replay-choices, legal-append, legal_front, again-append, again_front, take_drop}
use Rattle.router_durable.proofs.Recovers.{restarts_in}

module _ {A : Type 0} where
  pub prefix_refl : (xs : List A) → IsPrefix xs xs
  prefix_refl xs = ([], append-nil xs)

  pub prefix_trans : (xs ys zs : List A) → IsPrefix xs ys → IsPrefix ys zs → IsPrefix xs zs
  prefix_trans xs ys zs p q = (p.0 ++ q.0, sym (append_assoc xs p.0 q.0) ∙ (ap (λ l. l ++ q.0) p.1 ∙ q.1))

  -- the first of a list are also those of a longer one
  take_more : (n : ℕ) (xs ys : List A) → n ≤ length xs → take n (xs ++ ys) ≡ take n xs
  take_more zero xs ys le = refl
  take_more (suc n) [] ys le = absurd (omega (arith, le))
  take_more (suc n) (x ∷ xs) ys le = ap (λ l. x ∷ l) (take_more n xs ys (omega (arith, le)))

  -- and what is behind them is longer
  drop_more : (n : ℕ) (xs ys : List A) → n ≤ length xs → drop n (xs ++ ys) ≡ drop n xs ++ ys
  drop_more zero xs ys le = refl
  drop_more (suc n) [] ys le = absurd (omega (arith, le))
  drop_more (suc n) (x ∷ xs) ys le = drop_more n xs ys (omega (arith, le))

  drop_whole : (xs : List A) → drop (length xs) xs ≡ []
  drop_whole [] = refl
  drop_whole (x ∷ xs) = drop_whole xs

  length_take : (n : ℕ) (xs : List A) → n ≤ length xs → length (take n xs) ≡ n
  length_take zero xs le = refl
  length_take (suc n) [] le = absurd (omega (arith, le))
  length_take (suc n) (x ∷ xs) le = ap suc (length_take n xs (omega (arith, le)))

-- the records of a history: those of its first entries, and those behind them
pub records_split : (o : Origin) (h : List Entry) (n : ℕ) → records_since o h ≡ records_since o (take n h) ++ records_behind o h n
records_split o h n =
    ap (records_since o) (sym (take_drop n h))
    ∙ ap (payloads written_format (base_of o)) (choices_of-append (take n h) (drop n h))
    ∙ payloads-append (base_of o) (choices_of (take n h)) (choices_of (drop n h))
    ∙ ap (λ (s : State). records_since o (take n h) ++ payloads written_format s (choices_of (drop n h))) (sym (replay-choices (base_of o) (take n h)))

-- the same of a longer history, and fewer entries
pub restarts_later : (o : Origin) (g h : List Entry) (m n : ℕ) (image : Sides) → RestartsIn o g m image → IsPrefix g h → n ≤ m → RestartsIn o h n image
restarts_later o g h m n image r front le = record { part = r.part; front = prefix_trans r.part g h r.front front; some = omega (arith, le, r.some); state = r.state; records = r.records }

-- time goes on, and each image since then has more of the history
pub safe_later : (o : Origin) (h : List Entry) (m n : ℕ) (old new : DiskState) → (IsTrue o.clean → IsTrue o.told) → IsCrashSafe o h m old → new.told ≡ old.told
    → (IsTrue o.told → LeavesOnly old new (RestartsIn o h m)) → (IsTrue o.told → (image : Sides) → new.images image → RestartsIn o h n image)
    → IsCrashSafe o h n new
safe_later o h m n old new tells safe told leaves now = record {
  told = λ is. told ∙ safe.told is;
  later = λ clean. omega (arith, safe.later clean, (leaves (tells clean)).later);
  since = λ clean whole image left. ⊎_elim
      (λ was. safe.since clean whole image was)
      (λ is. inl (restarts_later o h h m 0 image is (prefix_refl h) (omega arith)))
      ((leaves (tells clean)).before o.moment image (safe.later clean) left);
  now = λ told whole. now told;
}

-- the same disk, and a longer history
pub safe_longer : (o : Origin) (g h : List Entry) (n : ℕ) (disk : DiskState) → IsPrefix g h → IsCrashSafe o g n disk → IsCrashSafe o h n disk
safe_longer o g h n disk front safe = record {
  told = safe.told;
  later = safe.later;
  since = λ clean whole image was. ⊎_elim
      (λ is. inl (restarts_later o g h 0 0 image is front (omega arith)))
      inr
      (safe.since clean whole image was);
  now = λ told whole image left. restarts_later o g h n n image (safe.now told whole image left) front (omega arith);
}

-- the size of a side with the records of a history
pub size_since : (o : Origin) (head : Head) (history : List Entry) → size head (o.found ++ records_since o history) ≡ size head o.found + records_size (records_since o history)
size_since o head history = omega (arith, records_size-more o.found (records_since o history))

-- ---- a step whose record is in the batch

module _ {D : Type 0} (j : View D) (disk : DiskState) (o : Origin) (history : List Entry) (acked : ℕ) (sound : IsSound j disk o history acked None) where
  abbrev here : State
  here = replay (base_of o) history

  -- the side with its batch has the records of the whole history
  size_now : IsTrue o.told → size j.kept.head (j.kept.payloads ++ j.batch) ≡ size_after o history
  size_now told =
      ap (λ (b : List (List ℕ)). size j.kept.head (j.kept.payloads ++ b)) (sound.batch refl)
      ∙ ap (λ (ps : List (List ℕ)). size j.kept.head (ps ++ records_behind o history acked)) (sound.kept told refl)
      ∙ ap (size j.kept.head) (append_assoc o.found (records_since o (take acked history)) (records_behind o history acked))
      ∙ ap (λ (ps : List (List ℕ)). size j.kept.head (o.found ++ ps)) (sym (records_split o history acked))
      ∙ size_since o j.kept.head history
      ∙ ap (λ n. n + records_size (records_since o history)) (sym (sound.sized told))

  was_told : IsTrue o.told → IsTrue disk.told
  was_told told = clean_told disk (sound.rest told refl)

  module _ (c : Choice) (valid : is_choice c ≡ true) (enabled : is_enabled here c ≡ true) where
    abbrev pub grown : List Entry
    grown = history ++ step_entry here c ∷ []

    -- a payload that doesn't fit
    pub is_full : (IsTrue disk.told → j.length ≡ size j.kept.head (j.kept.payloads ++ j.batch)) → (length_of adding : ℕ) → IsTooLong j (length (payload written_format here c)) length_of adding → IsFullFor o j.limit history c length_of adding
    is_full counted length_of adding refused = record {
      enabled = enabled;
      given = valid;
      stands = λ told. refused.0 ∙ counted (was_told told) ∙ size_now told;
      adds = refused.1;
      above = refused.2;
    }

    -- a payload that fits
    pub has_room : (IsTrue disk.told → j.length ≡ size j.kept.head (j.kept.payloads ++ j.batch)) → HasRoomFor j (length (payload written_format here c)) → HasRoom o j.limit history c
    has_room counted within told =
        let whole : j.length + (5 + length (payload written_format here c)) ≡ size_after o history + size_added o history c =
        ap (λ n. n + (5 + length (payload written_format here c))) (counted (was_told told) ∙ size_now told) in
        subst (λ n. n ≤ j.limit) whole within

    front : IsPrefix history grown
    front = (step_entry here c ∷ [], refl)

    legal_grown : Legal (base_of o) grown
    legal_grown = legal-append (base_of o) history (step_entry here c ∷ []) sound.legal (valid, enabled, refl, tt)

    again_grown : choice_in written_format (payload written_format here c) ≡ Some c → AreReadAgain (base_of o) (choices_of grown)
    again_grown again =
        subst (AreReadAgain (base_of o)) (sym (choices_of-append history (step_entry here c ∷ [])))
        (again-append (base_of o) (choices_of history) (c ∷ []) sound.again
        (subst (λ (s : State). AreReadAgain s (c ∷ [])) (replay-choices (base_of o) history) (again, tt)))

    batch_grown : records_behind o history acked ++ payload written_format here c ∷ [] ≡ records_behind o grown acked
    batch_grown =
        let first : take acked grown ≡ take acked history = take_more acked history (step_entry here c ∷ []) sound.within in
        let last : drop acked grown ≡ drop acked history ++ step_entry here c ∷ [] = drop_more acked history (step_entry here c ∷ []) sound.within in
        let t = replay (base_of o) (take acked history) in
        let joined : replay t (drop acked history) ≡ here = sym (replay-append (base_of o) (take acked history) (drop acked history)) ∙ ap (replay (base_of o)) (take_drop acked history) in
        ap (λ (s : State). records_behind o history acked ++ payload written_format s c ∷ []) (sym joined ∙ replay-choices t (drop acked history))
        ∙ sym (payloads-append t (choices_of (drop acked history)) (c ∷ []))
        ∙ ap (payloads written_format t) (sym (choices_of-append (drop acked history) (step_entry here c ∷ [])))
        ∙ ap (λ (es : List Entry). payloads written_format t (choices_of es)) (sym last)
        ∙ ap (λ (es : List Entry). payloads written_format (replay (base_of o) es) (choices_of (drop acked grown))) (sym first)

    -- the payload is in the batch, and the entry in the history
    pub step_sound : (j1 : View D) → j1 ≡ with_payload j (payload written_format here c) → choice_in written_format (payload written_format here c) ≡ Some c → IsSound j1 disk o grown acked None
    step_sound j1 is again =
        subst (λ (v : View D). IsSound v disk o grown acked None) (sym is)
        record {
          legal = legal_grown;
          again = again_grown again;
          found = sound.found;
          based = sound.based;
          keepable = sound.keepable;
          named = sound.named;
          stands = sound.stands;
          format = sound.format;
          stage = sound.stage;
          batch = λ up. ap (λ (ps : List (List ℕ)). ps ++ payload written_format here c ∷ []) (sound.batch refl) ∙ batch_grown;
          within = omega (arith, sound.within, length-append history (step_entry here c ∷ []));
          tells = sound.tells;
          kept = λ told up. sound.kept told refl ∙ ap (λ (h : List Entry). o.found ++ records_since o h) (sym (take_more acked history (step_entry here c ∷ []) sound.within));
          seen = sound.seen;
          rest = sound.rest;
          whole = λ up. sound.whole refl;
          left = λ told whole down. absurd (cc down);
          counted = sound.counted;
          text = sound.text;
          sized = sound.sized;
          safe = safe_longer o history grown acked disk front sound.safe;
          faults = sound.faults;
          cause = tt;
        }

-- stopped, but not by the disk
pub sound_stopped : {D : Type 0} (j : View D) (disk : DiskState) (o : Origin) (history : List Entry) (acked : ℕ) (stop : Stop) → is_down (Some stop) ≡ false
    → IsStopOf o j.limit history disk (Some stop) → IsSound j disk o history acked None → IsSound j disk o history acked (Some stop)
sound_stopped j disk o history acked stop up cause sound = record {
  legal = sound.legal;
  again = sound.again;
  found = sound.found;
  based = sound.based;
  keepable = sound.keepable;
  named = sound.named;
  stands = sound.stands;
  format = sound.format;
  stage = λ u. sound.stage refl;
  batch = λ u. sound.batch refl;
  within = sound.within;
  tells = sound.tells;
  kept = λ told u. sound.kept told refl;
  seen = λ told u. sound.seen told refl;
  rest = λ told u. sound.rest told refl;
  whole = λ u. sound.whole refl;
  left = λ told whole down. let never : true ≡ false = sym down ∙ up in absurd (cc never);
  counted = sound.counted;
  text = sound.text;
  sized = sound.sized;
  safe = sound.safe;
  faults = sound.faults;
  cause = cause;
}

-- ---- a flush

-- what a flush of a journal does in any case
pub record Flushed {D : Type 0} (disk_of : D → DiskState) (v w : View D) : Type 0 where
  pub head : w.kept.head ≡ v.kept.head
  pub limit : w.limit ≡ v.limit
  pub told : (disk_of w.disk).told ≡ (disk_of v.disk).told
  pub rising : (disk_of v.disk).faults ≤ (disk_of w.disk).faults
  pub leaves : IsTrue (is_clean (disk_of v.disk)) → LeavesOnly (disk_of v.disk) (disk_of w.disk) (StandsOrMore v.stage v.kept v.batch)

-- and where it answers Ok
pub record Writes {D : Type 0} (disk_of : D → DiskState) (v w : View D) : Type 0 where
  pub stage : w.stage ≡ v.stage
  pub batch : w.batch ≡ []
  pub kept : IsTrue (disk_of v.disk).told → w.kept ≡ with_more v.kept v.batch
  pub now : IsTrue (is_clean (disk_of v.disk)) → (image : Sides) → (disk_of w.disk).images image → Stands w.stage w.kept image
  pub seen : IsTrue (disk_of v.disk).told → Stands w.stage w.kept (disk_of w.disk).seen
  pub rest : IsTrue (is_clean (disk_of v.disk)) → IsTrue (is_clean (disk_of w.disk))

-- not stopped by the disk, before a flush and after one that answers Ok
module _ {D : Type 0} (disk_of : D → DiskState) (j j2 : View D) (o : Origin) (history : List Entry) (acked : ℕ) (stop : Option Stop)
    (sound : IsSound j (disk_of j.disk) o history acked stop) (up : is_down stop ≡ false) (flushed : Flushed disk_of j j2) where
  abbrev old : DiskState
  old = disk_of j.disk

  abbrev new : DiskState
  new = disk_of j2.disk

  was_clean : IsTrue o.told → IsTrue (is_clean old)
  was_clean told = sound.rest told up

  told_then : IsTrue o.told → IsTrue old.told
  told_then told = clean_told old (was_clean told)

  -- with the batch, the side has the records of the whole history
  kept_whole : IsTrue o.told → j.kept.payloads ++ j.batch ≡ o.found ++ records_since o history
  kept_whole told =
      ap (λ (b : List (List ℕ)). j.kept.payloads ++ b) (sound.batch up)
      ∙ ap (λ (ps : List (List ℕ)). ps ++ records_behind o history acked) (sound.kept told up)
      ∙ append_assoc o.found (records_since o (take acked history)) (records_behind o history acked)
      ∙ ap (λ (ps : List (List ℕ)). o.found ++ ps) (sym (records_split o history acked))

  based_on : state_of_snapshot written_format o.initial.deployment o.initial.program j.kept.head.snapshot ≡ Some o.start
  based_on = ap (state_of_snapshot written_format o.initial.deployment o.initial.program) sound.stands ∙ sound.based

  whole_front : IsPrefix (take acked history) history
  whole_front = (drop acked history, take_drop acked history)

  legal_acked : Legal (base_of o) (take acked history)
  legal_acked = legal_front (base_of o) (take acked history) (drop acked history) (subst (Legal (base_of o)) (sym (take_drop acked history)) sound.legal)

  again_acked : AreReadAgain (base_of o) (choices_of (take acked history))
  again_acked = again_front (base_of o) (take acked history) (drop acked history) (subst (λ (h : List Entry). AreReadAgain (base_of o) (choices_of h)) (sym (take_drop acked history)) sound.again)

  with_batch : IsTrue o.told → (image : Sides) → Keeps (with_more j.kept j.batch) image → RestartsIn o history (length history) image
  with_batch told image keeps =
      restarts_in o history history (length history) (with_more j.kept j.batch) image sound.found sound.named based_on sound.format keeps (kept_whole told) sound.legal sound.again (prefix_refl history) (omega arith)

  without_batch : IsTrue o.told → (image : Sides) → Keeps j.kept image → RestartsIn o history acked image
  without_batch told image keeps =
      restarts_in o history (take acked history) acked j.kept image sound.found sound.named based_on sound.format keeps (sound.kept told up) legal_acked again_acked whole_front
      (omega (arith, length_take acked history sound.within))

  either : IsTrue o.told → (image : Sides) → KeepsOrMore j.kept j.batch image → RestartsIn o history acked image
  either told image keeps =
      ⊎_elim (without_batch told image)
      (λ k. restarts_later o history history (length history) acked image (with_batch told image k) (prefix_refl history) sound.within)
      keeps

  stands_ready : IsTrue (is_clean old) → LeavesOnly old new (KeepsOrMore j.kept j.batch)
  stands_ready clean = subst (λ (x : Stage). LeavesOnly old new (StandsOrMore x j.kept j.batch)) (sound.stage up) (flushed.leaves clean)

  pub flush_leaves : IsTrue o.told → LeavesOnly old new (RestartsIn o history acked)
  flush_leaves told = leaves_what old new _ _ (stands_ready (was_clean told)) (either told)

  records_few : IsTrue o.told → (image : Sides) → Keeps j.kept image → HasRecords o history acked image
  records_few told image keeps =
      let is : recovered o.deployment image ≡ Ok (Some j.kept) = subst (λ (d : List ℕ). recovered d image ≡ Ok (Some j.kept)) sound.named keeps in
      ap records_of is ∙ sound.kept told up ∙ ap (λ (ps : List (List ℕ)). ps ++ records_since o (take acked history)) (sym (sound.counted told))

  records_all : IsTrue o.told → (image : Sides) → Keeps (with_more j.kept j.batch) image → HasRecords o history (length history) image
  records_all told image keeps =
      let is : recovered o.deployment image ≡ Ok (Some (with_more j.kept j.batch)) = subst (λ (d : List ℕ). recovered d image ≡ Ok (Some (with_more j.kept j.batch))) sound.named keeps in
      ap records_of is ∙ kept_whole told ∙ ap (λ (ps : List (List ℕ)). ps ++ records_since o history) (sym (sound.counted told))
      ∙ ap (λ (h : List Entry). payloads_on o.counting ++ records_since o h) (sym (take_all (length history) history (omega arith)))

  pub flush_done : Writes disk_of j j2 → IsSound j2 new o history (length history) stop
  flush_done wrote =
      let kept_all : IsTrue o.told → j2.kept ≡ with_more j.kept j.batch = λ told. wrote.kept (told_then told) in
      let ready : j2.stage ≡ Ready = wrote.stage ∙ sound.stage up in
      let whole : take (length history) history ≡ history = take_all (length history) history (omega arith) in
      record {
        legal = sound.legal;
        again = sound.again;
        found = sound.found;
        based = sound.based;
        keepable = sound.keepable;
        named = ap (λ (h : Head). h.deployment) flushed.head ∙ sound.named;
        stands = ap (λ (h : Head). h.snapshot) flushed.head ∙ sound.stands;
        format = ap (λ (h : Head). h.format) flushed.head ∙ sound.format;
        stage = λ u. ready;
        batch = λ u. wrote.batch ∙ nothing_behind history;
        within = omega arith;
        tells = sound.tells;
        kept = λ told u. ap (λ (k : Kept). k.payloads) (kept_all told) ∙ kept_whole told ∙ ap (λ (h : List Entry). o.found ++ records_since o h) (sym whole);
        seen = λ told u. subst (λ (x : Stage). Stands x j2.kept new.seen) ready (wrote.seen (told_then told));
        rest = λ told u. wrote.rest (was_clean told);
        whole = sound.whole;
        left = λ told whole down. let never : true ≡ false = sym down ∙ up in absurd (cc never);
        counted = sound.counted;
        text = sound.text;
        sized = λ told. sound.sized told ∙ ap (λ (h : Head). size h o.found) (sym flushed.head);
        safe = safe_later o history acked (length history) old new sound.tells sound.safe flushed.told flush_leaves
            (λ told image left. with_batch told image (subst (λ (k : Kept). Keeps k image) (kept_all told) (subst (λ (x : Stage). Stands x j2.kept image) ready (wrote.now (was_clean told) image left))));
        faults = omega (arith, sound.faults, flushed.rising);
        cause = cause_later stop up sound.cause;
      }
    where
      nothing_behind : (h : List Entry) → [] ≡ records_behind o h (length h)
      nothing_behind h = ap (λ (es : List Entry). payloads written_format (replay (base_of o) (take (length h) h)) (choices_of es)) (sym (drop_whole h))

      cause_later : (stop : Option Stop) → is_down stop ≡ false → IsStopOf o j.limit history old stop → IsStopOf o j2.limit history new stop
      cause_later None u cause = tt
      cause_later (Some stops.DiskFault) u cause = absurd (cc u)
      cause_later (Some (stops.Full size adding)) u cause = (cause.0, record { enabled = cause.1.enabled; given = cause.1.given; stands = cause.1.stands; adds = cause.1.adds; above = omega (arith, cause.1.above, flushed.limit) })
      cause_later (Some stops.NoMemory) u cause = cause

  pub flush_failed : Rose old.faults new.faults → IsSound j2 new o history acked (Some stops.DiskFault)
  flush_failed rose = record {
    legal = sound.legal;
    again = sound.again;
    found = sound.found;
    based = sound.based;
    keepable = sound.keepable;
    named = ap (λ (h : Head). h.deployment) flushed.head ∙ sound.named;
    stands = ap (λ (h : Head). h.snapshot) flushed.head ∙ sound.stands;
    format = ap (λ (h : Head). h.format) flushed.head ∙ sound.format;
    stage = λ u. absurd cc;
    batch = λ u. absurd cc;
    within = sound.within;
    tells = sound.tells;
    kept = λ told u. absurd cc;
    seen = λ told u. absurd cc;
    rest = λ told u. absurd cc;
    whole = λ u. absurd cc;
    left = λ told whole down image now. ⊎_elim
        (λ few. inl (records_few told image few))
        (λ all. inr (records_all told image all))
        (now_since old new _ (stands_ready (was_clean told)) image now);
    counted = sound.counted;
    text = sound.text;
    sized = λ told. sound.sized told ∙ ap (λ (h : Head). size h o.found) (sym flushed.head);
    safe = safe_later o history acked acked old new sound.tells sound.safe flushed.told flush_leaves
        (λ told image left. now_since old new _ (flush_leaves told) image left);
    faults = omega (arith, sound.faults, flushed.rising);
    cause = omega (arith, rose, sound.faults);
  }

-- ---- what is seen of it

-- what contracts see of the fields
abbrev pub held : {D : Type 0} → Origin → View D → List Entry → ℕ → Option Stop → Held D
held o j history acked stop = record { disk = j.disk; origin = o; limit = j.limit; history = history; acked = acked; stop = stop }

module _ {D : Type 0} (j : View D) (disk : DiskState) (o : Origin) (history : List Entry) (acked : ℕ) (stop : Option Stop) (sound : IsSound j disk o history acked stop) where
  records_now : IsTrue o.told → is_down stop ≡ false → (image : Sides) → Keeps j.kept image → HasRecords o history acked image
  records_now told up image keeps =
      let is : recovered o.deployment image ≡ Ok (Some j.kept) = subst (λ (d : List ℕ). recovered d image ≡ Ok (Some j.kept)) sound.named keeps in
      ap records_of is ∙ sound.kept told up ∙ ap (λ (ps : List (List ℕ)). ps ++ records_since o (take acked history)) (sym (sound.counted told))

  stands_on : state_of_snapshot written_format o.initial.deployment o.initial.program j.kept.head.snapshot ≡ Some o.start
  stands_on = ap (state_of_snapshot written_format o.initial.deployment o.initial.program) sound.stands ∙ sound.based

  pub again_now : IsTrue o.told → is_down stop ≡ false → RestartsIn o history acked disk.seen
  again_now told up =
      restarts_in o history (take acked history) acked j.kept disk.seen sound.found sound.named stands_on sound.format (sound.seen told up) (sound.kept told up)
      (legal_front (base_of o) (take acked history) (drop acked history) (subst (Legal (base_of o)) (sym (take_drop acked history)) sound.legal))
      (again_front (base_of o) (take acked history) (drop acked history) (subst (λ (h : List Entry). AreReadAgain (base_of o) (choices_of h)) (sym (take_drop acked history)) sound.again))
      (drop acked history, take_drop acked history) (omega (arith, length_take acked history sound.within))

  current_now : IsTrue o.told → is_down stop ≡ false → is_anew (recovered o.deployment disk.seen) ≡ false
  current_now told up =
      let is : recovered o.deployment disk.seen ≡ Ok (Some j.kept) = subst (λ (d : List ℕ). recovered d disk.seen ≡ Ok (Some j.kept)) sound.named (sound.seen told up) in
      ap is_anew is ∙ ap is_first sound.format

  -- the records that a stop now leaves
  batch_now : IsTrue o.told → o.torn ≡ false → (image : Sides) → disk.images image → HasRecordsOrMore o history acked image
  batch_now told whole image now = elim (cases_Bool (is_down stop)) [
    | inl down ↦ sound.left told whole down image now
    | inr up ↦ inl (records_now told up image (subst (λ (x : Sides). Keeps j.kept x) (sym (clean_only disk (sound.rest told up) image now)) (sound.seen told up)))
  ]

  pub is_held : IsHeld disk (held o j history acked stop)
  is_held = record {
    legal = sound.legal;
    acked = sound.within;
    safe = sound.safe;
    cause = sound.cause;
    based = sound.based;
    keepable = sound.keepable;
    text = sound.text;
    counted = sound.counted;
    sized = λ told. omega (arith, sound.sized told, ap length sound.named, ap length sound.stands);
    rest = sound.rest;
    records = λ told up. records_now told up disk.seen (sound.seen told up);
    again = again_now;
    current = current_now;
    whole = sound.whole;
    batch = batch_now;
  }

-- the same of the disk that is handed out
pub held_after : {D : Type 0} (disk_of : D → DiskState) (j : View D) (o : Origin) (history : List Entry) (acked : ℕ) (stop : Option Stop) (d : D) → IsSound j (disk_of j.disk) o history acked stop
    → d ≡ j.disk → IsHeld (disk_of d) (held o j history acked stop)
held_after {D} disk_of j o history acked stop d sound same =
    subst (λ (x : D). IsHeld (disk_of x) (held o j history acked stop)) (sym same) (is_held j (disk_of j.disk) o history acked stop sound)

-- ---- a stop for want of memory

pub halted_sound : {D : Type 0} (j : View D) (disk : DiskState) (o : Origin) (history : List Entry) (acked : ℕ) (stop : Option Stop) (d : Deployment) (s : State) → stop ≡ None
    → IsSoundWith j disk o history acked stop d s → IsSoundWith j disk o history acked (Some stops.NoMemory) d s
halted_sound {D} j disk o history acked stop d s none kept = record {
  sound = sound_stopped j disk o history acked stops.NoMemory refl tt (subst (λ (x : Option Stop). IsSound j disk o history acked x) none kept.sound);
  state = kept.state;
  own = kept.own;
}

-- ---- a planned step is added to the batch

module _ {D : Type 0} (j : View D) (disk : DiskState) (o : Origin) (history : List Entry) (acked : ℕ) (stop : Option Stop) (d : Deployment) (s : State)
    (kept : IsSoundWith j disk o history acked stop d s) (live : stop ≡ None) where
  abbrev now : State
  now = replay (base_of o) history

  running : IsSound j disk o history acked None
  running = subst (λ (x : Option Stop). IsSound j disk o history acked x) live kept.sound

  module _ (plan : PlanView) (made : IsPlanOf now plan.choice plan) where
    -- it is planned of the state that there is, or of one that is the same
    pub plan_there : (s1 : State) → s1 ≡ s → IsPlanOf s1 plan.choice plan
    plan_there s1 same = subst (λ (t : State). IsPlanOf t plan.choice plan) (sym (same ∙ kept.state)) made

    module _ (n : ℕ) (counts : n ≡ length plan.payload) (counted : IsTrue disk.told → j.length ≡ size j.kept.head (j.kept.payloads ++ j.batch)) where
      long : n ≡ length (payload written_format now plan.choice)
      long = counts ∙ ap length made.payload

      pub plan_full : (size adding : ℕ) → IsTooLong j n size adding → IsFullFor o j.limit history plan.choice size adding
      plan_full size adding refused =
          is_full j disk o history acked running plan.choice made.valid made.enabled counted size adding
          (subst (λ k. IsTooLong j k size adding) long refused)

      pub full_sound : (size adding : ℕ) → IsTooLong j n size adding → IsSoundWith j disk o history acked (Some (stops.Full size adding)) d s
      full_sound size adding refused = record {
        sound = sound_stopped j disk o history acked (stops.Full size adding) refl (plan.choice, plan_full size adding refused) running;
        state = kept.state;
        own = kept.own;
      }

      pub plan_room : HasRoomFor j n → HasRoom o j.limit history plan.choice
      plan_room within = has_room j disk o history acked running plan.choice made.valid made.enabled counted (subst (λ k. HasRoomFor j k) long within)

    abbrev pub more : List Entry
    more = history ++ step_entry now plan.choice ∷ []

    -- the entries after it
    pub entries_after : (h h1 : List Entry) (e : Entry) (s1 : State) → h ≡ history → h1 ≡ h ++ e ∷ [] → s1 ≡ s → e ≡ step_entry s1 plan.choice → h1 ≡ more
    entries_after h h1 e s1 same pushed still entry =
        pushed ∙ ap (λ (x : List Entry). x ++ e ∷ []) same ∙ ap (λ (x : Entry). history ++ x ∷ []) (entry ∙ ap (λ (t : State). step_entry t plan.choice) (still ∙ kept.state))

    -- its lines have the room that was made for those of the plan
    pub lines_fit : (h1 : HistoryView) (e : Entry) (s1 : State) → s1 ≡ s → e ≡ step_entry s1 plan.choice → HasRoomForLines plan.lines h1 → HasRoomForLines e.lines h1
    lines_fit h1 e s1 still entry room =
        subst (λ (ls : List (List ℕ)). HasRoomForLines ls h1)
        (made.lines ∙ ap (λ (t : State). lines_of_step t plan.choice) (sym (still ∙ kept.state)) ∙ sym (ap (λ (x : Entry). x.lines) entry)) room

    module _ (j1 : View D) (bytes : List ℕ) (paid : bytes ≡ plan.payload) (pushed : j1 ≡ with_payload j bytes) (h1 : List Entry) (grown : h1 ≡ more) (s1 s2 : State) (still : s1 ≡ s) (moved : s2 ≡ after s1 plan.choice) where
      taken : j1 ≡ with_payload j (payload written_format now plan.choice)
      taken = pushed ∙ ap (with_payload j) (paid ∙ made.payload)

      again : choice_in written_format (payload written_format now plan.choice) ≡ Some plan.choice
      again = ap (choice_in written_format) (sym made.payload) ∙ made.again

      arrives : s2 ≡ replay (base_of o) more
      arrives = moved ∙ ap (λ (t : State). after t plan.choice) (still ∙ kept.state) ∙ sym (replay-append (base_of o) history (step_entry now plan.choice ∷ []))

      pub added_sound : ((x : Deployment) → IsOwn x s1 → IsOwn x s2) → IsSoundWith j1 disk o h1 acked stop d s2
      added_sound keeps = record {
        sound = subst (λ (x : Option Stop). IsSound j1 disk o h1 acked x) (sym live)
            (subst (λ (h : List Entry). IsSound j1 disk o h acked None) (sym grown) (step_sound j disk o history acked running plan.choice made.valid made.enabled j1 taken again));
        state = arrives ∙ ap (replay (base_of o)) (sym grown);
        own = keeps d (subst (λ (t : State). IsOwn d t) (sym still) kept.own);
      }

      pub added_view : held o j1 h1 acked stop ≡ record (held o j history acked stop) { history = more }
      added_view =
          ap (λ (v : View D). held o v h1 acked stop) pushed
          ∙ ap (λ (h : List Entry). held o (with_payload j bytes) h acked stop) grown

-- nothing has changed but the memory
pub same_sound : {D : Type 0} (j j1 : View D) (disk : DiskState) (o : Origin) (history h1 : List Entry) (acked : ℕ) (stop : Option Stop) (d : Deployment) (s s1 : State)
    → j1 ≡ j → h1 ≡ history → s1 ≡ s → IsSoundWith j disk o history acked stop d s → IsSoundWith j1 disk o h1 acked stop d s1
same_sound {D} j j1 disk o history h1 acked stop d s s1 is_j is_h is_s kept =
    subst (λ (v : View D). IsSoundWith v disk o h1 acked stop d s1) (sym is_j)
    (subst (λ (h : List Entry). IsSoundWith j disk o h acked stop d s1) (sym is_h)
    (subst (λ (t : State). IsSoundWith j disk o history acked stop d t) (sym is_s) kept))

pub same_held : {D : Type 0} (j j1 : View D) (o : Origin) (history h1 : List Entry) (acked : ℕ) (stop : Option Stop) → j1 ≡ j → h1 ≡ history → held o j1 h1 acked stop ≡ held o j history acked stop
same_held {D} j j1 o history h1 acked stop is_j is_h = ap (λ (v : View D). held o v h1 acked stop) is_j ∙ ap (λ (h : List Entry). held o j h acked stop) is_h

-- the same of what is seen
pub adds_seen : {D : Type 0} (v h w : Held D) (c : Choice) (r : Result (Unit {0}) StepFault) → v ≡ h → Adds v c r w → Adds h c r w
adds_seen {D} v h w c r same adds = subst (λ (x : Held D). Adds x c r w) same adds

-- the same disk, by the journal that has it
pub at_disk : {D : Type 0} (disk_of : D → DiskState) (j : View D) (x : D) (o : Origin) (history : List Entry) (acked : ℕ) (stop : Option Stop) (d : Deployment) (s : State) → j.disk ≡ x
    → IsSoundWith j (disk_of x) o history acked stop d s → IsSoundWith j (disk_of j.disk) o history acked stop d s
at_disk {D} disk_of j x o history acked stop d s same kept = subst (λ (y : D). IsSoundWith j (disk_of y) o history acked stop d s) (sym same) kept

-- a plan of the state that there is, as one of the state that is seen
pub planned : (s t : State) (c : Choice) (plan : PlanView) → s ≡ t → IsPlanOf s c plan → IsPlanOf t plan.choice plan
planned s t c plan same made = subst (λ (x : Choice). IsPlanOf t x plan) (sym made.choice) (subst (λ (x : State). IsPlanOf x c plan) same made)

-- a step of the plan's choice
pub makes_for : {D : Type 0} (disk_of : D → DiskState) (h w : Held D) (c e : Choice) (r : Result ℕ StepFault) → c ≡ e → Makes (disk_of h.disk) (disk_of w.disk) h c r w → Makes (disk_of h.disk) (disk_of w.disk) h e r w
makes_for {D} disk_of h w c e r same makes = subst (λ (x : Choice). Makes (disk_of h.disk) (disk_of w.disk) h x r w) same makes

-- ---- a flush, with the state

module _ {D : Type 0} (disk_of : D → DiskState) (j j2 : View D) (o : Origin) (history : List Entry) (acked : ℕ) (stop : Option Stop) (d : Deployment) (s : State)
    (kept : IsSoundWith j (disk_of j.disk) o history acked stop d s) (up : is_down stop ≡ false) (flushed : Flushed disk_of j j2) where
  pub written_sound : (n : ℕ) → n ≡ length history → Writes disk_of j j2 → IsSoundWith j2 (disk_of j2.disk) o history n stop d s
  written_sound n all wrote = record {
    sound = subst (λ k. IsSound j2 (disk_of j2.disk) o history k stop) (sym all) (flush_done disk_of j j2 o history acked stop kept.sound up flushed wrote);
    state = kept.state;
    own = kept.own;
  }

  pub failed_sound : Rose (disk_of j.disk).faults (disk_of j2.disk).faults → IsSoundWith j2 (disk_of j2.disk) o history acked (Some stops.DiskFault) d s
  failed_sound rose = record {
    sound = flush_failed disk_of j j2 o history acked stop kept.sound up flushed rose;
    state = kept.state;
    own = kept.own;
  }

  pub written_view : (n : ℕ) → n ≡ length history → held o j2 history n stop ≡ record (held o j history acked stop) { acked = length history; disk = j2.disk }
  written_view n all =
      ap (λ k. held o j2 history k stop) all
      ∙ ap (λ l. record (held o j2 history (length history) stop) { limit = l }) flushed.limit

  pub failed_view : held o j2 history acked (Some stops.DiskFault) ≡ record (held o j history acked stop) { stop = Some stops.DiskFault; disk = j2.disk }
  failed_view = ap (λ l. record (held o j2 history acked (Some stops.DiskFault)) { limit = l }) flushed.limit

-- what is ready isn't stopped
pub goes : (stage : Stage) → stage ≡ Ready → stage ≢ stages.Stopped
goes stage ready stopped = let never : Ready ≡ stages.Stopped = sym ready ∙ stopped in cc never

-- where nothing is behind, the batch is empty
pub nothing_waits : {D : Type 0} (j : View D) (disk : DiskState) (o : Origin) (history : List Entry) (acked : ℕ) (stop : Option Stop) → IsSound j disk o history acked stop → is_down stop ≡ false → acked ≡ length history → j.batch ≡ []
nothing_waits j disk o history acked stop sound up all =
    sound.batch up ∙ ap (records_behind o history) all
    ∙ ap (λ (es : List Entry). payloads written_format (replay (base_of o) (take (length history) history)) (choices_of es)) (drop_whole history)

-- ---- steps, as they are seen

-- a crash leaves no less of a disk that didn't change
stays : (o : Origin) (g h : List Entry) (n : ℕ) (disk : DiskState) → IsPrefix g h → IsCrashSafe o g n disk → o.torn ≡ false → IsTrue o.told → LeavesOnly disk disk (RestartsIn o h n)
stays o g h n disk front safe whole told = leaves_start disk (RestartsIn o h n) ((safe_longer o g h n disk front safe).now told whole)

module _ {D : Type 0} (disk_of : D → DiskState) (first : Held D) (c : Choice) (safe : IsCrashSafe first.origin first.history first.acked (disk_of first.disk)) (whole : first.origin.torn ≡ false) where
  -- nothing has changed
  pub refused_makes : Makes (disk_of first.disk) (disk_of first.disk) first c (Err faults.NoMemory) first
  refused_makes = record {
    step = refl;
    acked = refl;
    origin = refl;
    limit = refl;
    failed = λ is. absurd (cc is);
    any_moment = stays first.origin first.history first.history first.acked (disk_of first.disk) (prefix_refl first.history) safe whole;
  }

  full_makes : (size adding : ℕ) → IsFullFor first.origin first.limit first.history c size adding
      → Makes (disk_of first.disk) (disk_of first.disk) first c (Err (faults.Full size adding)) (record first { stop = Some (stops.Full size adding) })
  full_makes size adding full = record {
    step = (refl, full);
    acked = refl;
    origin = refl;
    limit = refl;
    failed = λ is. absurd (cc is);
    any_moment = stays first.origin first.history first.history first.acked (disk_of first.disk) (prefix_refl first.history) safe whole;
  }

  -- what isn't added isn't made
  pub not_added : (fault : StepFault) (mid : Held D) → Adds first c (Err fault) mid → Makes (disk_of first.disk) (disk_of mid.disk) first c (Err fault) mid
  not_added (faults.Full size adding) mid adds =
      subst (λ (h : Held D). Makes (disk_of first.disk) (disk_of h.disk) first c (Err (faults.Full size adding)) h) (sym adds.0) (full_makes size adding adds.1)
  not_added faults.NoMemory mid adds = subst (λ (h : Held D). Makes (disk_of first.disk) (disk_of h.disk) first c (Err faults.NoMemory) h) (sym adds.0) refused_makes
  not_added faults.DiskFault mid adds = absurd adds
  not_added faults.Spent mid adds = absurd adds

  module _ (live : first.stop ≡ None) where
    -- what is seen once the step is added
    abbrev longer : Held D
    longer = record first { history = first.history ++ step_entry (state_held first) c ∷ [] }

    longer_makes : (n : ℕ) → n ≡ length longer.history → is_written longer.origin longer.history longer.acked ≡ false → HasRoom first.origin first.limit first.history c
        → Makes (disk_of first.disk) (disk_of first.disk) first c (Ok n) longer
    longer_makes n counts short room = record {
      step = (refl, counts, live, room);
      acked = sym (ap (λ b. if b then length longer.history else first.acked) short);
      origin = refl;
      limit = refl;
      failed = λ is. absurd (cc is);
      any_moment = stays first.origin first.history longer.history first.acked (disk_of first.disk) (step_entry (state_held first) c ∷ [], refl) safe whole;
    }

    module _ (done : Unit {0}) (mid : Held D) (adds : Adds first c (Ok done) mid) where
      -- the batch isn't long enough to be written
      pub added_makes : (n : ℕ) → n ≡ length mid.history → is_written mid.origin mid.history mid.acked ≡ false → Makes (disk_of first.disk) (disk_of mid.disk) first c (Ok n) mid
      added_makes n counts short =
          subst (λ (h : Held D). Makes (disk_of first.disk) (disk_of h.disk) first c (Ok n) h) (sym adds.0)
          (longer_makes n
          (subst (λ (h : Held D). n ≡ length h.history) adds.0 counts)
          (subst (λ (h : Held D). is_written h.origin h.history h.acked ≡ false) adds.0 short)
          adds.1)

      module _ (last : Held D)
          (leaves : IsTrue mid.origin.told → LeavesOnly (disk_of mid.disk) (disk_of last.disk) (RestartsIn mid.origin mid.history mid.acked)) where
        leaves_last : last.history ≡ longer.history → IsTrue first.origin.told → LeavesOnly (disk_of first.disk) (disk_of last.disk) (RestartsIn first.origin last.history first.acked)
        leaves_last same told =
            subst (λ (h : List Entry). LeavesOnly (disk_of first.disk) (disk_of last.disk) (RestartsIn first.origin h first.acked)) (sym same)
            (subst (λ (h : Held D). IsTrue h.origin.told → LeavesOnly (disk_of h.disk) (disk_of last.disk) (RestartsIn h.origin h.history h.acked)) adds.0 leaves told)

        -- the batch is written
        pub flushed_makes : (n : ℕ) → n ≡ length last.history → is_written mid.origin mid.history mid.acked ≡ true → last ≡ record mid { acked = length mid.history; disk = last.disk }
            → Makes (disk_of first.disk) (disk_of last.disk) first c (Ok n) last
        flushed_makes n counts long is =
            let all : last ≡ record longer { acked = length longer.history; disk = last.disk } = is ∙ ap (λ (h : Held D). record h { acked = length h.history; disk = last.disk }) adds.0 in
            let entries : last.history ≡ longer.history = ap (λ (h : Held D). h.history) all in
            let there : is_written first.origin longer.history first.acked ≡ true = subst (λ (h : Held D). is_written h.origin h.history h.acked ≡ true) adds.0 long in
            let written : is_written first.origin last.history first.acked ≡ true = ap (λ (h : List Entry). is_written first.origin h first.acked) entries ∙ there in
            record {
              step = (entries, counts, ap (λ (h : Held D). h.stop) all ∙ live, adds.1);
              acked = ap (λ (h : Held D). h.acked) all ∙ ap length (sym entries) ∙ sym (ap (λ b. if b then length last.history else first.acked) written);
              origin = ap (λ (h : Held D). h.origin) all;
              limit = ap (λ (h : Held D). h.limit) all;
              failed = λ never. absurd (cc never);
              any_moment = leaves_last entries;
            }

        -- the disk fails
        pub failed_makes : last ≡ record mid { stop = Some stops.DiskFault; disk = last.disk } → Rose (disk_of mid.disk).faults (disk_of last.disk).faults
            → Makes (disk_of first.disk) (disk_of last.disk) first c (Err faults.DiskFault) last
        failed_makes is rose =
            let entries : last.history ≡ longer.history = ap (λ (h : Held D). h.history) is ∙ ap (λ (h : Held D). h.history) adds.0 in
            record {
              step = (entries, ap (λ (h : Held D). h.stop) is, adds.1);
              acked = ap (λ (h : Held D). h.acked) is ∙ ap (λ (h : Held D). h.acked) adds.0;
              origin = ap (λ (h : Held D). h.origin) is ∙ ap (λ (h : Held D). h.origin) adds.0;
              limit = ap (λ (h : Held D). h.limit) is ∙ ap (λ (h : Held D). h.limit) adds.0;
              failed = λ e. subst (λ (h : Held D). Rose (disk_of h.disk).faults (disk_of last.disk).faults) adds.0 rose;
              any_moment = leaves_last entries;
            }
