-- What the parts of a run answer.
use Rattle.std.proofs.Common.{◌≡◌, ◌≢◌, ◌⊎◌, inl, inr, ℕ, ◌<◌, ◌≤◌, nat_le, List, [], ◌++◌, length, take, drop, true, false, refl, sym, ◌∙◌, ap, subst, append_assoc, Option, Some, None, Result, Ok, Err, IsOk, IsTrue, IfSome, MatchOption, arith, drop_of_length-le}
use Rattle.std.proofs.lemmas.Bool.{cases_Bool, leb-true}
use Rattle.std.proofs.KnownBytes.{Appends-trans}
use Rattle.deploy_model.specs.Resolving.{deployed_of}
use Rattle.signal_gen.specs.Generator.{generated}
use Rattle.signal_script.specs.Signals.{signals_of}
use Rattle.signal_script.specs.declared.signal.Signal.{Signal}
use Rattle.slee_disk.specs.Causes.{Rose}
use Rattle.slee_disk.specs.Sides.{Sides}
use Rattle.slee_disk.specs.Disk.{DiskState, LeavesOnly, is_clean}
use Rattle.slee_disk.specs.Writes.{Writes}
use Rattle.slee_disk.proofs.Moments.{clean_told, leaves_then, leaves_what, now_since}
use Rattle.commit_journal.specs.declared.fault.BeginFault.{BeginFault}
use Rattle.commit_journal.specs.declared.fault.BeginFault.TheVariants as renewals
use Rattle.commit_journal.specs.Reading.{Kept, recovered}
use Rattle.router_state.specs.Initial.{initial}
use Rattle.router_state.specs.Restoring.{snapshot_text}
use Rattle.router_state.specs.State.{State}
use Rattle.router_steps.specs.Histories.{replay}
use Rattle.trace_history.specs.declared.entry.Entry.{Entry}
use Rattle.router_durable.specs.declared.fault.Stop.{Stop}
use Rattle.router_durable.specs.declared.fault.Stop.TheVariants as stops
use Rattle.router_durable.specs.declared.fault.OpenFault.{OpenFault}
use Rattle.router_durable.specs.declared.fault.OpenFault.TheVariants as faults
use Rattle.router_durable.specs.Anew.{IsFullAnew, size_anew}
use Rattle.router_durable.specs.Choices.{written_format}
use Rattle.router_durable.specs.Compacting.{Compacts as CompactsRouter, IsCompacted as IsCompactedRouter, Renews}
use Rattle.router_durable.specs.Facts.{Origin, RestartsIn, base_of}
use Rattle.router_durable.specs.Opening.{IsSmall, Opens}
use Rattle.router_durable.specs.Core.{Held, IsStopOf, is_down, lifted}
use Rattle.router_durable.specs.Recovery.{restart}
use Rattle.slee_container.specs.Compacting.{Compacts}
use Rattle.slee_container.specs.declared.container.Mode.{Mode}
use Rattle.slee_container.specs.declared.container.Mode.TheVariants as modes
use Rattle.slee_container.specs.Container.{View, Setup, IsKept, held_in, state_of}
use Rattle.slee_container.specs.Opening.{Starts, skipped_by}
use Rattle.slee_run.specs.Status.{row_of, status_line}
use Rattle.slee_run.specs.Text.{IsReachedTime, IsUnendedTime, generation_line, lines_text, output_text, short_text, task_text}
use Rattle.slee_run.specs.Given.{Document, IsDeployment, IsDocument, refusal_of, refusal_of_deploy, lines_in, lines_read}
use Rattle.slee_run.specs.Checking.{IsBarred, IsCheckedAt, IsLinesFor}
use Rattle.slee_run.specs.Headline.{EndsOn, ComesOn, IsByOne, IsByOneFrom, IsRefusedAs, IsTendedAt, IsTrialOn, IsTrialOrNone, IsUnread, IsWritten, lines_of_run, trial_steps}
use Rattle.slee_run.specs.Opening.{journal_limit, found, IsAnswerTo, IsBeforeOpening, IsEarly, IsUntouchedAt}
use Rattle.slee_run.specs.Stops.{CompactsJournal, DoneOn, IsCompacted, IsSettled, IsUnwritten, KeepsJournal, MeetsJournal, ShowsJournal, left_on}
use Rattle.slee_run.specs.Playing.{IsPlayed, HadRoom, left, stop_of, status_after}
use Rattle.slee_run.specs.Answers.{AreInputsFrom, CompactsState, DoesTask, IsDeployedFrom, IsFinished, IsGeneratedBy, IsLinesOut, IsPlayedBy, IsPlayedFrom, IsPlayedOn, IsRefusalBy, IsTaskBy, IsTaskOf, IsTriedBy, IsUnopenedAs, ShowsState, document_of, generation_of, limits_of, status_of, status_of_compacting, status_of_renewal}
use Rattle.slee_run.specs.declared.finishing.Report.{Report}
use Rattle.slee_run.specs.declared.finishing.Report.TheVariants as reports
use Rattle.slee_run.specs.declared.playing.End.{End}
use Rattle.slee_run.specs.declared.playing.End.TheVariants as ends
use Rattle.slee_run.specs.declared.reading.Deployed.{Deployed}
use Rattle.slee_run.specs.declared.reading.Inputs.{Inputs}
use Rattle.slee_run.specs.declared.status.Status.{Status}
use Rattle.slee_run.specs.declared.status.Status.TheVariants as statuses
use Rattle.slee_run.specs.declared.tending.Task.{Task}
use Rattle.slee_run.specs.declared.tending.Task.TheVariants as tasks
use Rattle.slee_run.proofs.JournalLemmas.{GoesOver, alone_still, base_on, goes_over, history_kept, keeps, met, no_fault, no_history, no_size, one_state, refused, refused_compacts, refused_met, refused_other, refused_shows, refused_size, stop_size, untouched, untouched_compacts, untouched_met, untouched_shows, whole_prefix, end_answer, end_late, end_down, end_fell, end_full}
use Rattle.slee_run.proofs.EndLemmas.{ends_on, alone_on, alone_at_start}
use Rattle.slee_run.proofs.ReadLemmas.{good_deploy}

-- ---- text

-- some text is out, and then more
pub written_then : {K T E : Type 0} (contents : K → Option (List ℕ)) (faults : K → ℕ) (old mid : K) (after : Option (List ℕ)) (text more : List ℕ) (x : T) (stood status : Status)
    → Writes {E = E} contents faults old mid text (Ok x) → IsWritten (contents mid) after more stood status → IsWritten (contents old) after (text ++ more) stood status
written_then contents faults old mid after text more x stood status w rest = record {
  whole = λ up. ((rest.whole up).0, Appends-trans _ _ _ _ _ w.ok (rest.whole up).1);
  front = λ is. let f = rest.front is in (text ++ f.0, f.1, ap (λ (l : List ℕ). text ++ l) f.2 ∙ sym (append_assoc text f.0 f.1), Appends-trans _ _ _ _ _ w.ok f.3);
}

-- the sink failed, and what was to follow isn't out either
pub written_front : {K T E : Type 0} (contents : K → Option (List ℕ)) (faults : K → ℕ) (old new : K) (text more : List ℕ) (e : E) (stood : Status)
    → Writes {T = T} contents faults old new text (Err e) → IsWritten (contents old) (contents new) (text ++ more) stood statuses.WriteFault
written_front contents faults old new text more e stood w = record {
  whole = λ up. absurd (up refl);
  front = λ is. (w.err.0, w.err.1 ++ more, ap (λ (l : List ℕ). l ++ more) w.err.2 ∙ append_assoc w.err.0 w.err.1 more, w.err.3);
}

pub written_as : (before after : Option (List ℕ)) (text same : List ℕ) (stood status : Status) → text ≡ same → IsWritten before after text stood status → IsWritten before after same stood status
written_as before after text same stood status is w = subst (λ (l : List ℕ). IsWritten before after l stood status) is w

-- a status that isn't told before the journal is opened isn't told so once it was written
late_told : (stood status : Status) → (status ≢ statuses.WriteFault → status ≢ statuses.NoMemory → status ≡ stood) → (IsBeforeOpening stood → ⊥) → IsBeforeOpening status → ⊥
late_told stood statuses.Ok same late early = early
late_told stood statuses.BadWords same late early = late (subst IsBeforeOpening (same (λ e. cc) (λ e. cc)) early)
late_told stood statuses.ReadFault same late early = late (subst IsBeforeOpening (same (λ e. cc) (λ e. cc)) early)
late_told stood statuses.WriteFault same late early = early
late_told stood statuses.DiskFault same late early = early
late_told stood (statuses.BadJournal side at kind) same late early = early
late_told stood (statuses.OtherDeployment kept_len place) same late early = early
late_told stood (statuses.Full size adding) same late early = early
late_told stood (statuses.StepsSpent entries) same late early = early
late_told stood statuses.NoMemory same late early = early
late_told stood (statuses.BadDeploy fault) same late early = late (subst IsBeforeOpening (same (λ e. cc) (λ e. cc)) early)
late_told stood (statuses.BadSignals line kind) same late early = late (subst IsBeforeOpening (same (λ e. cc) (λ e. cc)) early)
late_told stood (statuses.TooLarge what) same late early = late (subst IsBeforeOpening (same (λ e. cc) (λ e. cc)) early)

pub late_written : (before after : Option (List ℕ)) (text : List ℕ) (stood status : Status) → IsWritten before after text stood status → (IsBeforeOpening stood → ⊥) → IsBeforeOpening status → ⊥
late_written before after text stood status w late early = late_told stood status (λ up found. sym (w.whole up).0) late early

-- ---- what compacting a container answers

pub compacted_out : {D : Type 0} (disk_of : D → DiskState) (old new : View D) (before after : Option (List ℕ)) (generation : ℕ) (status : Status) → Compacts (disk_of old.disk) (disk_of new.disk) old (Ok generation) new
    → IsWritten before after (generation_line generation ++ status_line statuses.Ok) statuses.Ok status → CompactsState disk_of old new before after status
compacted_out disk_of old new before after generation status compacts out = record { outcome = Ok generation; compacts = compacts; output = out }

renewal_text : (fault : BeginFault) (s : State) → status_line (status_of_renewal fault) ≡ task_text tasks.Compact s 0 (status_of_renewal fault)
renewal_text renewals.DiskFault s = refl
renewal_text (renewals.Full size adding) s = refl
renewal_text renewals.NoMemory s = refl

pub renewal_out : {D : Type 0} (disk_of : D → DiskState) (old new : View D) (before after : Option (List ℕ)) (fault : BeginFault) (stood status : Status) → Compacts (disk_of old.disk) (disk_of new.disk) old (Err fault) new
    → stood ≡ status_of_renewal fault → IsWritten before after (status_line stood) stood status → CompactsState disk_of old new before after status
renewal_out disk_of old new before after fault stood status compacts is out = record {
  outcome = Err fault;
  compacts = compacts;
  output = written_as before after (status_line (status_of_renewal fault)) (task_text tasks.Compact (state_of old) 0 (status_of_renewal fault)) (status_of_renewal fault) status (renewal_text fault (state_of old))
      (subst (λ (s : Status). IsWritten before after (status_line s) s status) is out);
}

pub renewal_unwritten : (fault : BeginFault) (stood : Status) → stood ≡ status_of_renewal fault → stood ≢ statuses.WriteFault
renewal_unwritten renewals.DiskFault stood is e = let never : statuses.DiskFault ≡ statuses.WriteFault = sym is ∙ e in cc
renewal_unwritten (renewals.Full size adding) stood is e = let never : statuses.Full size adding ≡ statuses.WriteFault = sym is ∙ e in cc
renewal_unwritten renewals.NoMemory stood is e = let never : statuses.NoMemory ≡ statuses.WriteFault = sym is ∙ e in cc

-- ---- opening was refused

refused_ends : (base : State) (steps : ℕ) (lines : List Signal) (bytes : List ℕ) (fault : OpenFault) → IsSmall journal_limit bytes fault → EndsOn base steps lines [] (status_of fault)
refused_ends base steps lines bytes faults.DiskFault small = (lines, refl)
refused_ends base steps lines bytes (faults.BadJournal side at kind) small = refl
refused_ends base steps lines bytes (faults.OtherDeployment kept_len place) small = refl
refused_ends base steps lines bytes (faults.Full size adding) small = inr (record { none = refl; empty = small.1.0; above = small.1.2 })
refused_ends base steps lines bytes faults.NoMemory small = (lines, refl)

refused_unended : (fault : OpenFault) → IsUnendedTime (row_of (status_of fault)).time
refused_unended faults.DiskFault = tt
refused_unended (faults.BadJournal side at kind) = tt
refused_unended (faults.OtherDeployment kept_len place) = tt
refused_unended (faults.Full size adding) = tt
refused_unended faults.NoMemory = tt

pub refused_late : (fault : OpenFault) → IsBeforeOpening (status_of fault) → ⊥
refused_late faults.DiskFault early = early
refused_late (faults.BadJournal side at kind) early = early
refused_late (faults.OtherDeployment kept_len place) early = early
refused_late (faults.Full size adding) early = early
refused_late faults.NoMemory early = early

refused_spent : (fault : OpenFault) (n : ℕ) → status_of fault ≢ statuses.StepsSpent n
refused_spent faults.DiskFault n is = cc
refused_spent (faults.BadJournal side at kind) n is = cc
refused_spent (faults.OtherDeployment kept_len place) n is = cc
refused_spent (faults.Full size adding) n is = cc
refused_spent faults.NoMemory n is = cc

refused_words : (fault : OpenFault) → status_of fault ≢ statuses.BadWords
refused_words faults.DiskFault is = cc
refused_words (faults.BadJournal side at kind) is = cc
refused_words (faults.OtherDeployment kept_len place) is = cc
refused_words (faults.Full size adding) is = cc
refused_words faults.NoMemory is = cc

pub refused_unwritten : (fault : OpenFault) → status_of fault ≢ statuses.WriteFault
refused_unwritten faults.DiskFault is = cc
refused_unwritten (faults.BadJournal side at kind) is = cc
refused_unwritten (faults.OtherDeployment kept_len place) is = cc
refused_unwritten (faults.Full size adding) is = cc
refused_unwritten faults.NoMemory is = cc

refused_tended : (fault : OpenFault) → IsTendedAt (status_of fault)
refused_tended faults.DiskFault = tt
refused_tended (faults.BadJournal side at kind) = tt
refused_tended (faults.OtherDeployment kept_len place) = tt
refused_tended (faults.Full size adding) = tt
refused_tended faults.NoMemory = tt

refused_text : (task : Task) (base : State) (generation : ℕ) (fault : OpenFault) → status_line (status_of fault) ≡ task_text task base generation (status_of fault)
refused_text task base generation faults.DiskFault = refl
refused_text task base generation (faults.BadJournal side at kind) = refl
refused_text task base generation (faults.OtherDeployment kept_len place) = refl
refused_text task base generation (faults.Full size adding) = refl
refused_text task base generation faults.NoMemory = refl

module _ (x : Document) (before after : Option (List ℕ)) (old new : DiskState) (stood status : Status) (u : IsUnopenedAs x old new stood)
    (out : IsWritten before after (status_line stood) stood status) where
  abbrev fault : OpenFault
  fault = u.fault

  told_out : IsWritten before after (status_line (status_of fault)) (status_of fault) status
  told_out = subst (λ (s : Status). IsWritten before after (status_line s) s status) u.is out

  sizeless : (size adding : ℕ) → status_of fault ≡ statuses.Full size adding → size ≡ 0
  sizeless size adding is = refused_size x.bytes fault u.refused.small size adding is

  pub refused_played : (mode : Mode) (steps : ℕ) (report : Report) (lines : List Signal) → IsPlayedOn x mode steps report lines before after old new status
  refused_played mode steps report lines = record {
    run = record { base = base_on x old; generation = 0; history = []; acked = []; ended = status_of fault; stood = status_of fault; text = status_line (status_of fault) };
    played = record {
      legal = no_history (base_on x old) (status_of fault);
      words = refused_words fault;
      same = λ more. refl;
      unwritten = refused_unwritten fault;
      prints = inr (record { none = refl; unended = refused_unended fault; anew = sizeless; same = refl; alone = refl });
      met = refused_met x old new fault u.refused;
      keeps = refused x old new fault u.refused;
      bare = λ told adding is. refl;
      output = told_out;
    };
    play = record {
      few = omega arith;
      ends = refused_ends (base_on x old) steps (lines_of_run mode (base_on x old) lines) x.bytes fault u.refused.small;
      alone = alone_at_start (base_on x old) steps (lines_of_run mode (base_on x old) lines) (status_of fault) (refused_other fault) (refused_spent fault) (λ size adding some is. some (sizeless size adding is));
    };
  }

  refused_done : (task : Task) (generation : ℕ) → DoneOn task x (base_on x old) generation old new (status_of fault)
  refused_done tasks.Show generation = refused_shows x old new fault u.refused
  refused_done tasks.Compact generation = refused_compacts x old new fault u.refused generation

  pub refused_task : (task : Task) → IsTaskOf task x before after old new status
  refused_task task = record {
    base = base_on x old;
    generation = 0;
    stood = status_of fault;
    comes = refused_tended fault;
    late = refused_late fault;
    met = refused_met x old new fault u.refused;
    done = refused_done task 0;
    output = written_as before after (status_line (status_of fault)) (task_text task (base_on x old) 0 (status_of fault)) (status_of fault) status (refused_text task (base_on x old) 0 fault) told_out;
  }

  pub unopened_unwritten : stood ≢ statuses.WriteFault
  unopened_unwritten is = refused_unwritten fault (sym u.is ∙ is)

  pub unopened_late : IsBeforeOpening status → ⊥
  unopened_late early = late_written before after (status_line stood) stood status out (λ started. refused_late fault (subst IsBeforeOpening u.is started)) early

-- ---- a container was opened

pub end_words : (entries : ℕ) (e : End) → status_after entries e ≢ statuses.BadWords
end_words entries ends.Done is = cc
end_words entries ends.Spent is = cc
end_words entries (ends.Full size adding) is = cc
end_words entries ends.DiskFault is = cc
end_words entries ends.NoMemory is = cc

pub end_unwritten : (entries : ℕ) (e : End) → status_after entries e ≢ statuses.WriteFault
end_unwritten entries ends.Done is = cc
end_unwritten entries ends.Spent is = cc
end_unwritten entries (ends.Full size adding) is = cc
end_unwritten entries ends.DiskFault is = cc
end_unwritten entries ends.NoMemory is = cc

pub end_reached : (entries : ℕ) (e : End) → IsReachedTime (row_of (status_after entries e)).time
end_reached entries ends.Done = tt
end_reached entries ends.Spent = tt
end_reached entries (ends.Full size adding) = tt
end_reached entries ends.DiskFault = tt
end_reached entries ends.NoMemory = tt

pub end_opened : (entries : ℕ) (e : End) → IsBeforeOpening (status_after entries e) → ⊥
end_opened entries ends.Done early = early
end_opened entries ends.Spent early = early
end_opened entries (ends.Full size adding) early = early
end_opened entries ends.DiskFault early = early
end_opened entries ends.NoMemory early = early

-- the lines of a run, by how many of them are skipped
all_skipped : (lines : List Signal) (n : ℕ) → length lines ≤ n → drop (length lines) lines ≡ drop n lines
all_skipped lines n few = drop_of_length-le lines (omega arith) ∙ sym (drop_of_length-le lines few)

run_lines : (mode : Mode) (base : State) (lines : List Signal) → drop (skipped_by mode (length lines) base.inputs) lines ≡ lines_of_run mode base lines
run_lines modes.AllNew base lines = refl
run_lines modes.SkipTaken base lines = elim (cases_Bool (nat_le (length lines) base.inputs)) [
  | inl all ↦ rw all (all_skipped lines base.inputs (leb-true (length lines) base.inputs all))
  | inr some ↦ rw some refl
]

-- what stood before a report was written
abbrev Prints : Report → List Entry → Status → Status → List ℕ → Type 0
Prints report acked ended stood text = ((stood ≡ ended) × (text ≡ output_text report acked ended)) ⊎ ((stood ≡ statuses.NoMemory) × (text ≡ short_text report acked))

pub stood_same : (report : Report) (acked : List Entry) (ended stood : Status) (text : List ℕ) → Prints report acked ended stood text → stood ≢ statuses.NoMemory → stood ≡ ended
stood_same report acked ended stood text (inl whole) more = whole.0
stood_same report acked ended stood text (inr short) more = absurd (more short.0)

pub stood_unwritten : (report : Report) (acked : List Entry) (ended stood : Status) (text : List ℕ) → Prints report acked ended stood text → ended ≢ statuses.WriteFault → stood ≢ statuses.WriteFault
stood_unwritten report acked ended stood text (inl whole) fine is = fine (sym whole.0 ∙ is)
stood_unwritten report acked ended stood text (inr short) fine is = let never : statuses.NoMemory ≡ statuses.WriteFault = sym short.0 ∙ is in cc

-- what a compaction keeps, by equal names
renewed_to : (d e : List ℕ) → d ≡ e → (s t : State) → s ≡ t → (kept : Kept) (generation : ℕ) (before after : DiskState) (o : Origin) → recovered e before.seen ≡ Ok (Some kept)
    → ((kept : Kept) → recovered d before.seen ≡ Ok (Some kept) → Renews d (snapshot_text written_format s) kept after.seen generation o) → Renews e (snapshot_text written_format t) kept after.seen generation o
renewed_to d e same s t also kept generation before after o there renews =
    subst (λ (c : List ℕ). Renews c (snapshot_text written_format t) kept after.seen generation o) same
    (subst (λ (u : State). Renews d (snapshot_text written_format u) kept after.seen generation o) also
    (renews kept (subst (λ (c : List ℕ). recovered c before.seen ≡ Ok (Some kept)) (sym same) there)))

-- whether the disk failed stays the same where a stop for want of room is lifted
lifted_up : (stop : Option Stop) → is_down (lifted stop) ≡ is_down stop
lifted_up None = refl
lifted_up (Some stops.DiskFault) = refl
lifted_up (Some (stops.Full size adding)) = refl
lifted_up (Some stops.NoMemory) = refl

module _ {D : Type 0} (disk_of : D → DiskState) (x : Document) (old : DiskState) (first : View D) (mode : Mode) (steps : ℕ) (lines : List Signal)
    (starts : Starts old (disk_of first.disk) x.start x.bytes lines mode (limits_of steps) first) where
  abbrev now : DiskState
  now = disk_of first.disk

  opens : Opens old now x.start x.bytes journal_limit (held_in first)
  opens = starts.opened

  abbrev first_base : State
  first_base = base_of first.setup.origin

  unplayed : state_of first ≡ first_base
  unplayed = ap (replay first_base) opens.history

  -- the lines that are left then are those of the run
  pub lines_left : left first ≡ lines_of_run mode first_base lines
  lines_left =
      ap (λ (n : ℕ). drop n first.setup.lines) (starts.taken ∙ starts.skipped ∙ ap (λ (s : State). skipped_by mode (length lines) s.inputs) unplayed)
      ∙ ap (λ (l : List Signal). drop (skipped_by mode (length lines) first_base.inputs) l) starts.lined
      ∙ run_lines mode first_base lines

  pub opened_played : (last : View D) (handed : D) (e : End) (entries : ℕ) (report : Report) (before after : Option (List ℕ)) (at status : Status)
      → IsKept (disk_of handed) last → handed ≡ last.disk → last.setup ≡ first.setup
      → IsPlayed first.setup.journal (base_of first.setup.origin) first.setup.steps (left first) last.history e → last.stop ≡ stop_of e
      → (is_down last.stop ≡ false → last.acked ≡ length last.history)
      → HadRoom first.setup.origin first.setup.journal last.history
      → entries ≡ length last.history → at ≡ status_after entries e → IsFinished report (take last.acked last.history) at before after status
      → IsPlayedOn x mode steps report lines before after old (disk_of handed) status
  opened_played last handed e entries report before after at status kept_there back same played stopped whole roomy count_is at_is out = record {
    run = record { base = base_of last.setup.origin; generation = 0; history = last.history; acked = take last.acked last.history; ended = status_after entries e; stood = done.stood; text = done.text };
    played = record {
      legal = history_kept disk_of x old last (status_after entries e) over kept down fell whole full answer late room;
      words = end_words entries e;
      same = stood_same report (take last.acked last.history) (status_after entries e) done.stood done.text done.reported.prints;
      unwritten = stood_unwritten report (take last.acked last.history) (status_after entries e) done.stood done.text done.reported.prints (end_unwritten entries e);
      prints = inl done.reported;
      met = subst (λ (d : D). MeetsJournal x (base_of last.setup.origin) last.history old (disk_of d) (status_after entries e)) (sym back)
          (met disk_of x old last (status_after entries e) over kept down fell whole full answer late room);
      keeps = subst (λ (d : D). KeepsJournal x (base_of last.setup.origin) last.history (take last.acked last.history) old (disk_of d) (status_after entries e)) (sym back) journal;
      bare = λ told adding is. absurd (sided told adding is);
      output = done.output;
    };
    play = record {
      few = plays.so_far.count;
      ends = ends_on (base_of last.setup.origin) steps (lines_of_run mode (base_of last.setup.origin) lines) last.history e entries count_is plays;
      alone = alone_on (base_of last.setup.origin) steps (lines_of_run mode (base_of last.setup.origin) lines) last.history e entries plays;
    };
  }
    where
      done : IsFinished report (take last.acked last.history) (status_after entries e) before after status
      done = subst (λ (s : Status). IsFinished report (take last.acked last.history) s before after status) at_is out

      kept : IsKept (disk_of last.disk) last
      kept = subst (λ (d : D). IsKept (disk_of d) last) back kept_there

      over : GoesOver x old last.setup.origin
      over = goes_over x old now first last opens same

      down : is_down last.stop ≡ true → status_after entries e ≡ statuses.DiskFault
      down is_fallen = end_down entries e (ap is_down (sym stopped) ∙ is_fallen)

      fell : status_after entries e ≡ statuses.DiskFault → last.stop ≡ Some stops.DiskFault
      fell is = stopped ∙ end_fell entries e is

      full : (size adding : ℕ) → status_after entries e ≡ statuses.Full size adding → last.stop ≡ Some (stops.Full size adding)
      full size adding is = stopped ∙ end_full entries e size adding is

      answer : IsOk (found x old) → IsAnswerTo (found x old) (status_after entries e)
      answer ok = end_answer (found x old) entries e ok

      late : IsUntouchedAt (status_after entries e) old (disk_of last.disk)
      late = end_late old (disk_of last.disk) entries e

      limited : first.setup.journal ≡ journal_limit
      limited = opens.limited

      room : HadRoom last.setup.origin journal_limit last.history
      room = subst (λ (u : Setup). HadRoom u.origin journal_limit last.history) (sym same) (subst (λ (n : ℕ). HadRoom first.setup.origin n last.history) limited roomy)

      journal : KeepsJournal x (base_of last.setup.origin) last.history (take last.acked last.history) old (disk_of last.disk) (status_after entries e)
      journal = keeps disk_of x old last (status_after entries e) over kept down fell whole full answer late room

      -- a side that stands has bytes
      sided : IsTrue old.told → (adding : ℕ) → status_after entries e ≡ statuses.Full 0 adding → ⊥
      sided told adding is = no_size x old (base_of last.setup.origin) last.history
          (stop_size disk_of x old last (status_after entries e) over kept down fell whole full answer late room told 0 adding (full 0 adding is))

      based : first_base ≡ base_of last.setup.origin
      based = sym (ap (λ (u : Setup). base_of u.origin) same)

      plays : IsPlayed journal_limit (base_of last.setup.origin) steps (lines_of_run mode (base_of last.setup.origin) lines) last.history e
      plays =
          subst (λ (b : State). IsPlayed journal_limit b steps (lines_of_run mode b lines) last.history e) based
          (subst (λ (n : ℕ). IsPlayed journal_limit first_base n (lines_of_run mode first_base lines) last.history e) starts.steps
          (subst (λ (l : List Signal). IsPlayed journal_limit first_base first.setup.steps l last.history e) lines_left
          (subst (λ (n : ℕ). IsPlayed n first_base first.setup.steps (left first) last.history e) limited played)))

  -- ---- a task

  over_first : GoesOver x old first.setup.origin
  over_first = goes_over x old now first first opens refl

  unacked : take first.acked first.history ≡ []
  unacked = ap (λ (n : ℕ). take n first.history) opens.acked

  first_up : is_down first.stop ≡ false
  first_up = ap is_down opens.stop

  never_down : {Goal : Type 0} → is_down first.stop ≡ true → Goal
  never_down fell = let never : true ≡ false = sym fell ∙ first_up in absurd (cc)

  first_whole : is_down first.stop ≡ false → first.acked ≡ length first.history
  first_whole up = opens.acked ∙ sym (ap length opens.history)

  -- what is true of a status to which a task comes whose disk didn't fail, and that isn't Full
  module _ (kept : IsKept (disk_of first.disk) first) (stood : Status) (which : (stood ≡ statuses.Ok) ⊎ (stood ≡ statuses.NoMemory)) where
    which_answer : IsOk (found x old) → IsAnswerTo (found x old) stood
    which_answer ok = by which
      where
        by : (stood ≡ statuses.Ok) ⊎ (stood ≡ statuses.NoMemory) → IsAnswerTo (found x old) stood
        by (inl is) = subst (λ (s : Status). IsAnswerTo (found x old) s) (sym is) ok
        by (inr is) = subst (λ (s : Status). IsAnswerTo (found x old) s) (sym is) tt

    which_late : IsUntouchedAt stood old (disk_of first.disk)
    which_late = by which
      where
        by : (stood ≡ statuses.Ok) ⊎ (stood ≡ statuses.NoMemory) → IsUntouchedAt stood old (disk_of first.disk)
        by (inl is) = subst (λ (s : Status). IsUntouchedAt s old (disk_of first.disk)) (sym is) tt
        by (inr is) = subst (λ (s : Status). IsUntouchedAt s old (disk_of first.disk)) (sym is) tt

    which_full : (size adding : ℕ) → stood ≡ statuses.Full size adding → ⊥
    which_full size adding is = by which
      where
        by : (stood ≡ statuses.Ok) ⊎ (stood ≡ statuses.NoMemory) → ⊥
        by (inl ok) = let never : statuses.Ok ≡ statuses.Full size adding = sym ok ∙ is in cc
        by (inr out) = let never : statuses.NoMemory ≡ statuses.Full size adding = sym out ∙ is in cc

    which_up : stood ≢ statuses.DiskFault
    which_up is = by which
      where
        by : (stood ≡ statuses.Ok) ⊎ (stood ≡ statuses.NoMemory) → ⊥
        by (inl ok) = let never : statuses.Ok ≡ statuses.DiskFault = sym ok ∙ is in cc
        by (inr out) = let never : statuses.NoMemory ≡ statuses.DiskFault = sym out ∙ is in cc

    none_met : MeetsJournal x first_base [] old (disk_of first.disk) stood
    none_met = subst (λ (h : List Entry). MeetsJournal x first_base h old (disk_of first.disk) stood) opens.history
        (met disk_of x old first stood over_first kept never_down (λ is. absurd (which_up is)) first_whole (λ size adding is. absurd (which_full size adding is)) which_answer which_late (λ told. inl opens.history))

    none_keeps : KeepsJournal x first_base [] [] old (disk_of first.disk) stood
    none_keeps = subst (λ (h : List Entry). KeepsJournal x first_base h [] old (disk_of first.disk) stood) opens.history
        (subst (λ (h : List Entry). KeepsJournal x first_base first.history h old (disk_of first.disk) stood) unacked
        (keeps disk_of x old first stood over_first kept never_down (λ is. absurd (which_up is)) first_whole (λ size adding is. absurd (which_full size adding is)) which_answer which_late (λ told. inl opens.history)))

  which_tended : (stood : Status) → (stood ≡ statuses.Ok) ⊎ (stood ≡ statuses.NoMemory) → IsTendedAt stood
  which_tended stood (inl is) = subst IsTendedAt (sym is) tt
  which_tended stood (inr is) = subst IsTendedAt (sym is) tt

  which_opened : (stood : Status) → (stood ≡ statuses.Ok) ⊎ (stood ≡ statuses.NoMemory) → IsBeforeOpening stood → ⊥
  which_opened stood (inl is) early = subst IsBeforeOpening is early
  which_opened stood (inr is) early = subst IsBeforeOpening is early

  opened_shown : (last : View D) (handed : D) (before after : Option (List ℕ)) (status : Status) → IsKept (disk_of last.disk) last → ShowsState first last before after status → handed ≡ last.disk
      → IsTaskOf tasks.Show x before after old (disk_of handed) status
  opened_shown last handed before after status kept_last shown back = record {
    base = first_base;
    generation = 0;
    stood = shown.stood;
    comes = which_tended shown.stood shown.which;
    late = which_opened shown.stood shown.which;
    met = subst (λ (d : D). MeetsJournal x first_base [] old (disk_of d) shown.stood) (sym here) (none_met kept shown.stood shown.which);
    done = subst (λ (d : D). ShowsJournal x first_base old (disk_of d) shown.stood) (sym here)
        (record { keeps = none_keeps kept shown.stood shown.which; full = λ told is size adding full. absurd (which_full kept shown.stood shown.which size adding full) });
    output = subst (λ (s : State). IsWritten before after (task_text tasks.Show s 0 shown.stood) shown.stood status) unplayed shown.output;
  }
    where
      kept : IsKept (disk_of first.disk) first
      kept = subst (λ (v : View D). IsKept (disk_of v.disk) v) shown.same kept_last

      here : handed ≡ first.disk
      here = back ∙ ap (λ (v : View D). v.disk) shown.same

  opened_compacted : (last : View D) (handed : D) (before after : Option (List ℕ)) (status : Status) → IsKept (disk_of first.disk) first → IsKept (disk_of last.disk) last
      → CompactsState disk_of first last before after status → handed ≡ last.disk → IsTaskOf tasks.Compact x before after old (disk_of handed) status
  opened_compacted last handed before after status kept kept_last done back = by done.outcome done.compacts done.output
    where
      restart_is : (image : Sides) → restart first.setup.origin.initial first.setup.origin.deployment image ≡ restart x.start x.bytes image
      restart_is image = ap (λ (s : State). restart s first.setup.origin.deployment image) over_first.initial ∙ ap (λ (d : List ℕ). restart x.start d image) over_first.deployed

      -- a stop at any moment leaves the state
      opening : IsTrue (is_clean old) → LeavesOnly old (disk_of first.disk) (λ image. restart x.start x.bytes image ≡ Ok first_base)
      opening clean = leaves_what old (disk_of first.disk) _ _ (opens.any_moment clean) (λ image stands. stands.state ∙ ap (λ (s : State). Ok s) unplayed)

      compacting : (r : Result ℕ BeginFault) → CompactsRouter (disk_of first.disk) (disk_of last.disk) (held_in first) r (held_in last) → IsTrue old.told
          → LeavesOnly (disk_of first.disk) (disk_of last.disk) (λ image. restart x.start x.bytes image ≡ Ok first_base)
      compacting r c told = leaves_what (disk_of first.disk) (disk_of last.disk) _ _ (c.any_moment (over_first.told told)) (λ image stands. sym (restart_is image) ∙ stands.state ∙ ap (λ (s : State). Ok s) unplayed)

      settled_first : IsTrue old.told → found x old ≡ Ok first_base → IsSettled x first_base [] old (disk_of first.disk)
      settled_first told is = (none_keeps kept statuses.Ok (inl refl)).settled told is (record { good = tt; remembered = λ e. cc; sided = λ adding e. cc })

      -- where nothing was written but what opening writes
      same_disk : last.disk ≡ first.disk → IsTrue old.told → found x old ≡ Ok first_base → IsSettled x first_base [] old (disk_of last.disk)
      same_disk same told is = subst (λ (d : D). IsSettled x first_base [] old (disk_of d)) (sym same) (settled_first told is)

      -- what opening leaves
      left_first : IsTrue old.told → recovered x.bytes (disk_of first.disk).seen ≡ Ok (Some (left_on x old first_base))
      left_first told = (opens.left told).keeps ∙ ap (λ (s : State). Ok (Some (left_on x old s))) unplayed

      -- a restart of what is read behind a compaction
      again_from : (generation : ℕ) (c : IsCompactedRouter (disk_of first.disk) (disk_of last.disk) (held_in first) generation (held_in last)) → RestartsIn last.setup.origin last.history last.acked (disk_of last.disk).seen → found x (disk_of last.disk) ≡ Ok first_base
      again_from generation c r =
          let none : last.history ≡ [] = ap (λ (h : Held D). h.history) c.same ∙ opens.history in
          let part : r.part ≡ [] = whole_prefix r.part last.history r.front (omega (arith, ap length none)) ∙ none in
          let started : base_of last.setup.origin ≡ first_base = ap base_of c.origin ∙ unplayed in
          sym (ap (λ (o : Origin). restart o.initial o.deployment (disk_of last.disk).seen) c.origin ∙ restart_is (disk_of last.disk).seen)
          ∙ r.state ∙ ap (λ (h : List Entry). Ok (replay (base_of last.setup.origin) h)) part ∙ ap (λ (s : State). Ok s) started

      compacted_to : (generation : ℕ) (c : CompactsRouter (disk_of first.disk) (disk_of last.disk) (held_in first) (Ok generation) (held_in last)) → IsTrue old.told → IsCompacted x first_base generation old (disk_of last.disk)
      compacted_to generation c told =
          let told_last : IsTrue last.setup.origin.told = subst IsTrue (sym (ap (λ (o : Origin). o.told) c.ends.origin)) (c.told (over_first.told told)) in
          let up : is_down last.stop ≡ false = ap (λ (h : Held D). is_down h.stop) c.ends.same ∙ lifted_up first.stop ∙ first_up in
          let there = renewed_to first.setup.origin.deployment x.bytes over_first.deployed (state_of first) first_base unplayed (left_on x old first_base) generation (disk_of first.disk) (disk_of last.disk) last.setup.origin (left_first told) (c.ends.renews (over_first.told told)) in
          record {
            rest = kept_last.held.rest told_last up;
            kept = there.left.keeps;
            written = there.written;
            generation_is = there.number_is;
            again = again_from generation c.ends (kept_last.held.again told_last up);
            fits = ap_fits c.ends.fits;
          }
        where
          ap_fits : size_anew first.setup.origin.deployment (state_of first) ≤ first.setup.journal → size_anew x.bytes first_base ≤ journal_limit
          ap_fits fits = subst (λ (n : ℕ). size_anew x.bytes first_base ≤ n) opens.limited
              (subst (λ (s : State). size_anew x.bytes s ≤ first.setup.journal) unplayed (subst (λ (d : List ℕ). size_anew d (state_of first) ≤ first.setup.journal) over_first.deployed fits))

      failed_here : last.stop ≡ Some stops.DiskFault → last.setup.origin.faults ≡ first.setup.origin.faults → Rose old.faults (disk_of last.disk).faults
      failed_here stop_is faults_are =
          subst (λ (n : ℕ). Rose n (disk_of last.disk).faults) (faults_are ∙ over_first.faults)
          (subst (λ (s : Option Stop). IsStopOf last.setup.origin last.setup.journal last.history (disk_of last.disk) s) stop_is kept_last.held.cause)

      too_long : (size adding n m : ℕ) → statuses.Full size adding ≡ statuses.Full n m → IsFullAnew first.setup.journal first.setup.origin.deployment (state_of first) size adding → IsUnwritten x first_base n m
      too_long size adding n m is long =
          let size_is : size ≡ n = cc in
          let adding_is : adding ≡ m = cc in (
            sym size_is ∙ long.0,
            sym adding_is ∙ long.1 ∙ ap (λ (d : List ℕ). size_anew d (state_of first)) over_first.deployed ∙ ap (size_anew x.bytes) unplayed,
            subst (λ (k : ℕ). k < m) opens.limited (subst (λ (k : ℕ). first.setup.journal < k) adding_is long.2),
          )

      task : (stood : Status) (generation : ℕ) → IsTendedAt stood → (IsBeforeOpening stood → ⊥) → MeetsJournal x first_base [] old (disk_of last.disk) stood → CompactsJournal x first_base generation old (disk_of last.disk) stood
          → IsWritten before after (task_text tasks.Compact (state_of first) generation stood) stood status → IsTaskOf tasks.Compact x before after old (disk_of handed) status
      task stood generation comes late met journal out = record {
        base = first_base;
        generation = generation;
        stood = stood;
        comes = comes;
        late = late;
        met = subst (λ (d : D). MeetsJournal x first_base [] old (disk_of d) stood) (sym back) met;
        done = subst (λ (d : D). CompactsJournal x first_base generation old (disk_of d) stood) (sym back) journal;
        output = subst (λ (s : State). IsWritten before after (task_text tasks.Compact s generation stood) stood status) unplayed out;
      }

      met_as : (stood : Status) → (IsOk (found x old) → IsAnswerTo (found x old) stood) → IsUntouchedAt stood old (disk_of last.disk) → (stood ≡ statuses.DiskFault → Rose old.faults (disk_of last.disk).faults)
          → MeetsJournal x first_base [] old (disk_of last.disk) stood
      met_as stood answer untouched failed = record {
        opened = λ told. record {
          from = λ s is. one_state first_base s (found x old) (over_first.base told) is;
          none = λ wrong is. refl;
          answer = answer (subst IsOk (sym (over_first.base told)) refl);
        };
        untouched = untouched;
        alone = λ told wrong is. absurd (no_fault first_base wrong (found x old) (over_first.base told) is);
        failed = failed;
      }

      journal_as : (r : Result ℕ BeginFault) (c : CompactsRouter (disk_of first.disk) (disk_of last.disk) (held_in first) r (held_in last)) (stood : Status) (generation : ℕ)
          → (IsTrue old.told → stood ≡ statuses.Ok → IsCompacted x first_base generation old (disk_of last.disk))
          → (IsTrue old.told → found x old ≡ Ok first_base → stood ≢ statuses.Ok → stood ≢ statuses.DiskFault → IsSettled x first_base [] old (disk_of last.disk))
          → ((size adding : ℕ) → stood ≡ statuses.Full size adding → IsUnwritten x first_base size adding) → CompactsJournal x first_base generation old (disk_of last.disk) stood
      journal_as r c stood generation done kept_so full = record {
        moments = λ clean is image since. (leaves_then old (disk_of first.disk) (disk_of last.disk) _ (opening clean) (compacting r c (clean_told old clean))).each image since;
        now = λ told is. inl (λ image now. now_since (disk_of first.disk) (disk_of last.disk) _ (compacting r c told) image now);
        done = λ told is ok. done told ok;
        kept = λ told is other up. inl (kept_so told is other up);
        full = λ told is size adding is_full. full size adding is_full;
      }

      by : (r : Result ℕ BeginFault) → Compacts (disk_of first.disk) (disk_of last.disk) first r last
          → IsWritten before after (task_text tasks.Compact (state_of first) (generation_of r) (status_of_compacting r)) (status_of_compacting r) status → IsTaskOf tasks.Compact x before after old (disk_of handed) status
      by (Ok generation) c out =
          task statuses.Ok generation tt (λ early. early) (met_as statuses.Ok (λ ok. ok) tt (λ is. absurd (cc)))
          (journal_as (Ok generation) c.router statuses.Ok generation (λ told ok. compacted_to generation c.router told) (λ told is other up. absurd (other refl)) (λ size adding is. absurd (cc))) out
      by (Err (renewals.Full size adding)) c out =
          task (statuses.Full size adding) 0 tt (λ early. early) (met_as (statuses.Full size adding) (λ ok. ok) tt (λ is. absurd (cc)))
          (journal_as (Err (renewals.Full size adding)) c.router (statuses.Full size adding) 0 (λ told ok. absurd (cc)) (λ told is other up. same_disk (ap (λ (h : Held D). h.disk) c.router.ends.0) told is)
          (λ n m is. too_long size adding n m is c.router.ends.1)) out
      by (Err renewals.NoMemory) c out =
          task statuses.NoMemory 0 tt (λ early. early) (met_as statuses.NoMemory (λ ok. tt) tt (λ is. absurd (cc)))
          (journal_as (Err renewals.NoMemory) c.router statuses.NoMemory 0 (λ told ok. absurd (cc)) (λ told is other up. same_disk (ap (λ (h : Held D). h.disk) c.router.ends) told is) (λ size adding is. absurd (cc))) out
      by (Err renewals.DiskFault) c out =
          task statuses.DiskFault 0 tt (λ early. early)
          (met_as statuses.DiskFault (λ ok. tt) tt (λ is. failed_here (ap (λ (h : Held D). h.stop) c.router.ends.0) (ap (λ (h : Held D). h.origin.faults) c.router.ends.0)))
          (journal_as (Err renewals.DiskFault) c.router statuses.DiskFault 0 (λ told ok. absurd (cc)) (λ told is other up. absurd (up refl)) (λ size adding is. absurd (cc))) out

  pub opened_task : (task : Task) (last : View D) (handed : D) (before after : Option (List ℕ)) (status : Status) → IsKept (disk_of first.disk) first → IsKept (disk_of handed) last → handed ≡ last.disk
      → DoesTask disk_of task first last before after status → IsTaskOf task x before after old (disk_of handed) status
  opened_task tasks.Show last handed before after status kept kept_there back done = opened_shown last handed before after status (subst (λ (d : D). IsKept (disk_of d) last) back kept_there) done back
  opened_task tasks.Compact last handed before after status kept kept_there back done = opened_compacted last handed before after status kept (subst (λ (d : D). IsKept (disk_of d) last) back kept_there) done back

-- ---- sources were refused, or read

-- no document was understood
abbrev pub nowhere : Document
nowhere = record { bytes = []; start = initial (record { events = []; profiles = []; tables = []; blocks = []; services = [] }) [] }

early_done : (status : Status) → IsEarly status → status ≢ statuses.Ok
early_done status early is = subst IsEarly is early

early_spent : (status : Status) (n : ℕ) → IsEarly status → status ≢ statuses.StepsSpent n
early_spent status n early is = subst IsEarly is early

early_full : (status : Status) (size adding : ℕ) → IsEarly status → status ≢ statuses.Full size adding
early_full status size adding early is = subst IsEarly is early

early_unended : (status : Status) → IsEarly status → IsUnendedTime (row_of status).time
early_unended statuses.Ok early = early
early_unended statuses.BadWords early = tt
early_unended statuses.ReadFault early = tt
early_unended statuses.WriteFault early = early
early_unended statuses.DiskFault early = absurd early
early_unended (statuses.BadJournal side at kind) early = absurd early
early_unended (statuses.OtherDeployment kept_len place) early = absurd early
early_unended (statuses.Full size adding) early = absurd early
early_unended (statuses.StepsSpent entries) early = early
early_unended statuses.NoMemory early = tt
early_unended (statuses.BadDeploy fault) early = tt
early_unended (statuses.BadSignals line kind) early = tt
early_unended (statuses.TooLarge what) early = tt

-- what a refusal by the sources comes to
refusal_comes : {Good : Type 0} (o : Option Status) (status : Status) → IsRefusalBy o status → (status ≡ statuses.ReadFault → Good) → (status ≡ statuses.NoMemory → Good)
    → MatchOption o Good (λ refusal. (◌≡◌ {A = List Entry} [] []) × IsRefusedAs refusal status)
refusal_comes None status (inl is) read memory = read is
refusal_comes None status (inr (inl is)) read memory = memory is
refusal_comes None status (inr (inr is)) read memory = absurd (cc)
refusal_comes (Some refusal) status (inl is) read memory = (refl, inr (inl is))
refusal_comes (Some refusal) status (inr (inl is)) read memory = (refl, inr (inr is))
refusal_comes (Some refusal) status (inr (inr is)) read memory = (refl, inl (let same : refusal ≡ status = cc in sym same))

read_ends : (base : State) (steps : ℕ) (lines : List Signal) (status : Status) → status ≡ statuses.ReadFault → EndsOn base steps lines [] status
read_ends base steps lines status is = subst (EndsOn base steps lines []) (sym is) refl

memory_ends : (base : State) (steps : ℕ) (lines : List Signal) (status : Status) → status ≡ statuses.NoMemory → EndsOn base steps lines [] status
memory_ends base steps lines status is = subst (EndsOn base steps lines []) (sym is) (lines, refl)

early_by : (report : Report) (before after : Option (List ℕ)) (d : DiskState) (stood status : Status) → IsEarly stood → stood ≢ statuses.BadWords → IsWritten before after (status_line stood) stood status
    → IsPlayedBy nowhere report before after d d status (record { base = base_on nowhere d; generation = 0; history = []; acked = []; ended = stood; stood = stood; text = status_line stood })
early_by report before after d stood status early words out = record {
  legal = no_history (base_on nowhere d) stood;
  words = words;
  same = λ more. refl;
  unwritten = λ is. subst IsEarly is early;
  prints = inr (record { none = refl; unended = early_unended stood early; anew = λ size adding is. absurd (subst IsEarly is early); same = refl; alone = refl });
  met = untouched_met nowhere d stood early;
  keeps = untouched nowhere d stood early;
  bare = λ told adding is. absurd (subst IsEarly is early);
  output = out;
}

pub early_played : (mode : Mode) (steps : ℕ) (deploy signals before after : Option (List ℕ)) (d : DiskState) (stood status : Status) → IsEarly stood → stood ≢ statuses.BadWords
    → IfSome deploy (λ bytes. IfSome signals (λ text. IsRefusalBy (refusal_of bytes text) stood)) → IsWritten before after (status_line stood) stood status
    → IsPlayedFrom mode steps deploy signals before after d d status
early_played mode steps deploy signals before after d stood status early words refuses out = record {
  document = nowhere;
  run = record { base = base_on nowhere d; generation = 0; history = []; acked = []; ended = stood; stood = stood; text = status_line stood };
  given = inr (record { none = refl; early = early; same = alone_still d });
  played = early_by reports.Trace before after d stood status early words out;
  few = omega arith;
  comes = by deploy signals refuses;
  alone = by_one deploy signals;
}
  where
    by : (deploy signals : Option (List ℕ)) → IfSome deploy (λ bytes. IfSome signals (λ text. IsRefusalBy (refusal_of bytes text) stood))
        → IfSome deploy (λ bytes. IfSome signals (λ text. ComesOn (base_on nowhere d) mode steps bytes text [] stood))
    by None signals refuses = tt
    by (Some bytes) None refuses = tt
    by (Some bytes) (Some text) refuses =
        refusal_comes (refusal_of bytes text) stood refuses
        (read_ends (base_on nowhere d) steps (lines_of_run mode (base_on nowhere d) (lines_in text)) stood)
        (memory_ends (base_on nowhere d) steps (lines_of_run mode (base_on nowhere d) (lines_in text)) stood)

    by_one : (deploy signals : Option (List ℕ)) → IsByOneFrom (base_on nowhere d) mode steps deploy signals [] stood
    by_one None signals = tt
    by_one (Some bytes) None = tt
    by_one (Some bytes) (Some text) = λ none.
        alone_at_start (base_on nowhere d) steps (lines_of_run mode (base_on nowhere d) (lines_in text)) stood (early_done stood early) (λ n. early_spent stood n early)
        (λ size adding some. early_full stood size adding early)

pub document_given : (deploy : Option (List ℕ)) (d : Deployed) → IsDeployedFrom deploy d → IsDocument deploy (document_of d)
document_given deploy d from = record { deployment = d.checked; given = from.given; start = refl; told = from.told }

pub inputs_played : (mode : Mode) (steps : ℕ) (deploy signals before after : Option (List ℕ)) (old new : DiskState) (status : Status) (i : Inputs) → AreInputsFrom deploy signals i
    → IsPlayedOn (document_of i.deployed) mode steps reports.Trace i.lines before after old new status → IsPlayedFrom mode steps deploy signals before after old new status
inputs_played mode steps deploy signals before after old new status i from p = record {
  document = document_of i.deployed;
  run = p.run;
  given = inl (document_given deploy i.deployed from.deployed);
  played = p.played;
  few = p.play.few;
  comes = by deploy signals from.lines from.accepted;
  alone = by_one deploy signals from.lines;
}
  where
    lines_are : (text : List ℕ) → signals_of text ≡ Ok i.lines → i.lines ≡ lines_in text
    lines_are text is = sym (ap lines_read is)

    by : (deploy signals : Option (List ℕ)) → IfSome signals (λ text. signals_of text ≡ Ok i.lines) → IfSome deploy (λ bytes. IfSome signals (λ text. refusal_of bytes text ≡ None))
        → IfSome deploy (λ bytes. IfSome signals (λ text. ComesOn p.run.base mode steps bytes text p.run.history p.run.ended))
    by None signals lines none = tt
    by (Some bytes) None lines none = tt
    by (Some bytes) (Some text) lines none =
        rw none (subst (λ (l : List Signal). EndsOn p.run.base steps (lines_of_run mode p.run.base l) p.run.history p.run.ended) (lines_are text lines) p.play.ends)

    by_one : (deploy signals : Option (List ℕ)) → IfSome signals (λ text. signals_of text ≡ Ok i.lines) → IsByOneFrom p.run.base mode steps deploy signals p.run.history p.run.ended
    by_one None signals lines = tt
    by_one (Some bytes) None lines = tt
    by_one (Some bytes) (Some text) lines = λ none.
        subst (λ (l : List Signal). IsByOne p.run.base steps (lines_of_run mode p.run.base l) p.run.history p.run.ended) (lines_are text lines) p.play.alone

-- ---- what was shown, generated or tried, by what a source told

barred_memory : (bytes : List ℕ) (status : Status) → status ≡ statuses.NoMemory → IsBarred bytes status
barred_memory bytes status is = subst (IsBarred bytes) (sym is) tt

barred_read : (bytes : List ℕ) (status : Status) → status ≡ statuses.ReadFault → IsBarred bytes status
barred_read bytes status is = subst (IsBarred bytes) (sym is) tt

pub barred_late : (told : Option (List ℕ)) (status : Status) → (IsBeforeOpening status → ⊥) → IfSome told (λ bytes. IsBarred bytes status)
barred_late None status late = tt
barred_late (Some bytes) statuses.Ok late = tt
barred_late (Some bytes) statuses.BadWords late = tt
barred_late (Some bytes) statuses.ReadFault late = tt
barred_late (Some bytes) (statuses.BadDeploy fault) late = absurd (late tt)
barred_late (Some bytes) (statuses.BadSignals line kind) late = tt
barred_late (Some bytes) statuses.WriteFault late = tt
barred_late (Some bytes) statuses.DiskFault late = tt
barred_late (Some bytes) (statuses.BadJournal side at kind) late = tt
barred_late (Some bytes) (statuses.OtherDeployment kept_len place) late = tt
barred_late (Some bytes) (statuses.Full size adding) late = tt
barred_late (Some bytes) (statuses.StepsSpent entries) late = tt
barred_late (Some bytes) statuses.NoMemory late = tt
barred_late (Some bytes) (statuses.TooLarge what) late = absurd (late tt)

tended_checked : (status : Status) → IsCheckedAt status → status ≢ statuses.Ok → IsTendedAt status
tended_checked statuses.Ok comes fine = tt
tended_checked statuses.BadWords comes fine = absurd comes
tended_checked statuses.ReadFault comes fine = tt
tended_checked statuses.WriteFault comes fine = absurd comes
tended_checked statuses.DiskFault comes fine = absurd comes
tended_checked (statuses.BadJournal side at kind) comes fine = absurd comes
tended_checked (statuses.OtherDeployment kept_len place) comes fine = absurd comes
tended_checked (statuses.Full size adding) comes fine = absurd comes
tended_checked (statuses.StepsSpent entries) comes fine = absurd comes
tended_checked statuses.NoMemory comes fine = tt
tended_checked (statuses.BadDeploy fault) comes fine = tt
tended_checked (statuses.BadSignals line kind) comes fine = absurd comes
tended_checked (statuses.TooLarge what) comes fine = comes

task_alone : (task : Task) (base : State) (generation : ℕ) (status : Status) → status ≢ statuses.Ok → status_line status ≡ task_text task base generation status
task_alone task base generation statuses.Ok fine = absurd (fine refl)
task_alone task base generation statuses.BadWords fine = refl
task_alone task base generation statuses.ReadFault fine = refl
task_alone task base generation statuses.WriteFault fine = refl
task_alone task base generation statuses.DiskFault fine = refl
task_alone task base generation (statuses.BadJournal side at kind) fine = refl
task_alone task base generation (statuses.OtherDeployment kept_len place) fine = refl
task_alone task base generation (statuses.Full size adding) fine = refl
task_alone task base generation (statuses.StepsSpent entries) fine = refl
task_alone task base generation statuses.NoMemory fine = refl
task_alone task base generation (statuses.BadDeploy fault) fine = refl
task_alone task base generation (statuses.BadSignals line kind) fine = refl
task_alone task base generation (statuses.TooLarge what) fine = refl

early_done_on : (task : Task) (d : DiskState) (stood : Status) (generation : ℕ) → IsEarly stood → DoneOn task nowhere (base_on nowhere d) generation d d stood
early_done_on tasks.Show d stood generation early = untouched_shows nowhere d stood early
early_done_on tasks.Compact d stood generation early = untouched_compacts nowhere d stood early (early_done stood early) generation

pub early_task : (task : Task) (deploy before after : Option (List ℕ)) (d : DiskState) (stood status : Status) → IsEarly stood → IsCheckedAt stood
    → IfSome deploy (λ bytes. IsBarred bytes stood) → IsWritten before after (status_line stood) stood status → IsTaskBy task deploy before after d d status
early_task task deploy before after d stood status early comes barred out = record {
  document = nowhere;
  base = base_on nowhere d;
  generation = 0;
  stood = stood;
  given = inr (record { none = refl; early = early; same = alone_still d });
  comes = tended_checked stood comes (early_done stood early);
  barred = barred;
  met = untouched_met nowhere d stood early;
  done = early_done_on task d stood 0 early;
  output = written_as before after (status_line stood) (task_text task (base_on nowhere d) 0 stood) stood status (task_alone task (base_on nowhere d) 0 stood (early_done stood early)) out;
}

pub kept_task : (task : Task) (deploy before after : Option (List ℕ)) (old new : DiskState) (status : Status) (d : Deployed) → IsDeployedFrom deploy d
    → IsTaskOf task (document_of d) before after old new status → IsTaskBy task deploy before after old new status
kept_task task deploy before after old new status d from t = record {
  document = document_of d;
  base = t.base;
  generation = t.generation;
  stood = t.stood;
  given = inl (document_given deploy d from);
  comes = t.comes;
  barred = barred_late deploy t.stood t.late;
  met = t.met;
  done = t.done;
  output = t.output;
}

trial_unread : (base : State) (seed count : ℕ) (bytes : List ℕ) (status : Status) → IsUnread status → IsTrialOrNone base seed count bytes [] status
trial_unread base seed count bytes status is = inr (refl, is)

pub early_tried : (seed count : ℕ) (deploy before after : Option (List ℕ)) (d : DiskState) (stood status : Status) → IsEarly stood → stood ≢ statuses.BadWords
    → IfSome deploy (λ bytes. IsRefusalBy (refusal_of_deploy bytes) stood) → IsWritten before after (status_line stood) stood status → IsTriedBy seed count deploy before after d d status
early_tried seed count deploy before after d stood status early words refuses out = record {
  document = nowhere;
  run = record { base = base_on nowhere d; generation = 0; history = []; acked = []; ended = stood; stood = stood; text = status_line stood };
  given = inr (record { none = refl; early = early; same = alone_still d });
  played = early_by reports.Summary before after d stood status early words out;
  few = omega arith;
  comes = by deploy refuses;
}
  where
    by : (deploy : Option (List ℕ)) → IfSome deploy (λ bytes. IsRefusalBy (refusal_of_deploy bytes) stood)
        → IfSome deploy (λ bytes. MatchOption (refusal_of_deploy bytes) (IsTrialOrNone (base_on nowhere d) seed count bytes [] stood) (λ refusal. (◌≡◌ {A = List Entry} [] []) × IsRefusedAs refusal stood))
    by None refuses = tt
    by (Some bytes) refuses =
        refusal_comes (refusal_of_deploy bytes) stood refuses
        (λ is. trial_unread (base_on nowhere d) seed count bytes stood (inl is)) (λ is. trial_unread (base_on nowhere d) seed count bytes stood (inr is))

pub lines_tried : (seed count : ℕ) (deploy before after : Option (List ℕ)) (old new : DiskState) (status : Status) (i : Inputs) → IsDeployedFrom deploy i.deployed
    → i.lines ≡ generated seed count (deployed_of i.deployed.checked.parts)
    → IsPlayedOn (document_of i.deployed) modes.AllNew trial_steps reports.Summary i.lines before after old new status → IsTriedBy seed count deploy before after old new status
lines_tried seed count deploy before after old new status i from lines p = record {
  document = document_of i.deployed;
  run = p.run;
  given = inl (document_given deploy i.deployed from);
  played = p.played;
  few = p.play.few;
  comes = by deploy from.told;
}
  where
    trial : (bytes : List ℕ) → i.deployed.bytes ≡ bytes → IsTrialOn p.run.base seed count bytes p.run.history p.run.ended
    trial bytes same = record {
      deployment = i.deployed.checked;
      given = subst (λ (b : List ℕ). IsDeployment b i.deployed.checked) same from.given;
      ends = subst (λ (l : List Signal). EndsOn p.run.base trial_steps l p.run.history p.run.ended) lines p.play.ends;
      alone = subst (λ (l : List Signal). IsByOne p.run.base trial_steps l p.run.history p.run.ended) lines p.play.alone;
    }

    accepted : (bytes : List ℕ) → i.deployed.bytes ≡ bytes → refusal_of_deploy bytes ≡ None
    accepted bytes same = subst (λ (b : List ℕ). refusal_of_deploy b ≡ None) same (good_deploy i.deployed.bytes i.deployed.checked from.given)

    by : (deploy : Option (List ℕ)) → IfSome deploy (λ bytes. i.deployed.bytes ≡ bytes)
        → IfSome deploy (λ bytes. MatchOption (refusal_of_deploy bytes) (IsTrialOrNone p.run.base seed count bytes p.run.history p.run.ended) (λ refusal. (p.run.history ≡ []) × IsRefusedAs refusal p.run.ended))
    by None same = tt
    by (Some bytes) same = rw (accepted bytes same) (inl (trial bytes same))

-- ---- generated lines

pub early_generated : (seed count : ℕ) (deploy before after : Option (List ℕ)) (stood status : Status) → IsEarly stood → IsCheckedAt stood
    → IfSome deploy (λ bytes. IsBarred bytes stood) → IsWritten before after (status_line stood) stood status → IsGeneratedBy seed count deploy before after status
early_generated seed count deploy before after stood status early comes barred out = record {
  text = status_line stood;
  stood = stood;
  lines = record { comes = comes; none = refl; prints = prints stood early barred };
  output = out;
}
  where
    prints : (s : Status) → IsEarly s → IfSome deploy (λ bytes. IsBarred bytes s) → IsLinesFor seed count deploy (status_line s) s
    prints statuses.Ok early barred = absurd early
    prints statuses.BadWords early barred = (refl, barred)
    prints statuses.ReadFault early barred = (refl, barred)
    prints statuses.WriteFault early barred = (refl, barred)
    prints statuses.DiskFault early barred = (refl, barred)
    prints (statuses.BadJournal side at kind) early barred = (refl, barred)
    prints (statuses.OtherDeployment kept_len place) early barred = (refl, barred)
    prints (statuses.Full size adding) early barred = (refl, barred)
    prints (statuses.StepsSpent entries) early barred = (refl, barred)
    prints statuses.NoMemory early barred = (refl, barred)
    prints (statuses.BadDeploy fault) early barred = (refl, barred)
    prints (statuses.BadSignals line kind) early barred = (refl, barred)
    prints (statuses.TooLarge what) early barred = (refl, barred)

pub lines_generated : (seed count : ℕ) (deploy before after : Option (List ℕ)) (status : Status) (i : Inputs) → IsDeployedFrom deploy i.deployed
    → i.lines ≡ generated seed count (deployed_of i.deployed.checked.parts) → IsLinesOut i.lines before after status → IsGeneratedBy seed count deploy before after status
lines_generated seed count deploy before after status i from lines out = record {
  text = out.text;
  stood = out.stood;
  lines = record { comes = comes out.stood out.which; none = refl; prints = prints out.stood out.which };
  output = out.output;
}
  where
    comes : (stood : Status) → ((stood ≡ statuses.Ok) × (out.text ≡ lines_text i.lines)) ⊎ ((stood ≡ statuses.NoMemory) × (out.text ≡ status_line statuses.NoMemory)) → IsCheckedAt stood
    comes stood (inl is) = subst IsCheckedAt (sym is.0) tt
    comes stood (inr is) = subst IsCheckedAt (sym is.0) tt

    given : (deploy : Option (List ℕ)) → IfSome deploy (λ bytes. i.deployed.bytes ≡ bytes) → IfSome deploy (λ bytes. IsDeployment bytes i.deployed.checked)
    given None same = tt
    given (Some bytes) same = subst (λ (b : List ℕ). IsDeployment b i.deployed.checked) same from.given

    nothing : (deploy : Option (List ℕ)) → IfSome deploy (λ bytes. IsBarred bytes statuses.NoMemory)
    nothing None = tt
    nothing (Some bytes) = tt

    prints : (stood : Status) → ((stood ≡ statuses.Ok) × (out.text ≡ lines_text i.lines)) ⊎ ((stood ≡ statuses.NoMemory) × (out.text ≡ status_line statuses.NoMemory)) → IsLinesFor seed count deploy out.text stood
    prints stood (inl is) = subst (IsLinesFor seed count deploy out.text) (sym is.0) (i.deployed.checked, is.1 ∙ ap lines_text lines, given deploy from.told)
    prints stood (inr is) = subst (IsLinesFor seed count deploy out.text) (sym is.0) (is.1, nothing deploy)

-- words that were understood aren't bad
pub early_words : (status : Status) → IsCheckedAt status → status ≢ statuses.BadWords
early_words status comes is = subst IsCheckedAt is comes

-- ---- what follows of a run's answer

-- a run that tells of the disk's fault had one
pub played_failed : (x : Document) (mode : Mode) (steps : ℕ) (report : Report) (lines : List Signal) (before after : Option (List ℕ)) (old new : DiskState) (status : Status)
    → IsPlayedOn x mode steps report lines before after old new status → status ≡ statuses.DiskFault → Rose old.faults new.faults
played_failed x mode steps report lines before after old new status p is = p.played.met.failed (sym (p.played.same found) ∙ stood)
  where
    stood : p.run.stood ≡ statuses.DiskFault
    stood = (p.played.output.whole (λ e. cc)).0 ∙ is

    found : p.run.stood ≢ statuses.NoMemory
    found e = let never : statuses.DiskFault ≡ statuses.NoMemory = sym stood ∙ e in cc

pub task_failed : (task : Task) (x : Document) (before after : Option (List ℕ)) (old new : DiskState) (status : Status) → IsTaskOf task x before after old new status → status ≡ statuses.DiskFault → Rose old.faults new.faults
task_failed task x before after old new status t is = t.met.failed ((t.output.whole (λ e. cc)).0 ∙ is)

pub task_late : (task : Task) (x : Document) (before after : Option (List ℕ)) (old new : DiskState) (status : Status) → IsTaskOf task x before after old new status → IsBeforeOpening status → ⊥
task_late task x before after old new status t early = late_written before after (task_text task t.base t.generation t.stood) t.stood status t.output t.late early

pub late_end : (entries : ℕ) (e : End) (stood status : Status) → stood ≡ status_after entries e → (status ≢ statuses.WriteFault → status ≢ statuses.NoMemory → status ≡ stood) → IsBeforeOpening status → ⊥
late_end entries e stood status is same early = late_told stood status same (λ before. end_opened entries e (subst IsBeforeOpening is before)) early
