-- How a run of several workers ends, as a status, and what it is then.
use Rattle.std.proofs.Common.{◌≡◌, ◌⊎◌, inl, inr, ℕ, ◌+◌, ◌<◌, ◌≤◌, ◌==◌, Bool, true, false, is_some, IsTrue, IsOk, IfSome, List, [], ◌∷◌, ◌++◌, length, take, drop, append-nil, refl, sym, ◌∙◌, ap, subst, arith, Option, Some, None, Ok}
use Rattle.std.proofs.lemmas.Bool.{and_parts, cases_Bool, eqb-true}
use Rattle.std.specs.List.{list_all, list_any}
use Rattle.deploy_model.specs.Deployed.{Deployed}
use Rattle.signal_script.specs.Signals.{is_signal, signals_of}
use Rattle.signal_script.specs.declared.signal.Signal.{Signal}
use Rattle.slee_disk.specs.Disk.{DiskState}
use Rattle.trace_history.specs.Histories.{inputs_of}
use Rattle.trace_history.specs.declared.choice.Choice.{Choice}
use Rattle.trace_history.specs.declared.choice.Choice.TheVariants as choices
use Rattle.router_laws_kept.proofs.Keeping.{kept_replay}
use Rattle.router_state.specs.Contexts.{activity_at}
use Rattle.router_state.specs.Queues.{head_event, is_suspended}
use Rattle.router_state.specs.State.{State}
use Rattle.router_state.specs.Well.{IsWell}
use Rattle.router_state.specs.WellQueues.{is_event_row}
use Rattle.router_state.specs.declared.kindred.Kindred.{Kindred}
use Rattle.router_state.specs.declared.rows.Activity.{Activity}
use Rattle.router_state.specs.declared.rows.Event.{Event}
use Rattle.router_state.specs.declared.rows.Queued.{Queued}
use Rattle.router_steps.specs.Steps.{is_delivery, is_finish, is_initial, is_next, is_next_by}
use Rattle.router_durable.specs.Core.{is_down}
use Rattle.router_durable.specs.Facts.{base_of, size_after}
use Rattle.router_durable.specs.Opening.{Opens}
use Rattle.router_durable.specs.declared.fault.Stop.{Stop}
use Rattle.router_durable.specs.declared.fault.Stop.TheVariants as stops
use Rattle.slee_container.specs.Container.{IsKept, View, held_in, state_of}
use Rattle.slee_container.specs.Opening.{Starts}
use Rattle.slee_container.specs.Turns.{AreOfRun, setup_told}
use Rattle.slee_container.specs.declared.container.Mode.{Mode}
use Rattle.slee_run.specs.Given.{Document, lines_read, refusal_of}
use Rattle.slee_run.specs.Headline.{ComesOn, EndsOn, has_activity, is_there, lines_of_run}
use Rattle.slee_run.specs.Opening.{IsAnswerTo, IsUntouchedAt, found, journal_limit}
use Rattle.slee_run.specs.Stops.{KeepsJournal, MeetsJournal}
use Rattle.slee_run.specs.Answers.{AreInputsFrom, IsFinished, IsPlayedFrom, IsPlayedOn, document_of, limits_of}
use Rattle.slee_run.specs.Playing.{left, status_after}
use Rattle.slee_run.specs.Many.{IsDownAt, IsPlayedByMany, IsPlayedTogether, StandsAt}
use Rattle.slee_run.specs.declared.finishing.Report.TheVariants as reports
use Rattle.slee_run.specs.declared.playing.End.{End}
use Rattle.slee_run.specs.declared.playing.End.TheVariants as ends
use Rattle.slee_run.specs.declared.reading.Inputs.{Inputs}
use Rattle.slee_run.specs.declared.status.Status.{Status}
use Rattle.slee_run.specs.declared.status.Status.TheVariants as statuses
use Rattle.slee_run.proofs.AnswerLemmas.{document_given, end_unwritten, end_words, lines_left, stood_same, stood_unwritten}
use Rattle.slee_run.proofs.EndLemmas.{idle_of, spent_on}
use Rattle.slee_run.proofs.JournalLemmas.{GoesOver, end_answer, end_late, goes_over, history_kept, keeps, met, no_size, stop_size}
use Rattle.slee_run.proofs.SharedLemmas.{lines, over, rest_of, same_limit, same_run_lines, same_steps}

-- ---- the activity of what is next is there

waits_there : (d : Deployed) (rows : List Activity) (na nt ne : ℕ) (events : List Queued) (a : ℕ) → list_all (is_event_row d rows na nt ne) events ≡ true
    → is_some (head_event events a) ≡ true → is_some (activity_at rows a) ≡ true
waits_there d rows na nt ne [] a all some = absurd (cc)
waits_there d rows na nt ne (q ∷ qs) a all some =
    let row = and_parts (is_event_row d rows na nt ne q) (list_all (is_event_row d rows na nt ne) qs) all in
    elim (cases_Bool (q.activity.0 == a)) [
      | inl here ↦ subst (λ (n : ℕ). is_some (activity_at rows n) ≡ true) (eqb-true q.activity.0 a here) (and_parts _ _ (and_parts _ _ row.0).1).0
      | inr later ↦ waits_there d rows na nt ne qs a row.1 (rw later at some)
    ]

any_at : (rows : List Activity) (a : ℕ) → is_some (activity_at rows a) ≡ true → list_any (λ (row : Activity). row.number.0 == a) rows ≡ true
any_at [] a some = absurd (cc)
any_at (row ∷ rows) a some = elim (cases_Bool (row.number.0 == a)) [
  | inl here ↦ rw here refl
  | inr later ↦ rw later (any_at rows a (rw later at some))
]

no_head : (test : Kindred → Bool) (s : State) (a : ℕ) → head_event s.events a ≡ None → is_next_by test s a ≡ false
no_head test s a none = elim (cases_Bool (is_suspended s.suspensions a)) [
  | inl waits ↦ rw waits refl
  | inr on ↦ rw (on, none) refl
]

has_head : (test : Kindred → Bool) (s : State) (a : ℕ) → is_next_by test s a ≡ true → is_some (head_event s.events a) ≡ true
has_head test s a is = by (head_event s.events a) refl
  where
    by : (found : Option Event) → head_event s.events a ≡ found → is_some (head_event s.events a) ≡ true
    by (Some v) e = rw e refl
    by None e = absurd (let never : true ≡ false = sym is ∙ no_head test s a e in cc)

activity_there : (test : Kindred → Bool) (s : State) (a : ℕ) → IsWell s → is_next_by test s a ≡ true → has_activity s a ≡ true
activity_there test s a well is =
    let rows = (and_parts _ _ (and_parts _ _ (and_parts _ _ well.sound.events).1).1).0 in
    any_at s.activities a (waits_there s.deployment s.activities s.next_activity s.next_timer s.next_event s.events a rows (has_head test s a is))

choice_there : (s : State) (c : Choice) → IsWell s → is_next s c ≡ true → is_there s c ≡ true
choice_there s (choices.Input signal) well is = refl
choice_there s (choices.Initial a) well is = activity_there is_initial s a.0 well is
choice_there s (choices.Deliver a) well is = activity_there is_delivery s a.0 well is
choice_there s (choices.Finish a) well is = activity_there is_finish s a.0 well is

-- ---- how it ends

module _ {D : Type 0} (v : View D) (all : List Signal) (run : AreOfRun v.setup v.history v.taken v.stop) (limited : v.setup.journal ≡ journal_limit) (well : IsWell (state_of v)) (taken : inputs_of v.history ++ left v ≡ all) where
  pub ends_together : (e : End) (entries : ℕ) → entries ≡ length v.history → StandsAt v e → EndsOn (base_of v.setup.origin) v.setup.steps all v.history (status_after entries e)
  ends_together ends.Done entries count stands = record {
    taken = sym (append-nil (inputs_of v.history)) ∙ (ap (λ (l : List Signal). inputs_of v.history ++ l) (sym stands.0) ∙ taken);
    idle = idle_of (state_of v) stands.1 stands.2;
    fresh = stands.2;
  }
  ends_together ends.Spent entries count stands = (count, record { taken = (left v, taken); spent = spent_on (state_of v) v.setup.steps v.history (left v) stands })
  ends_together (ends.Full size adding) entries count stands =
      let is = run.full size adding stands in
      inl record {
        taken = (left v, taken);
        fewer = is.fewer;
        choice = is.choice;
        may = record { enabled = is.full.enabled; there = choice_there (state_of v) is.choice well (and_parts _ _ is.full.enabled).1; next = is.next };
        adds = is.full.adds;
        above = subst (λ (n : ℕ). n < size + adding) limited is.full.above;
      }
  ends_together ends.DiskFault entries count stands = (left v, taken)
  ends_together ends.NoMemory entries count stands = (left v, taken)

never_down : (b : Bool) → b ≡ false → b ≡ true → ⊥
never_down b up fell = let never : true ≡ false = sym fell ∙ up in cc

down_ended : (stop : Option Stop) (entries : ℕ) (e : End) → IsDownAt stop e → is_down stop ≡ true → status_after entries e ≡ statuses.DiskFault
down_ended stop entries ends.Done at fell = absurd (never_down (is_down stop) at fell)
down_ended stop entries ends.Spent at fell = absurd (never_down (is_down stop) at fell)
down_ended stop entries (ends.Full size adding) at fell = absurd (never_down (is_down stop) at fell)
down_ended stop entries ends.DiskFault at fell = refl
down_ended stop entries ends.NoMemory at fell = absurd (never_down (is_down stop) at fell)

fell_ended : (stop : Option Stop) (entries : ℕ) (e : End) → IsDownAt stop e → status_after entries e ≡ statuses.DiskFault → stop ≡ Some stops.DiskFault
fell_ended stop entries ends.Done at is = absurd (cc)
fell_ended stop entries ends.Spent at is = absurd (cc)
fell_ended stop entries (ends.Full size adding) at is = absurd (cc)
fell_ended stop entries ends.DiskFault at is = at
fell_ended stop entries ends.NoMemory at is = absurd (cc)

full_ended : {D : Type 0} (v : View D) (entries : ℕ) (e : End) → StandsAt v e → (size adding : ℕ) → status_after entries e ≡ statuses.Full size adding → v.stop ≡ Some (stops.Full size adding)
full_ended v entries ends.Done stands size adding is = absurd (cc)
full_ended v entries ends.Spent stands size adding is = absurd (cc)
full_ended v entries (ends.Full n m) stands size adding is =
    let one : n ≡ size = cc in
    let two : m ≡ adding = cc in
    stands ∙ (ap (λ (k : ℕ). Some (stops.Full k m)) one ∙ ap (λ (k : ℕ). Some (stops.Full size k)) two)
full_ended v entries ends.DiskFault stands size adding is = absurd (cc)
full_ended v entries ends.NoMemory stands size adding is = absurd (cc)

-- ---- what was played

module _ {D : Type 0} (disk_of : D → DiskState) (x : Document) (old : DiskState) (first : View D) (mode : Mode) (steps : ℕ) (all : List Signal)
    (starts : Starts old (disk_of first.disk) x.start x.bytes all mode (limits_of steps) first) (kept_first : IsKept (disk_of first.disk) first)
    (run_first : AreOfRun first.setup first.history first.taken first.stop) (valid_first : IsTrue (list_all is_signal first.setup.lines)) (some : 0 < steps) where
  pub opened_together : (last : View D) (handed : D) (e : End) (entries : ℕ) (before after : Option (List ℕ)) (at status : Status)
      → IsKept (disk_of handed) last → handed ≡ last.disk → setup_told last.setup ≡ setup_told first.setup → AreOfRun last.setup last.history last.taken last.stop → IsTrue (list_all is_signal last.setup.lines)
      → IsDownAt last.stop e → StandsAt last e → (is_down last.stop ≡ false → last.acked ≡ length last.history)
      → entries ≡ length last.history → at ≡ status_after entries e → IsFinished reports.Trace (take last.acked last.history) at before after status
      → IsPlayedTogether x mode steps all before after old (disk_of handed) status
  opened_together last handed e entries before after at status kept_there back told run valid down_at stands whole count at_is out = record {
    run = record { base = base_of last.setup.origin; generation = 0; history = last.history; acked = take last.acked last.history; ended = status_after entries e; stood = done.stood; text = done.text };
    played = record {
      legal = history_kept disk_of x old last (status_after entries e) passes kept down fell whole full answer late room;
      words = end_words entries e;
      same = stood_same reports.Trace (take last.acked last.history) (status_after entries e) done.stood done.text done.reported.prints;
      unwritten = stood_unwritten reports.Trace (take last.acked last.history) (status_after entries e) done.stood done.text done.reported.prints (end_unwritten entries e);
      prints = inl done.reported;
      met = subst (λ (d : D). MeetsJournal x (base_of last.setup.origin) last.history old (disk_of d) (status_after entries e)) (sym back)
          (met disk_of x old last (status_after entries e) passes kept down fell whole full answer late room);
      keeps = subst (λ (d : D). KeepsJournal x (base_of last.setup.origin) last.history (take last.acked last.history) old (disk_of d) (status_after entries e)) (sym back)
          (keeps disk_of x old last (status_after entries e) passes kept down fell whole full answer late room);
      bare = λ is adding full_is. absurd (no_size x old (base_of last.setup.origin) last.history
          (stop_size disk_of x old last (status_after entries e) passes kept down fell whole full answer late room is 0 adding (full 0 adding full_is)));
      output = done.output;
    };
    few = subst (λ (n : ℕ). length last.history ≤ n) stepped run.few;
    ends = subst (λ (n : ℕ). EndsOn (base_of last.setup.origin) n (lines_of_run mode (base_of last.setup.origin) all) last.history (status_after entries e)) stepped
        (ends_together last (lines_of_run mode (base_of last.setup.origin) all) run limited well taken e entries count stands);
  }
    where
      opens : Opens old (disk_of first.disk) x.start x.bytes journal_limit (held_in first)
      opens = starts.opened

      done : IsFinished reports.Trace (take last.acked last.history) (status_after entries e) before after status
      done = subst (λ (s : Status). IsFinished reports.Trace (take last.acked last.history) s before after status) at_is out

      kept : IsKept (disk_of last.disk) last
      kept = subst (λ (d : D). IsKept (disk_of d) last) back kept_there

      stepped : last.setup.steps ≡ steps
      stepped = same_steps (disk_of first.disk) (disk_of last.disk) first last told kept_first.held kept.held run_first run ∙ starts.steps

      limited : last.setup.journal ≡ journal_limit
      limited = same_limit (disk_of first.disk) (disk_of last.disk) first last told kept_first.held kept.held run_first run ∙ opens.limited

      passes : GoesOver x old last.setup.origin
      passes = over (disk_of first.disk) (disk_of last.disk) first last told kept_first.held kept.held run_first run x old (goes_over x old (disk_of first.disk) first first opens refl) (omega (arith, some, starts.steps))

      down : is_down last.stop ≡ true → status_after entries e ≡ statuses.DiskFault
      down fallen = down_ended last.stop entries e down_at fallen

      fell : status_after entries e ≡ statuses.DiskFault → last.stop ≡ Some stops.DiskFault
      fell is = fell_ended last.stop entries e down_at is

      full : (size adding : ℕ) → status_after entries e ≡ statuses.Full size adding → last.stop ≡ Some (stops.Full size adding)
      full size adding is = full_ended last entries e stands size adding is

      answer : IsOk (found x old) → IsAnswerTo (found x old) (status_after entries e)
      answer ok = end_answer (found x old) entries e ok

      late : IsUntouchedAt (status_after entries e) old (disk_of last.disk)
      late = end_late old (disk_of last.disk) entries e

      room : IsTrue last.setup.origin.told → (last.history ≡ []) ⊎ (size_after last.setup.origin last.history ≤ journal_limit)
      room is = subst (λ (n : ℕ). (last.history ≡ []) ⊎ (size_after last.setup.origin last.history ≤ n)) limited (run.room is)

      well : IsWell (state_of last)
      well = (kept_replay (base_of last.setup.origin) last.history kept.held.keepable kept.held.legal).well

      behind : drop last.setup.skipped last.setup.lines ≡ lines_of_run mode (base_of last.setup.origin) all
      behind =
          lines (disk_of first.disk) (disk_of last.disk) first last told kept_first.held kept.held run_first run valid_first valid
          ∙ (ap (λ (n : ℕ). drop n first.setup.lines) (sym starts.taken)
          ∙ (lines_left disk_of x old first mode steps all starts ∙ same_run_lines (disk_of first.disk) (disk_of last.disk) first last told kept_first.held kept.held run_first run mode all))

      taken : inputs_of last.history ++ left last ≡ lines_of_run mode (base_of last.setup.origin) all
      taken = rest_of last.setup.lines (inputs_of last.history) last.setup.skipped last.taken kept.lines.inputs ∙ behind

-- opening was refused
pub together_of : (x : Document) (mode : Mode) (steps : ℕ) (all : List Signal) (before after : Option (List ℕ)) (old new : DiskState) (status : Status)
    → IsPlayedOn x mode steps reports.Trace all before after old new status → IsPlayedTogether x mode steps all before after old new status
together_of x mode steps all before after old new status p = record { run = p.run; played = p.played; few = p.play.few; ends = p.play.ends }

-- what two sources gave was played
pub inputs_together : (mode : Mode) (steps : ℕ) (deploy signals before after : Option (List ℕ)) (old new : DiskState) (status : Status) (i : Inputs) → AreInputsFrom deploy signals i
    → IsPlayedTogether (document_of i.deployed) mode steps i.lines before after old new status → IsPlayedByMany mode steps deploy signals before after old new status
inputs_together mode steps deploy signals before after old new status i from p = record {
  document = document_of i.deployed;
  run = p.run;
  given = inl (document_given deploy i.deployed from.deployed);
  played = p.played;
  few = p.few;
  comes = by deploy signals from.lines from.accepted;
}
  where
    by : (deploy signals : Option (List ℕ)) → IfSome signals (λ text. signals_of text ≡ Ok i.lines) → IfSome deploy (λ bytes. IfSome signals (λ text. refusal_of bytes text ≡ None))
        → IfSome deploy (λ bytes. IfSome signals (λ text. ComesOn p.run.base mode steps bytes text p.run.history p.run.ended))
    by None signals lines none = tt
    by (Some bytes) None lines none = tt
    by (Some bytes) (Some text) lines none =
        rw none (subst (λ (l : List Signal). EndsOn p.run.base steps (lines_of_run mode p.run.base l) p.run.history p.run.ended) (sym (ap lines_read lines)) p.ends)

-- they gave nothing that can be played
pub many_of : (mode : Mode) (steps : ℕ) (deploy signals before after : Option (List ℕ)) (old new : DiskState) (status : Status) → IsPlayedFrom mode steps deploy signals before after old new status
    → IsPlayedByMany mode steps deploy signals before after old new status
many_of mode steps deploy signals before after old new status p = record { document = p.document; run = p.run; given = p.given; played = p.played; few = p.few; comes = p.comes }
