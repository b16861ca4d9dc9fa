-- Two runs over one disk.
use Rattle.std.proofs.Common.{◌≡◌, ◌≢◌, ◌⊎◌, inl, inr, ℕ, false, List, [], ◌++◌, refl, sym, ◌∙◌, ap, subst, append_assoc, append-nil, Option, Some, None, Ok, IsTrue, MatchOption, arith}
use Rattle.signal_script.specs.declared.signal.Signal.{Signal}
use Rattle.slee_disk.specs.Sides.{Sides}
use Rattle.slee_disk.specs.Disk.{DiskState, IsAtRest, is_clean}
use Rattle.slee_disk.proofs.Moments.{clean_of, clean_settled, clean_told, rest_is_clean, tells}
use Rattle.commit_journal.specs.Reading.{recovered}
use Rattle.commit_journal.proofs.Blanks.{blank_short}
use Rattle.commit_journal.proofs.Sound.{blank_reads}
use Rattle.trace_history.specs.Histories.{choices_of}
use Rattle.trace_history.specs.declared.entry.Entry.{Entry}
use Rattle.router_state.specs.State.{State}
use Rattle.router_steps.specs.Histories.{Legal, replay}
use Rattle.router_steps.specs.Payloads.{payloads}
use Rattle.router_durable.specs.Anew.{is_anew}
use Rattle.router_durable.specs.Choices.{written_format}
use Rattle.router_durable.specs.Opening.{IsUntouched}
use Rattle.router_durable.specs.Recovery.{end_of, past_of, records, records_of, restart}
use Rattle.router_durable.proofs.HistoryLemmas.{choices_of-append, legal-append, payloads-append, replay-choices}
use Rattle.slee_container.specs.declared.container.Mode.{Mode}
use Rattle.slee_container.specs.declared.container.Mode.TheVariants as modes
use Rattle.slee_descriptor.specs.declared.deployment.Deployment.{Deployment}
use Rattle.slee_run.specs.Given.{Document, IsDeployment, IsDocument, lines_in, refusal_of, start_of}
use Rattle.slee_run.specs.Headline.{ComesOn, EndsOn, IsBefore, IsLegalRun, IsPlay, IsRefusedAs, Opens, Plays, Tends, command_for, command_of_task, lines_of_run}
use Rattle.slee_run.specs.Opening.{IsEarly, found}
use Rattle.slee_run.specs.Status.{status_line}
use Rattle.slee_run.specs.Stops.{IsKeptNow, IsSettled, IsUnopened, KeepsJournal, MeetsJournal}
use Rattle.slee_run.specs.Text.{IsTextOf, output_text, short_text}
use Rattle.slee_run.specs.Twice.{IsOneHistory, IsUnbroken}
use Rattle.slee_run.specs.declared.finishing.Report.TheVariants as reports
use Rattle.slee_run.specs.declared.tending.Task.{Task}
use Rattle.slee_run.specs.declared.status.Status.{Status}
use Rattle.slee_run.specs.declared.status.Status.TheVariants as statuses
use Rattle.slee_run.proofs.DeployLemmas.{one_document}
use Rattle.slee_run.proofs.JournalLemmas.{IsCurrent, left_records}
use Rattle.slee_run.proofs.RunLemmas.{no_play, task_apart}

-- ---- blank sides stand for the state in which nothing has happened, and have no records

abbrev blank : Sides
blank = record { a = []; b = [] }

blank_recovered : (bytes : List ℕ) → recovered bytes blank ≡ Ok None
blank_recovered bytes = blank_reads bytes blank (blank_short [] (omega arith), blank_short [] (omega arith))

record IsBlank (x : Document) (d : DiskState) : Type 0 where
  pub clean : IsTrue (is_clean d)
  pub is : found x d ≡ Ok x.start
  pub none : records x.bytes d.seen ≡ []
  pub current : IsCurrent x d

blank_is : (x : Document) (d : DiskState) → IsAtRest blank d → IsBlank x d
blank_is x d rest = record {
  clean = rest_is_clean blank d rest;
  is = ap (restart x.start x.bytes) rest.seen ∙ ap (λ r. end_of (past_of x.start r)) (blank_recovered x.bytes);
  none = ap (λ (s : Sides). records_of (recovered x.bytes s)) rest.seen ∙ ap records_of (blank_recovered x.bytes);
  current = inl (ap (recovered x.bytes) rest.seen ∙ blank_recovered x.bytes);
}

pub blank_rest : (a b : List ℕ) (d : DiskState) → a ≡ [] → b ≡ [] → IsAtRest (record { a = a; b = b }) d → IsAtRest blank d
blank_rest a b d first second rest =
    subst (λ (x : List ℕ). IsAtRest (record { a = x; b = [] }) d) first (subst (λ (y : List ℕ). IsAtRest (record { a = a; b = y }) d) second rest)

-- ---- what one unbroken run leaves

opens_by : (mode : Mode) (steps : ℕ) (words : List (List ℕ)) → Plays words mode steps → Opens words
opens_by modes.AllNew steps words plays = record { command = command_for modes.AllNew steps; asks = plays; opening = tt }
opens_by modes.SkipTaken steps words plays = record { command = command_for modes.SkipTaken steps; asks = plays; opening = tt }

-- what is said of a run without an entry that was refused early doesn't depend on where it would have begun
early_ends : (base other : State) (steps : ℕ) (lines more : List Signal) (status : Status) → IsEarly status → status ≢ statuses.NoMemory → EndsOn base steps lines [] status → EndsOn other steps more [] status
early_ends base other steps lines more statuses.Ok early found ends = absurd early
early_ends base other steps lines more statuses.BadWords early found ends = ends
early_ends base other steps lines more statuses.ReadFault early found ends = ends
early_ends base other steps lines more statuses.WriteFault early found ends = absurd early
early_ends base other steps lines more statuses.DiskFault early found ends = absurd early
early_ends base other steps lines more (statuses.BadJournal side at kind) early found ends = absurd early
early_ends base other steps lines more (statuses.OtherDeployment kept_len place) early found ends = absurd early
early_ends base other steps lines more (statuses.Full size adding) early found ends = absurd early
early_ends base other steps lines more (statuses.StepsSpent entries) early found ends = absurd early
early_ends base other steps lines more statuses.NoMemory early found ends = absurd (found refl)
early_ends base other steps lines more (statuses.BadDeploy fault) early found ends = ends
early_ends base other steps lines more (statuses.BadSignals line kind) early found ends = ends
early_ends base other steps lines more (statuses.TooLarge what) early found ends = ends

early_comes : (base other : State) (mode : Mode) (steps : ℕ) (deploy lines : List ℕ) (status : Status) → IsEarly status → status ≢ statuses.NoMemory
    → ComesOn base mode steps deploy lines [] status → ComesOn other mode steps deploy lines [] status
early_comes base other mode steps deploy lines status early found comes = by (refusal_of deploy lines) comes
  where
    by : (o : Option Status) → MatchOption o (EndsOn base steps (lines_of_run mode base (lines_in lines)) [] status) (λ refusal. (◌≡◌ {A = List Entry} [] []) × IsRefusedAs refusal status)
        → MatchOption o (EndsOn other steps (lines_of_run mode other (lines_in lines)) [] status) (λ refusal. (◌≡◌ {A = List Entry} [] []) × IsRefusedAs refusal status)
    by None ends = early_ends base other steps (lines_of_run mode base (lines_in lines)) (lines_of_run mode other (lines_in lines)) status early found ends
    by (Some refusal) is = is

pub record IsRunOn (mode : Mode) (steps : ℕ) (x : Document) (base : State) (deploy lines before after : List ℕ) (old new : DiskState) (status : Status) : Type 0 where
  pub history : List Entry
  pub legal : Legal base history
  pub comes : ComesOn base mode steps deploy lines history status
  pub text : after ≡ before ++ output_text reports.Trace history status
  pub clean : IsTrue (is_clean new)
  pub again : found x new ≡ Ok (replay base history)
  pub records : records x.bytes new.seen ≡ records x.bytes old.seen ++ payloads written_format base (choices_of history)
  pub current : IsCurrent x new

module _ (words : List (List ℕ)) (mode : Mode) (steps : ℕ) (x : Document) (base : State) (deploy lines before after : List ℕ) (old new : DiskState) (status : Status)
    (given : IsDocument (Some deploy) x) (clean : IsTrue (is_clean old)) (current : IsCurrent x old) (is : found x old ≡ Ok base) (plays : Plays words mode steps) (unbroken : IsUnbroken status)
    (r : IsLegalRun words (Some deploy) (Some lines) (Some before) (Some after) old new status) where
  whole : (r.stood ≡ status) × (after ≡ before ++ r.text)
  whole = r.output.whole unbroken.0

  remembered : r.stood ≢ statuses.NoMemory
  remembered e = unbroken.2 (sym whole.0 ∙ e)

  ended : r.ended ≡ status
  ended = sym (r.run.same remembered) ∙ whole.0

  acked : r.acked ≡ r.history
  acked = r.run.legal.whole (λ e. unbroken.1 (sym ended ∙ e))

  play : IsPlay r.base mode steps (Some deploy) (Some lines) r.history r.acked r.ended r.stood r.text
  play = r.run.plays mode steps plays

  reported : ((r.stood ≡ r.ended) × (r.text ≡ output_text reports.Trace r.acked r.ended)) ⊎ ((r.stood ≡ statuses.NoMemory) × (r.text ≡ short_text reports.Trace r.acked)) → r.text ≡ output_text reports.Trace r.history status
  reported (inl all) = all.1 ∙ ap (λ (h : List Entry). output_text reports.Trace h r.ended) acked ∙ ap (output_text reports.Trace r.history) ended
  reported (inr short) = absurd (remembered short.0)

  text_is : IsTextOf reports.Trace r.history r.acked r.ended r.stood r.text → r.text ≡ output_text reports.Trace r.history status
  text_is (inl report) = reported report.prints
  text_is (inr alone) = alone.alone ∙ ap status_line ended ∙ ap (λ (h : List Entry). output_text reports.Trace h status) (sym alone.none)

  text : after ≡ before ++ output_text reports.Trace r.history status
  text = whole.1 ∙ ap (λ (l : List ℕ). before ++ l) (text_is play.prints)

  comes : ComesOn r.base mode steps deploy lines r.history status
  comes = subst (λ (t : Status). ComesOn r.base mode steps deploy lines r.history t) ended play.comes

  -- nothing was written, and no entry made
  alone : r.history ≡ [] → IsUntouched old new → ComesOn base mode steps deploy lines [] status → IsRunOn mode steps x base deploy lines before after old new status
  alone none untouched comes_here = record {
    history = [];
    legal = tt;
    comes = comes_here;
    text = text ∙ ap (λ (h : List Entry). before ++ output_text reports.Trace h status) none;
    clean = clean_of new (tells old.told new.told untouched.told (clean_told old clean)) (λ side. untouched.settled side (clean_settled old clean side));
    again = ap (restart x.start x.bytes) untouched.seen ∙ is;
    records = ap (records x.bytes) untouched.seen ∙ sym (append-nil (records x.bytes old.seen));
    current = subst (λ (s : Sides). (recovered x.bytes s ≡ Ok None) ⊎ (is_anew (recovered x.bytes s) ≡ false)) (sym untouched.seen) current;
  }

  -- the journal was opened
  opened : IsDocument (Some deploy) r.document → IsRunOn mode steps x base deploy lines before after old new status
  opened document = by (keeps.held told (is ∙ ap (λ (s : State). Ok s) (sym from)))
    where
      opens : Opens words
      opens = opens_by mode steps words plays

      plain : (task : Task) → Tends words task → ⊥
      plain task tends = no_play words (command_of_task task) mode steps tends (task_apart task).0 (task_apart task).1 plays

      told : IsTrue old.told
      told = clean_told old clean

      meets : MeetsJournal x r.base r.history old new r.ended
      meets = subst (λ (y : Document). MeetsJournal y r.base r.history old new r.ended) (one_document deploy r.document x document given) (r.journal.met opens)

      keeps : KeepsJournal x r.base r.history r.acked old new r.ended
      keeps = subst (λ (y : Document). KeepsJournal y r.base r.history r.acked old new r.ended) (one_document deploy r.document x document given) (r.journal.keeps opens plain)

      from : r.base ≡ base
      from = (meets.opened told).from base is

      up : r.ended ≢ statuses.DiskFault
      up e = unbroken.1 (sym ended ∙ e)

      kept : IsSettled x r.base r.acked old new → IsRunOn mode steps x base deploy lines before after old new status
      kept settled = record {
        history = r.history;
        legal = subst (λ (s : State). Legal s r.history) from r.run.legal.legal;
        comes = subst (λ (s : State). ComesOn s mode steps deploy lines r.history status) from comes;
        text = text;
        clean = settled.rest;
        again = settled.again ∙ ap (λ (h : List Entry). Ok (replay r.base h)) acked ∙ ap (λ (s : State). Ok (replay s r.history)) from;
        records = settled.records ∙ ap (λ (ps : List (List ℕ)). ps ++ payloads written_format r.base (choices_of r.acked)) (left_records x old r.base current)
            ∙ ap (λ (h : List Entry). records x.bytes old.seen ++ payloads written_format r.base (choices_of h)) acked
            ∙ ap (λ (s : State). records x.bytes old.seen ++ payloads written_format s (choices_of r.history)) from;
        current = inr settled.current;
      }

      by : IsKeptNow x r.base r.history r.acked old new r.ended ⊎ IsUnopened x r.base r.history old new r.ended → IsRunOn mode steps x base deploy lines before after old new status
      by (inl now) = kept (now.kept up)
      by (inr none) = alone none.none (none.untouched up)
          (subst (λ (s : State). ComesOn s mode steps deploy lines [] status) from (subst (λ (h : List Entry). ComesOn r.base mode steps deploy lines h status) none.none comes))

  -- or it was not
  unopened : IsBefore r.history old new r.ended → IsRunOn mode steps x base deploy lines before after old new status
  unopened b = alone b.none b.same.untouched
      (early_comes r.base base mode steps deploy lines status (subst IsEarly ended b.early) unbroken.2 (subst (λ (h : List Entry). ComesOn r.base mode steps deploy lines h status) b.none comes))

  pub run_on : IsRunOn mode steps x base deploy lines before after old new status
  run_on = by (r.given (opens_by mode steps words plays))
    where
      by : IsDocument (Some deploy) r.document ⊎ IsBefore r.history old new r.ended → IsRunOn mode steps x base deploy lines before after old new status
      by (inl document) = opened document
      by (inr before_opening) = unopened before_opening

pub one_history : (words : List (List ℕ)) (mode : Mode) (steps : ℕ) (d : Deployment) (deploy lines more before mid after : List ℕ) (old between new : DiskState) (first second : Status) → IsDeployment deploy d
    → IsAtRest blank old → Plays words mode steps → IsUnbroken first → IsUnbroken second
    → IsLegalRun words (Some deploy) (Some lines) (Some before) (Some mid) old between first → IsLegalRun words (Some deploy) (Some more) (Some mid) (Some after) between new second
    → IsOneHistory mode steps deploy lines more before after d new first second
one_history words mode steps d deploy lines more before mid after old between new first second deployment rest plays fine good r q = record {
  one = y.history;
  other = z.history;
  legal = legal-append start y.history z.history y.legal z.legal;
  comes = y.comes;
  comes_on = z.comes;
  text = z.text ∙ ap (λ (l : List ℕ). l ++ output_text reports.Trace z.history second) y.text ∙ append_assoc before (output_text reports.Trace y.history first) (output_text reports.Trace z.history second);
  records =
      z.records
      ∙ ap (λ (ps : List (List ℕ)). ps ++ payloads written_format (replay start y.history) (choices_of z.history)) (y.records ∙ ap (λ (ps : List (List ℕ)). ps ++ payloads written_format start (choices_of y.history)) b.none)
      ∙ ap (λ (s : State). payloads written_format start (choices_of y.history) ++ payloads written_format s (choices_of z.history)) (replay-choices start y.history)
      ∙ sym (payloads-append start (choices_of y.history) (choices_of z.history)) ∙ ap (payloads written_format start) (sym (choices_of-append y.history z.history));
  rest = z.clean;
}
  where
    start : State
    start = start_of d

    x : Document
    x = record { bytes = deploy; start = start }

    given : IsDocument (Some deploy) x
    given = record { deployment = d; given = deployment; start = refl; told = refl }

    b : IsBlank x old
    b = blank_is x old rest

    y : IsRunOn mode steps x start deploy lines before mid old between first
    y = run_on words mode steps x start deploy lines before mid old between first given b.clean b.current b.is plays fine r

    z : IsRunOn mode steps x (replay start y.history) deploy more mid after between new second
    z = run_on words mode steps x (replay start y.history) deploy more mid after between new second given y.clean y.current y.again plays good q
