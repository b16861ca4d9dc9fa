-- What a run is, by what its words ask.
use Rattle.std.proofs.Common.{◌≡◌, ◌≢◌, ◌⊎◌, inl, inr, ℕ, ◌<◌, ◌≤◌, List, [], length, true, false, refl, sym, ◌∙◌, ap, subst, Option, Some, None, Result, Ok, Err, IsOk, IsTrue, IfSome, MatchOption, arith}
use Rattle.slee_disk.specs.Disk.{DiskState}
use Rattle.commit_journal.specs.Reading.{Wrong, Bad, Other}
use Rattle.router_state.specs.State.{State}
use Rattle.signal_script.specs.declared.signal.Signal.{Signal}
use Rattle.trace_history.specs.declared.entry.Entry.{Entry}
use Rattle.deploy_json.specs.declared.fault.ReadFault.{ReadFault}
use Rattle.deploy_json.specs.Checking.{Reading, reading_of, read_as}
use Rattle.deploy_report.specs.Counting.{counts_in, counts_of, counts_read}
use Rattle.deploy_report.specs.declared.counts.Counts.{Counts}
use Rattle.slee_container.specs.declared.container.Mode.{Mode}
use Rattle.slee_container.specs.declared.container.Mode.TheVariants as modes
use Rattle.slee_run.specs.Words.{command_of}
use Rattle.slee_run.specs.Status.{status_line}
use Rattle.slee_run.specs.Text.{task_text}
use Rattle.slee_run.specs.Given.{Document, IsDocument, deploy_limit, refusal_of, refusal_of_deploy, unread}
use Rattle.slee_run.specs.Headline.{command_for, command_of_task, Plays, Tends, Tries, Opens, IsOpening, IsOfDeployment, EndsOn, ComesOn, IsBefore, IsByOneFrom, IsTask, IsTrial, IsTrialOrNone, IsUnread, IsTendedAt, IsWritten, IsLegalRun, IsComplete, IsCompleteTask, IsCompleteTrial, IsWholeCheck, trial_steps}
use Rattle.slee_run.specs.Stops.{DoneOn}
use Rattle.slee_run.specs.Opening.{found, IsAnswerTo, IsEarly, IsGood}
use Rattle.slee_run.specs.Answers.{Outcome, IsCheckedBy, IsFormOf, IsGeneratedBy, IsPlayedFrom, IsTaskBy, IsTriedBy}
use Rattle.slee_run.specs.Checking.{IsTextFor, IsCheckedAt, IsAnswerFor, IsBarred, IsFaulty, IsGenerated, IsLinesFor}
use Rattle.slee_run.specs.declared.command.Command.{Command}
use Rattle.slee_run.specs.declared.command.Command.TheVariants as commands
use Rattle.slee_run.specs.declared.running.Run.{Run}
use Rattle.slee_run.specs.declared.generating.Seeded.{Seeded}
use Rattle.slee_run.specs.declared.top.Form.TheVariants as forms
use Rattle.slee_run.specs.declared.tending.Task.{Task}
use Rattle.slee_run.specs.declared.tending.Task.TheVariants as tasks
use Rattle.slee_run.specs.declared.status.Given.TheVariants as givens
use Rattle.slee_run.specs.declared.status.Status.{Status}
use Rattle.slee_run.specs.declared.status.Status.TheVariants as statuses
use Rattle.slee_run.proofs.JournalLemmas.{base_on, no_history}
use Rattle.slee_run.proofs.AnswerLemmas.{nowhere}
use Rattle.slee_run.proofs.DeployLemmas.{one_document}
use Rattle.slee_run.proofs.ReadLemmas.{large_deploy, within_deploy}

one_command : (o : Option Command) (c d : Command) → o ≡ Some c → o ≡ Some d → c ≡ d
one_command o c d p q = cc (sym p ∙ q)

pub no_command : (o : Option Command) (c : Command) → o ≡ None → o ≡ Some c → ⊥
no_command o c p q = cc

-- which form a command has
abbrev pub Kind : Command → ℕ
Kind commands.Check = 0
Kind (commands.Play workers steps) = 1
Kind (commands.Resume workers steps) = 2
Kind commands.Show = 3
Kind commands.Compact = 4
Kind (commands.Gen seed count) = 5
Kind (commands.Trial seed count) = 6

pub other : (words : List (List ℕ)) (c d : Command) → command_of words ≡ Some c → command_of words ≡ Some d → Kind c ≡ Kind d
other words c d p q = ap Kind (one_command (command_of words) c d p q)

plays_kind : (mode : Mode) (steps : ℕ) → (Kind (command_for mode steps) ≡ 1) ⊎ (Kind (command_for mode steps) ≡ 2)
plays_kind modes.AllNew steps = inl refl
plays_kind modes.SkipTaken steps = inr refl

-- words of another form don't play
pub no_play : (words : List (List ℕ)) (c : Command) (mode : Mode) (steps : ℕ) → command_of words ≡ Some c → (Kind c ≡ 1 → ⊥) → (Kind c ≡ 2 → ⊥) → Plays words mode steps → ⊥
no_play words c mode steps asks one two plays = by (plays_kind mode steps)
  where
    by : (Kind (command_for mode steps) ≡ 1) ⊎ (Kind (command_for mode steps) ≡ 2) → ⊥
    by (inl is) = one (other words c (command_for mode steps) asks plays ∙ is)
    by (inr is) = two (other words c (command_for mode steps) asks plays ∙ is)

no_opening : (words : List (List ℕ)) (c : Command) → command_of words ≡ Some c → (IsOpening c → ⊥) → Opens words → ⊥
no_opening words c asks closed opens = closed (subst IsOpening (sym (one_command (command_of words) c opens.command asks opens.asks)) opens.opening)

-- the words ask for one thing
pub task_kind : (task : Task) → (Kind (command_of_task task) ≡ 3) ⊎ (Kind (command_of_task task) ≡ 4)
task_kind tasks.Show = inl refl
task_kind tasks.Compact = inr refl

pub no_task : (words : List (List ℕ)) (c : Command) → command_of words ≡ Some c → (Kind c ≡ 3 → ⊥) → (Kind c ≡ 4 → ⊥) → (task : Task) → Tends words task → ⊥
no_task words c asks three four task tends = by (task_kind task)
  where
    by : (Kind (command_of_task task) ≡ 3) ⊎ (Kind (command_of_task task) ≡ 4) → ⊥
    by (inl is) = three (other words c (command_of_task task) asks tends ∙ is)
    by (inr is) = four (other words c (command_of_task task) asks tends ∙ is)

pub task_apart : (task : Task) → (Kind (command_of_task task) ≡ 1 → ⊥) × (Kind (command_of_task task) ≡ 2 → ⊥)
task_apart tasks.Show = (λ e. cc, λ e. cc)
task_apart tasks.Compact = (λ e. cc, λ e. cc)

-- the words are of no form
pub run_of_bad : (words : List (List ℕ)) (deploy signals before after : Option (List ℕ)) (d : DiskState) (status : Status) → command_of words ≡ None
    → IsWritten before after (status_line statuses.BadWords) statuses.BadWords status → IsLegalRun words deploy signals before after d d status
run_of_bad words deploy signals before after d status none out = record {
  document = nowhere;
  base = base_on nowhere d;
  generation = 0;
  history = [];
  acked = [];
  text = status_line statuses.BadWords;
  ended = statuses.BadWords;
  stood = statuses.BadWords;
  run = record {
    legal = no_history (base_on nowhere d) statuses.BadWords;
    bad = λ e. record { same = refl; none = refl; alone = refl };
    plays = λ mode steps is. absurd (no_command (command_of words) (command_for mode steps) none is);
    tends = λ task is. absurd (no_command (command_of words) (command_of_task task) none is);
    checks = λ is. absurd (no_command (command_of words) commands.Check none is);
    generates = λ seed count is. absurd (no_command (command_of words) (commands.Gen seed count) none is);
    tries = λ seed count is. absurd (no_command (command_of words) (commands.Trial seed count) none is);
    alone = λ mode steps is. absurd (no_command (command_of words) (command_for mode steps) none is);
    same = λ more. refl;
    unwritten = λ is. cc;
  };
  given = λ opens. absurd (no_command (command_of words) opens.command none opens.asks);
  journal = record {
    met = λ opens. absurd (no_command (command_of words) opens.command none opens.asks);
    keeps = λ opens other. absurd (no_command (command_of words) opens.command none opens.asks);
    done = λ task is. absurd (no_command (command_of words) (command_of_task task) none is);
  };
  bare = λ opens. absurd (no_command (command_of words) opens.command none opens.asks);
  output = out;
}

-- what is said of a play by these words
record IsFrom (deploy signals : Option (List ℕ)) (mode : Mode) (steps : ℕ) (o : Outcome) : Type 0 where
  pub few : length o.history ≤ steps
  pub comes : IfSome deploy (λ d. IfSome signals (λ bytes. ComesOn o.base mode steps d bytes o.history o.ended))
  pub alone : IsByOneFrom o.base mode steps deploy signals o.history o.ended

-- they ask to play
one_mode : (mode other : Mode) (m n : ℕ) → command_for mode m ≡ command_for other n → (mode ≡ other) × (m ≡ n)
one_mode modes.AllNew modes.AllNew m n is = (refl, cc)
one_mode modes.AllNew modes.SkipTaken m n is = absurd (cc)
one_mode modes.SkipTaken modes.AllNew m n is = absurd (cc)
one_mode modes.SkipTaken modes.SkipTaken m n is = (refl, cc)

pub run_of_play : (words : List (List ℕ)) (deploy signals before after : Option (List ℕ)) (old new : DiskState) (status : Status) (c : Command) (run : Run) → command_of words ≡ Some c → IsFormOf c (forms.Play run)
    → IsPlayedFrom run.mode run.steps deploy signals before after old new status → IsLegalRun words deploy signals before after old new status
run_of_play words deploy signals before after old new status c run asks plays p = record {
  document = p.document;
  base = p.run.base;
  generation = p.run.generation;
  history = p.run.history;
  acked = p.run.acked;
  text = p.run.text;
  ended = p.run.ended;
  stood = p.run.stood;
  run = record {
    legal = p.played.legal;
    bad = λ none. absurd (no_command (command_of words) c none asks);
    plays = λ mode steps is. record {
      few = (from mode steps is).few;
      comes = (from mode steps is).comes;
      words = p.played.words;
      prints = p.played.prints;
    };
    tends = λ task is. absurd (play_task task is);
    checks = λ is. absurd (no_play words commands.Check run.mode run.steps is (λ e. cc) (λ e. cc) asked_play);
    generates = λ seed count is. absurd (no_play words (commands.Gen seed count) run.mode run.steps is (λ e. cc) (λ e. cc) asked_play);
    tries = λ seed count is. absurd (no_play words (commands.Trial seed count) run.mode run.steps is (λ e. cc) (λ e. cc) asked_play);
    alone = λ mode steps is. (from mode steps is).alone;
    same = p.played.same;
    unwritten = p.played.unwritten;
  };
  given = λ opens. p.given;
  journal = record { met = λ opens. p.played.met; keeps = λ opens other. p.played.keeps; done = λ task is. absurd (play_task task is) };
  bare = λ opens. p.played.bare;
  output = p.played.output;
}
  where
    play_task : (task : Task) → Tends words task → ⊥
    play_task task is = no_play words (command_of_task task) run.mode run.steps is (task_apart task).0 (task_apart task).1 (asks ∙ ap (λ (d : Command). Some d) plays.0)

    asked_play : command_of words ≡ Some (command_for run.mode run.steps)
    asked_play = asks ∙ ap (λ (d : Command). Some d) plays.0

    from : (mode : Mode) (steps : ℕ) → Plays words mode steps → IsFrom deploy signals mode steps p.run
    from mode steps is =
        let one = one_mode run.mode mode run.steps steps (one_command (command_of words) (command_for run.mode run.steps) (command_for mode steps) asked_play is) in
        subst (λ (m : Mode). IsFrom deploy signals m steps p.run) one.0 (subst (λ (n : ℕ). IsFrom deploy signals run.mode n p.run) one.1
        (record { few = p.few; comes = p.comes; alone = p.alone }))

-- they ask for a task
one_task : (task other : Task) → command_of_task task ≡ command_of_task other → task ≡ other
one_task tasks.Show tasks.Show is = refl
one_task tasks.Show tasks.Compact is = absurd (cc)
one_task tasks.Compact tasks.Show is = absurd (cc)
one_task tasks.Compact tasks.Compact is = refl

pub run_of_task : (words : List (List ℕ)) (deploy signals before after : Option (List ℕ)) (old new : DiskState) (status : Status) (c : Command) (task : Task) → command_of words ≡ Some c → c ≡ command_of_task task
    → IsTaskBy task deploy before after old new status → IsLegalRun words deploy signals before after old new status
run_of_task words deploy signals before after old new status c task asks asked p = record {
  document = p.document;
  base = p.base;
  generation = p.generation;
  history = [];
  acked = [];
  text = task_text task p.base p.generation p.stood;
  ended = p.stood;
  stood = p.stood;
  run = record {
    legal = no_history p.base p.stood;
    bad = λ none. absurd (no_command (command_of words) c none asks);
    plays = λ mode steps is. absurd (not_play mode steps is);
    tends = λ other is. subst (λ (t : Task). IsTask t p.base p.generation deploy [] (task_text task p.base p.generation p.stood) p.stood) (same_task other is)
        (record { comes = p.comes; none = refl; barred = p.barred; prints = refl });
    checks = λ is. absurd (no_task words commands.Check is (λ e. cc) (λ e. cc) task asked_task);
    generates = λ seed count is. absurd (no_task words (commands.Gen seed count) is (λ e. cc) (λ e. cc) task asked_task);
    tries = λ seed count is. absurd (no_task words (commands.Trial seed count) is (λ e. cc) (λ e. cc) task asked_task);
    alone = λ mode steps is. absurd (not_play mode steps is);
    same = λ more. refl;
    unwritten = λ is. subst IsTendedAt is p.comes;
  };
  given = λ opens. p.given;
  journal = record {
    met = λ opens. p.met;
    keeps = λ opens other. absurd (other task asked_task);
    done = λ other is. subst (λ (t : Task). DoneOn t p.document p.base p.generation old new p.stood) (same_task other is) p.done;
  };
  bare = λ opens told adding is. full_text task p.base p.generation p.stood adding is;
  output = p.output;
}
  where
    asked_task : command_of words ≡ Some (command_of_task task)
    asked_task = asks ∙ ap (λ (d : Command). Some d) asked

    same_task : (other : Task) → Tends words other → task ≡ other
    same_task other is = one_task task other (one_command (command_of words) (command_of_task task) (command_of_task other) asked_task is)

    not_play : (mode : Mode) (steps : ℕ) → Plays words mode steps → ⊥
    not_play mode steps is = no_play words (command_of_task task) mode steps asked_task (task_apart task).0 (task_apart task).1 is

    full_text : (task : Task) (base : State) (generation : ℕ) (stood : Status) (adding : ℕ) → stood ≡ statuses.Full 0 adding → task_text task base generation stood ≡ status_line stood
    full_text task base generation stood adding is = subst (λ (s : Status). task_text task base generation s ≡ status_line s) (sym is) refl

-- they ask to check
pub run_of_check : (words : List (List ℕ)) (deploy signals before after : Option (List ℕ)) (d : DiskState) (status : Status) (c : Command) → command_of words ≡ Some c → c ≡ commands.Check
    → IsCheckedBy deploy before after status → IsLegalRun words deploy signals before after d d status
run_of_check words deploy signals before after d status c asks checks p = record {
  document = nowhere;
  base = base_on nowhere d;
  generation = 0;
  history = [];
  acked = [];
  text = p.text;
  ended = p.stood;
  stood = p.stood;
  run = record {
    legal = no_history (base_on nowhere d) p.stood;
    bad = λ none. absurd (no_command (command_of words) c none asks);
    plays = λ mode steps is. absurd (no_play words commands.Check mode steps asked_check (λ e. cc) (λ e. cc) is);
    tends = λ task is. absurd (no_task words commands.Check asked_check (λ e. cc) (λ e. cc) task is);
    checks = λ is. p.check;
    generates = λ seed count is. absurd (let never : 0 ≡ 5 = other words commands.Check (commands.Gen seed count) asked_check is in cc);
    tries = λ seed count is. absurd (let never : 0 ≡ 6 = other words commands.Check (commands.Trial seed count) asked_check is in cc);
    alone = λ mode steps is. absurd (no_play words commands.Check mode steps asked_check (λ e. cc) (λ e. cc) is);
    same = λ more. refl;
    unwritten = λ is. subst IsCheckedAt is p.check.comes;
  };
  given = λ opens. absurd (no_opening words commands.Check asked_check (λ e. e) opens);
  journal = record {
    met = λ opens. absurd (no_opening words commands.Check asked_check (λ e. e) opens);
    keeps = λ opens other. absurd (no_opening words commands.Check asked_check (λ e. e) opens);
    done = λ task is. absurd (no_task words commands.Check asked_check (λ e. cc) (λ e. cc) task is);
  };
  bare = λ opens. absurd (no_opening words commands.Check asked_check (λ e. e) opens);
  output = p.output;
}
  where
    asked_check : command_of words ≡ Some commands.Check
    asked_check = asks ∙ ap (λ (d : Command). Some d) checks

-- they ask for generated lines
one_seed : (seed count m n : ℕ) → commands.Gen seed count ≡ commands.Gen m n → (seed ≡ m) × (count ≡ n)
one_seed seed count m n is = (cc, cc)

pub run_of_gen : (words : List (List ℕ)) (deploy signals before after : Option (List ℕ)) (d : DiskState) (status : Status) (c : Command) (seeded : Seeded) → command_of words ≡ Some c
    → c ≡ commands.Gen seeded.seed seeded.count → IsGeneratedBy seeded.seed seeded.count deploy before after status → IsLegalRun words deploy signals before after d d status
run_of_gen words deploy signals before after d status c seeded asks gens p = record {
  document = nowhere;
  base = base_on nowhere d;
  generation = 0;
  history = [];
  acked = [];
  text = p.text;
  ended = p.stood;
  stood = p.stood;
  run = record {
    legal = no_history (base_on nowhere d) p.stood;
    bad = λ none. absurd (no_command (command_of words) c none asks);
    plays = λ mode steps is. absurd (no_play words (commands.Gen seeded.seed seeded.count) mode steps asked_gen (λ e. cc) (λ e. cc) is);
    tends = λ task is. absurd (no_task words (commands.Gen seeded.seed seeded.count) asked_gen (λ e. cc) (λ e. cc) task is);
    checks = λ is. absurd (let never : 5 ≡ 0 = other words (commands.Gen seeded.seed seeded.count) commands.Check asked_gen is in cc);
    generates = λ seed count is.
        let one = one_seed seeded.seed seeded.count seed count (one_command (command_of words) (commands.Gen seeded.seed seeded.count) (commands.Gen seed count) asked_gen is) in
        subst (λ (m : ℕ). IsGenerated m count deploy [] p.text p.stood) one.0 (subst (λ (n : ℕ). IsGenerated seeded.seed n deploy [] p.text p.stood) one.1 p.lines);
    tries = λ seed count is. absurd (let never : 5 ≡ 6 = other words (commands.Gen seeded.seed seeded.count) (commands.Trial seed count) asked_gen is in cc);
    alone = λ mode steps is. absurd (no_play words (commands.Gen seeded.seed seeded.count) mode steps asked_gen (λ e. cc) (λ e. cc) is);
    same = λ more. refl;
    unwritten = λ is. subst IsCheckedAt is p.lines.comes;
  };
  given = λ opens. absurd (no_opening words (commands.Gen seeded.seed seeded.count) asked_gen (λ e. e) opens);
  journal = record {
    met = λ opens. absurd (no_opening words (commands.Gen seeded.seed seeded.count) asked_gen (λ e. e) opens);
    keeps = λ opens other. absurd (no_opening words (commands.Gen seeded.seed seeded.count) asked_gen (λ e. e) opens);
    done = λ task is. absurd (no_task words (commands.Gen seeded.seed seeded.count) asked_gen (λ e. cc) (λ e. cc) task is);
  };
  bare = λ opens. absurd (no_opening words (commands.Gen seeded.seed seeded.count) asked_gen (λ e. e) opens);
  output = p.output;
}
  where
    asked_gen : command_of words ≡ Some (commands.Gen seeded.seed seeded.count)
    asked_gen = asks ∙ ap (λ (d : Command). Some d) gens

-- they ask to play generated lines
one_trial : (seed count m n : ℕ) → commands.Trial seed count ≡ commands.Trial m n → (seed ≡ m) × (count ≡ n)
one_trial seed count m n is = (cc, cc)

pub run_of_trial : (words : List (List ℕ)) (deploy signals before after : Option (List ℕ)) (old new : DiskState) (status : Status) (c : Command) (seeded : Seeded) → command_of words ≡ Some c
    → c ≡ commands.Trial seeded.seed seeded.count → IsTriedBy seeded.seed seeded.count deploy before after old new status → IsLegalRun words deploy signals before after old new status
run_of_trial words deploy signals before after old new status c seeded asks tries p = record {
  document = p.document;
  base = p.run.base;
  generation = p.run.generation;
  history = p.run.history;
  acked = p.run.acked;
  text = p.run.text;
  ended = p.run.ended;
  stood = p.run.stood;
  run = record {
    legal = p.played.legal;
    bad = λ none. absurd (no_command (command_of words) c none asks);
    plays = λ mode steps is. absurd (no_play words (commands.Trial seeded.seed seeded.count) mode steps asked_trial (λ e. cc) (λ e. cc) is);
    tends = λ task is. absurd (no_task words (commands.Trial seeded.seed seeded.count) asked_trial (λ e. cc) (λ e. cc) task is);
    checks = λ is. absurd (let never : 6 ≡ 0 = other words (commands.Trial seeded.seed seeded.count) commands.Check asked_trial is in cc);
    generates = λ seed count is. absurd (let never : 6 ≡ 5 = other words (commands.Trial seeded.seed seeded.count) (commands.Gen seed count) asked_trial is in cc);
    tries = λ seed count is. tried seed count (one_trial seeded.seed seeded.count seed count (one_command (command_of words) (commands.Trial seeded.seed seeded.count) (commands.Trial seed count) asked_trial is));
    alone = λ mode steps is. absurd (no_play words (commands.Trial seeded.seed seeded.count) mode steps asked_trial (λ e. cc) (λ e. cc) is);
    same = p.played.same;
    unwritten = p.played.unwritten;
  };
  given = λ opens. p.given;
  journal = record {
    met = λ opens. p.played.met;
    keeps = λ opens other. p.played.keeps;
    done = λ task is. absurd (no_task words (commands.Trial seeded.seed seeded.count) asked_trial (λ e. cc) (λ e. cc) task is);
  };
  bare = λ opens. p.played.bare;
  output = p.played.output;
}
  where
    asked_trial : command_of words ≡ Some (commands.Trial seeded.seed seeded.count)
    asked_trial = asks ∙ ap (λ (d : Command). Some d) tries

    here : IsTrial p.run.base seeded.seed seeded.count deploy p.run.history p.run.acked p.run.ended p.run.stood p.run.text
    here = record { few = p.few; comes = p.comes; words = p.played.words; prints = p.played.prints }

    tried : (seed count : ℕ) → (seeded.seed ≡ seed) × (seeded.count ≡ count) → IsTrial p.run.base seed count deploy p.run.history p.run.acked p.run.ended p.run.stood p.run.text
    tried seed count one =
        subst (λ (m : ℕ). IsTrial p.run.base m count deploy p.run.history p.run.acked p.run.ended p.run.stood p.run.text) one.0
        (subst (λ (n : ℕ). IsTrial p.run.base seeded.seed n deploy p.run.history p.run.acked p.run.ended p.run.stood p.run.text) one.1 here)

-- ---- without a fault

no_fault : (bytes : Result State Wrong) (wrong : Wrong) → IsOk bytes → bytes ≡ Err wrong → ⊥
no_fault bytes wrong ok is = let never : false ≡ true = subst IsOk is ok in cc

pub good : (base : State) (steps : ℕ) (lines : List Signal) (history : List Entry) (bytes : Result State Wrong) (ended : Status) → EndsOn base steps lines history ended → IsOk bytes → IsAnswerTo bytes ended
    → ended ≢ statuses.ReadFault → ended ≢ statuses.DiskFault → IsGood ended
good base steps lines history bytes statuses.Ok comes ok answer reads keeps = tt
good base steps lines history bytes statuses.BadWords comes ok answer reads keeps = absurd comes
good base steps lines history bytes statuses.ReadFault comes ok answer reads keeps = absurd (reads refl)
good base steps lines history bytes statuses.WriteFault comes ok answer reads keeps = absurd comes
good base steps lines history bytes statuses.DiskFault comes ok answer reads keeps = absurd (keeps refl)
good base steps lines history bytes (statuses.BadJournal side at kind) comes ok answer reads keeps = absurd (no_fault bytes (Bad side at kind) ok answer)
good base steps lines history bytes (statuses.OtherDeployment kept_len place) comes ok answer reads keeps = absurd (no_fault bytes (Other kept_len place) ok answer)
good base steps lines history bytes (statuses.Full size adding) comes ok answer reads keeps = tt
good base steps lines history bytes (statuses.StepsSpent entries) comes ok answer reads keeps = tt
good base steps lines history bytes statuses.NoMemory comes ok answer reads keeps = tt
good base steps lines history bytes (statuses.BadDeploy fault) comes ok answer reads keeps = absurd comes
good base steps lines history bytes (statuses.BadSignals line kind) comes ok answer reads keeps = absurd comes
good base steps lines history bytes (statuses.TooLarge what) comes ok answer reads keeps = absurd comes

-- before the journal is opened only memory stops a run on good sources
pub good_early : (base : State) (steps : ℕ) (lines : List Signal) (history : List Entry) (ended : Status) → EndsOn base steps lines history ended → IsEarly ended → ended ≢ statuses.ReadFault → IsGood ended
good_early base steps lines history statuses.Ok comes early reads = tt
good_early base steps lines history statuses.BadWords comes early reads = absurd comes
good_early base steps lines history statuses.ReadFault comes early reads = absurd (reads refl)
good_early base steps lines history statuses.WriteFault comes early reads = absurd comes
good_early base steps lines history statuses.DiskFault comes early reads = absurd early
good_early base steps lines history (statuses.BadJournal side at kind) comes early reads = absurd early
good_early base steps lines history (statuses.OtherDeployment kept_len place) comes early reads = absurd early
good_early base steps lines history (statuses.Full size adding) comes early reads = absurd early
good_early base steps lines history (statuses.StepsSpent entries) comes early reads = tt
good_early base steps lines history statuses.NoMemory comes early reads = tt
good_early base steps lines history (statuses.BadDeploy fault) comes early reads = absurd comes
good_early base steps lines history (statuses.BadSignals line kind) comes early reads = absurd comes
good_early base steps lines history (statuses.TooLarge what) comes early reads = absurd comes

good_unread : (ended : Status) → IsUnread ended → ended ≢ statuses.ReadFault → IsGood ended
good_unread ended (inl is) reads = absurd (reads is)
good_unread ended (inr is) reads = subst IsGood (sym is) tt

-- the journal that a run met is the one that is asked of
good_met : (bytes : List ℕ) (words : List (List ℕ)) (signals before after : Option (List ℕ)) (old new : DiskState) (status : Status) (r : IsLegalRun words (Some bytes) signals before after old new status) (opens : Opens words)
    (x : Document) → IsDocument (Some bytes) x → IsTrue old.told → IsOk (found x old) → (steps : ℕ) (lines : List Signal) → EndsOn r.base steps lines r.history r.ended
    → r.ended ≢ statuses.ReadFault → r.ended ≢ statuses.DiskFault → IsGood r.ended
good_met bytes words signals before after old new status r opens x is told ok steps lines ends reads keeps = by (r.given opens)
  where
    by : IsDocument (Some bytes) r.document ⊎ IsBefore r.history old new r.ended → IsGood r.ended
    by (inr unopened) = good_early r.base steps lines r.history r.ended ends unopened.early reads
    by (inl document) =
        good r.base steps lines r.history (found r.document old) r.ended ends
        (subst (λ (y : Document). IsOk (found y old)) (one_document bytes x r.document is document) ok) ((r.journal.met opens).opened told).answer reads keeps

-- memory ran out
abbrev pub is_memory : Status → Type 0
is_memory stood = stood ≡ statuses.NoMemory

-- the status that stood is good where the one that the run came to is
pub good_stood : (ended stood : Status) → (stood ≢ statuses.NoMemory → stood ≡ ended) → (stood ≢ statuses.NoMemory → IsGood ended) → is_memory stood ⊎ (stood ≢ statuses.NoMemory) → IsGood stood
good_stood ended stood same good (inl out) = subst IsGood (sym out) tt
good_stood ended stood same good (inr other) = subst IsGood (sym (same other)) (good other)

pub memory_or : (stood : Status) → is_memory stood ⊎ (stood ≢ statuses.NoMemory)
memory_or statuses.Ok = inr (λ e. cc)
memory_or statuses.BadWords = inr (λ e. cc)
memory_or statuses.ReadFault = inr (λ e. cc)
memory_or statuses.WriteFault = inr (λ e. cc)
memory_or statuses.DiskFault = inr (λ e. cc)
memory_or (statuses.BadJournal side at kind) = inr (λ e. cc)
memory_or (statuses.OtherDeployment kept_len place) = inr (λ e. cc)
memory_or (statuses.Full size adding) = inr (λ e. cc)
memory_or (statuses.StepsSpent entries) = inr (λ e. cc)
memory_or statuses.NoMemory = inl refl
memory_or (statuses.BadDeploy fault) = inr (λ e. cc)
memory_or (statuses.BadSignals line kind) = inr (λ e. cc)
memory_or (statuses.TooLarge what) = inr (λ e. cc)

plays_open : (words : List (List ℕ)) (mode : Mode) (steps : ℕ) → Plays words mode steps → Opens words
plays_open words modes.AllNew steps plays = record { command = commands.Play 1 steps; asks = plays; opening = tt }
plays_open words modes.SkipTaken steps plays = record { command = commands.Resume 1 steps; asks = plays; opening = tt }

pub ends_given : {Good : Type 0} (o : Option Status) (bad : Status → Type 0) → MatchOption o Good bad → o ≡ None → Good
ends_given None bad comes is = comes
ends_given (Some refusal) bad comes is = absurd (cc)

pub complete : (words : List (List ℕ)) (deploy signals before after : Option (List ℕ)) (old new : DiskState) (status : Status) (Faulted : Type 0) → IsLegalRun words deploy signals before after old new status
    → (status ≡ statuses.ReadFault → Faulted) → (status ≡ statuses.WriteFault → Faulted) → (status ≡ statuses.DiskFault → Faulted) → IsComplete words deploy signals old Faulted status
complete words None signals before after old new status Faulted r read write disk mode steps plays told x is ok = tt
complete words (Some bytes) None before after old new status Faulted r read write disk mode steps plays told x is ok = tt
complete words (Some bytes) (Some text) before after old new status Faulted r read write disk mode steps plays told x is ok = λ accepted none.
    let same : r.stood ≡ status = (r.output.whole (λ e. none (write e))).0 in
    let ends = ends_given (refusal_of bytes text) _ (r.run.plays mode steps plays).comes accepted in
    subst IsGood same (good_stood r.ended r.stood r.run.same
    (λ other. good_met bytes words (Some text) before after old new status r (plays_open words mode steps plays) x is told ok steps _ ends
    (λ e. none (read (sym same ∙ r.run.same other ∙ e))) (λ e. none (disk (sym same ∙ r.run.same other ∙ e))))
    (memory_or r.stood))

trial_ends : (base : State) (seed count : ℕ) (bytes : List ℕ) (history : List Entry) (ended : Status) → IsTrialOrNone base seed count bytes history ended
    → ((lines : List Signal) → EndsOn base trial_steps lines history ended → IsGood ended) → ended ≢ statuses.ReadFault → IsGood ended
trial_ends base seed count bytes history ended (inl trial) met reads = met _ trial.ends
trial_ends base seed count bytes history ended (inr nothing) met reads = good_unread ended nothing.1 reads

tries_open : (words : List (List ℕ)) (seed count : ℕ) → Tries words seed count → Opens words
tries_open words seed count tries = record { command = commands.Trial seed count; asks = tries; opening = tt }

pub complete_trial : (words : List (List ℕ)) (deploy signals before after : Option (List ℕ)) (old new : DiskState) (status : Status) (Faulted : Type 0) → IsLegalRun words deploy signals before after old new status
    → (status ≡ statuses.ReadFault → Faulted) → (status ≡ statuses.WriteFault → Faulted) → (status ≡ statuses.DiskFault → Faulted) → IsCompleteTrial words deploy old Faulted status
complete_trial words None signals before after old new status Faulted r read write disk seed count tries told x is ok = tt
complete_trial words (Some bytes) signals before after old new status Faulted r read write disk seed count tries told x is ok = λ accepted none.
    let same : r.stood ≡ status = (r.output.whole (λ e. none (write e))).0 in
    let trial = ends_given (refusal_of_deploy bytes) _ (r.run.tries seed count tries).comes accepted in
    subst IsGood same (good_stood r.ended r.stood r.run.same
    (λ other. trial_ends r.base seed count bytes r.history r.ended trial
    (λ lines ends. good_met bytes words signals before after old new status r (tries_open words seed count tries) x is told ok trial_steps lines ends
    (λ e. none (read (sym same ∙ r.run.same other ∙ e))) (λ e. none (disk (sym same ∙ r.run.same other ∙ e))))
    (λ e. none (read (sym same ∙ r.run.same other ∙ e))))
    (memory_or r.stood))

-- neither the deployment nor its size is refused
abbrev pub IsBarredShow : Status → Type 0
IsBarredShow statuses.Ok = Unit {0}
IsBarredShow statuses.BadWords = Unit {0}
IsBarredShow statuses.ReadFault = Unit {0}
IsBarredShow statuses.WriteFault = Unit {0}
IsBarredShow statuses.DiskFault = Unit {0}
IsBarredShow (statuses.BadJournal side at kind) = Unit {0}
IsBarredShow (statuses.OtherDeployment kept_len place) = Unit {0}
IsBarredShow (statuses.Full size adding) = Unit {0}
IsBarredShow (statuses.StepsSpent entries) = Unit {0}
IsBarredShow statuses.NoMemory = Unit {0}
IsBarredShow (statuses.BadDeploy fault) = ⊥
IsBarredShow (statuses.BadSignals line kind) = Unit {0}
IsBarredShow (statuses.TooLarge what) = ⊥

task_good : (bytes : Result State Wrong) (stood : Status) → IsTendedAt stood → IsOk bytes → IsAnswerTo bytes stood → stood ≢ statuses.ReadFault → stood ≢ statuses.DiskFault → IsBarredShow stood → IsGood stood
task_good bytes statuses.Ok comes ok answer reads keeps good = tt
task_good bytes statuses.BadWords comes ok answer reads keeps good = absurd comes
task_good bytes statuses.ReadFault comes ok answer reads keeps good = absurd (reads refl)
task_good bytes statuses.WriteFault comes ok answer reads keeps good = absurd comes
task_good bytes statuses.DiskFault comes ok answer reads keeps good = absurd (keeps refl)
task_good bytes (statuses.BadJournal side at kind) comes ok answer reads keeps good = absurd (no_fault bytes (Bad side at kind) ok answer)
task_good bytes (statuses.OtherDeployment kept_len place) comes ok answer reads keeps good = absurd (no_fault bytes (Other kept_len place) ok answer)
task_good bytes (statuses.Full size adding) comes ok answer reads keeps good = tt
task_good bytes (statuses.StepsSpent entries) comes ok answer reads keeps good = tt
task_good bytes statuses.NoMemory comes ok answer reads keeps good = tt
task_good bytes (statuses.BadDeploy fault) comes ok answer reads keeps good = absurd good
task_good bytes (statuses.BadSignals line kind) comes ok answer reads keeps good = absurd comes
task_good bytes (statuses.TooLarge what) comes ok answer reads keeps good = absurd good

-- the same where the journal wasn't opened
task_early : (stood : Status) → IsTendedAt stood → IsEarly stood → stood ≢ statuses.ReadFault → IsBarredShow stood → IsGood stood
task_early statuses.Ok comes early reads good = tt
task_early statuses.BadWords comes early reads good = absurd comes
task_early statuses.ReadFault comes early reads good = absurd (reads refl)
task_early statuses.WriteFault comes early reads good = absurd comes
task_early statuses.DiskFault comes early reads good = absurd early
task_early (statuses.BadJournal side at kind) comes early reads good = absurd early
task_early (statuses.OtherDeployment kept_len place) comes early reads good = absurd early
task_early (statuses.Full size adding) comes early reads good = tt
task_early (statuses.StepsSpent entries) comes early reads good = tt
task_early statuses.NoMemory comes early reads good = tt
task_early (statuses.BadDeploy fault) comes early reads good = absurd good
task_early (statuses.BadSignals line kind) comes early reads good = absurd comes
task_early (statuses.TooLarge what) comes early reads good = absurd good

-- bytes that give no refusal bar nothing
not_faulty : (reading : Result Reading ReadFault) (fault : ReadFault) → counts_read reading ≡ Err fault → unread reading ≡ None → ⊥
not_faulty (Ok reading) fault is none = cc
not_faulty (Err found) fault is none = cc

pub counted_read : (bytes : List ℕ) (fault : ReadFault) → counts_in bytes ≡ Err fault → counts_read (reading_of bytes) ≡ Err fault
unfolding counts_in
counted_read bytes fault is = is

pub barred_good : (bytes : List ℕ) (stood : Status) → IsBarred bytes stood → refusal_of_deploy bytes ≡ None → IsBarredShow stood
barred_good bytes statuses.Ok barred none = tt
barred_good bytes statuses.BadWords barred none = tt
barred_good bytes statuses.ReadFault barred none = tt
barred_good bytes statuses.WriteFault barred none = tt
barred_good bytes statuses.DiskFault barred none = tt
barred_good bytes (statuses.BadJournal side at kind) barred none = tt
barred_good bytes (statuses.OtherDeployment kept_len place) barred none = tt
barred_good bytes (statuses.Full size adding) barred none = tt
barred_good bytes (statuses.StepsSpent entries) barred none = tt
barred_good bytes statuses.NoMemory barred none = tt
barred_good bytes (statuses.BadDeploy fault) barred none =
    absurd (not_faulty (reading_of bytes) fault (counted_read bytes fault barred.first) (sym (within_deploy bytes barred.within) ∙ none))
barred_good bytes (statuses.BadSignals line kind) barred none = tt
barred_good bytes (statuses.TooLarge what) barred none = let never : ◌≡◌ {A = Option Status} (Some (statuses.TooLarge givens.Deploy)) None = sym (large_deploy bytes barred) ∙ none in absurd (cc)

pub tends_open : (words : List (List ℕ)) (task : Task) → Tends words task → Opens words
tends_open words tasks.Show tends = record { command = commands.Show; asks = tends; opening = tt }
tends_open words tasks.Compact tends = record { command = commands.Compact; asks = tends; opening = tt }

memory_task : IsGood statuses.NoMemory × IsTendedAt statuses.NoMemory
memory_task = (tt, tt)

pub complete_task : (words : List (List ℕ)) (deploy signals before after : Option (List ℕ)) (old new : DiskState) (status : Status) (Faulted : Type 0) → IsLegalRun words deploy signals before after old new status
    → (status ≡ statuses.ReadFault → Faulted) → (status ≡ statuses.WriteFault → Faulted) → (status ≡ statuses.DiskFault → Faulted) → IsCompleteTask words deploy old Faulted status
complete_task words None signals before after old new status Faulted r read write disk task tends told x is ok = tt
complete_task words (Some bytes) signals before after old new status Faulted r read write disk task tends told x is ok = λ accepted none.
    let same : r.stood ≡ status = (r.output.whole (λ e. none (write e))).0 in
    by same (memory_or r.stood) accepted none (r.given (tends_open words task tends))
  where
    found_ok : IsDocument (Some bytes) r.document → IsOk (found r.document old)
    found_ok document = subst (λ (y : Document). IsOk (found y old)) (one_document bytes x r.document is document) ok

    asked : IsTask task r.base r.generation (Some bytes) r.history r.text r.ended
    asked = r.run.tends task tends

    to_status : r.stood ≡ status → r.stood ≢ statuses.NoMemory → IsGood r.ended → IsGood status × IsTendedAt status
    to_status same more good = subst (λ (s : Status). IsGood s × IsTendedAt s) (sym (r.run.same more) ∙ same) (good, asked.comes)

    by : r.stood ≡ status → is_memory r.stood ⊎ (r.stood ≢ statuses.NoMemory) → refusal_of_deploy bytes ≡ None → (Faulted → ⊥)
        → IsDocument (Some bytes) r.document ⊎ IsBefore r.history old new r.ended → IsGood status × IsTendedAt status
    by same (inl out) accepted none given = subst (λ (s : Status). IsGood s × IsTendedAt s) (sym out ∙ same) memory_task
    by same (inr more) accepted none (inl document) =
        to_status same more
        (task_good (found r.document old) r.ended asked.comes (found_ok document) ((r.journal.met (tends_open words task tends)).opened told).answer
        (λ e. none (read (sym same ∙ r.run.same more ∙ e))) (λ e. none (disk (sym same ∙ r.run.same more ∙ e))) (barred_good bytes r.ended asked.barred accepted))
    by same (inr more) accepted none (inr unopened) =
        to_status same more
        (task_early r.ended asked.comes unopened.early (λ e. none (read (sym same ∙ r.run.same more ∙ e))) (barred_good bytes r.ended asked.barred accepted))

faulty_answer : (bytes : List ℕ) (fault : ReadFault) → IsFaulty bytes fault → IsAnswerFor bytes (statuses.BadDeploy fault)
faulty_answer bytes fault is = record {
  good = λ counts counted. absurd (let never : Err fault ≡ Ok counts = sym is.first ∙ counted.counted in cc);
  bad = λ other faulty. let one : ◌≡◌ {A = Result Counts ReadFault} (Err fault) (Err other) = sym is.first ∙ faulty.first in let same : fault ≡ other = cc in inl (ap statuses.BadDeploy same);
  large = λ more. absurd (omega (arith, more, is.within));
}

memory_answer : (bytes : List ℕ) → IsAnswerFor bytes statuses.NoMemory
memory_answer bytes = record { good = λ counts counted. inr refl; bad = λ fault faulty. inr refl; large = λ more. inr refl }

large_answer : (bytes : List ℕ) → deploy_limit < length bytes → IsAnswerFor bytes (statuses.TooLarge givens.Deploy)
large_answer bytes more = record {
  good = λ counts counted. absurd (omega (arith, more, counted.within));
  bad = λ fault faulty. absurd (omega (arith, more, faulty.within));
  large = λ more. inl refl;
}

-- a check that read its bytes gives the one answer to them, or memory ran out
answer : (bytes text : List ℕ) (stood : Status) → IsCheckedAt stood → IsTextFor (Some bytes) text stood → stood ≢ statuses.ReadFault → IsAnswerFor bytes stood
answer bytes text statuses.Ok comes is reads = record {
  good = λ counts counted. inl refl;
  bad = λ fault faulty. absurd (let never : Ok is.0 ≡ Err fault = sym is.2.counted ∙ faulty.first in cc);
  large = λ more. absurd (omega (arith, more, is.2.within));
}
answer bytes text statuses.BadWords comes is reads = absurd comes
answer bytes text statuses.ReadFault comes is reads = absurd (reads refl)
answer bytes text (statuses.BadDeploy fault) comes is reads = faulty_answer bytes fault is.1
answer bytes text (statuses.BadSignals line kind) comes is reads = absurd comes
answer bytes text statuses.WriteFault comes is reads = absurd comes
answer bytes text statuses.DiskFault comes is reads = absurd comes
answer bytes text (statuses.BadJournal side at kind) comes is reads = absurd comes
answer bytes text (statuses.OtherDeployment kept_len place) comes is reads = absurd comes
answer bytes text (statuses.Full size adding) comes is reads = absurd comes
answer bytes text (statuses.StepsSpent entries) comes is reads = absurd comes
answer bytes text statuses.NoMemory comes is reads = memory_answer bytes
answer bytes text (statuses.TooLarge givens.Deploy) comes is reads = large_answer bytes is.1
answer bytes text (statuses.TooLarge givens.Signals) comes is reads = absurd comes

-- and so do generated lines
pub read_counts : (bytes : List ℕ) (fault : ReadFault) (reading : Reading) → reading_of bytes ≡ Ok reading → counts_in bytes ≡ Err fault → ⊥
read_counts bytes fault reading read wrong = let never : Ok (counts_of reading.parts) ≡ Err fault = sym (ap counts_read read) ∙ counted_read bytes fault wrong in cc

lines_answer : (bytes text : List ℕ) (seed count : ℕ) (stood : Status) → IsCheckedAt stood → IsLinesFor seed count (Some bytes) text stood → stood ≢ statuses.ReadFault → IsAnswerFor bytes stood
lines_answer bytes text seed count statuses.Ok comes is reads = record {
  good = λ counts counted. inl refl;
  bad = λ fault faulty. absurd (read_counts bytes fault (read_as is.0) is.2.read faulty.first);
  large = λ more. absurd (omega (arith, more, is.2.within));
}
lines_answer bytes text seed count statuses.BadWords comes is reads = absurd comes
lines_answer bytes text seed count statuses.ReadFault comes is reads = absurd (reads refl)
lines_answer bytes text seed count (statuses.BadDeploy fault) comes is reads = faulty_answer bytes fault is.1
lines_answer bytes text seed count (statuses.BadSignals line kind) comes is reads = absurd comes
lines_answer bytes text seed count statuses.WriteFault comes is reads = absurd comes
lines_answer bytes text seed count statuses.DiskFault comes is reads = absurd comes
lines_answer bytes text seed count (statuses.BadJournal side at kind) comes is reads = absurd comes
lines_answer bytes text seed count (statuses.OtherDeployment kept_len place) comes is reads = absurd comes
lines_answer bytes text seed count (statuses.Full size adding) comes is reads = absurd comes
lines_answer bytes text seed count (statuses.StepsSpent entries) comes is reads = absurd comes
lines_answer bytes text seed count statuses.NoMemory comes is reads = memory_answer bytes
lines_answer bytes text seed count (statuses.TooLarge givens.Deploy) comes is reads = large_answer bytes is.1
lines_answer bytes text seed count (statuses.TooLarge givens.Signals) comes is reads = absurd comes

pub check_whole : (words : List (List ℕ)) (deploy signals before after : Option (List ℕ)) (old new : DiskState) (status : Status) (Faulted : Type 0) → IsLegalRun words deploy signals before after old new status
    → (status ≡ statuses.ReadFault → Faulted) → (status ≡ statuses.WriteFault → Faulted) → IsWholeCheck words deploy Faulted status
check_whole words None signals before after old new status Faulted r read write asked = tt
check_whole words (Some bytes) signals before after old new status Faulted r read write asked = λ none.
    let same : r.stood ≡ status = (r.output.whole (λ e. none (write e))).0 in
    by same (memory_or r.stood) none asked
  where
    by : r.stood ≡ status → is_memory r.stood ⊎ (r.stood ≢ statuses.NoMemory) → (Faulted → ⊥) → IsOfDeployment words → IsAnswerFor bytes status
    by same (inl out) none asked = subst (IsAnswerFor bytes) (sym out ∙ same) (memory_answer bytes)
    by same (inr more) none (inl checks) =
        subst (IsAnswerFor bytes) (sym (r.run.same more) ∙ same)
        (answer bytes r.text r.ended (r.run.checks checks).comes (r.run.checks checks).prints (λ e. none (read (sym same ∙ r.run.same more ∙ e))))
    by same (inr more) none (inr (seed, count, generates)) =
        subst (IsAnswerFor bytes) (sym (r.run.same more) ∙ same)
        (lines_answer bytes r.text seed count r.ended (r.run.generates seed count generates).comes (r.run.generates seed count generates).prints (λ e. none (read (sym same ∙ r.run.same more ∙ e))))
