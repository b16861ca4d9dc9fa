-- A run of several workers keeps the laws of runs, and is complete.
use Rattle.std.proofs.Common.{◌≡◌, ◌≢◌, ◌⊎◌, inl, inr, ℕ, Bool, true, false, is_some, List, refl, sym, ◌∙◌, ap, subst, Option, Some, None, IsOk, IsTrue, option_and_then}
use Rattle.slee_disk.specs.Causes.{Rose}
use Rattle.slee_disk.specs.Disk.{DiskState}
use Rattle.signal_script.specs.declared.signal.Signal.{Signal}
use Rattle.router_laws_restarts.specs.Orderly.{IsOrderly}
use Rattle.slee_container.specs.declared.container.Mode.{Mode}
use Rattle.slee_container.specs.declared.container.Mode.TheVariants as modes
use Rattle.slee_run.specs.Given.{Document, IsDocument, lines_in, refusal_of}
use Rattle.slee_run.specs.Headline.{EndsOn, IsBefore, IsComplete, IsCompleteTask, IsCompleteTrial, IsOfDeployment, IsOpening, IsWholeCheck, Opens, command_for, command_of_task, lines_of_run}
use Rattle.slee_run.specs.Many.{IsCompleteOfMany, IsCompleteRun, IsPlayedByMany, IsRunOfMany, crew_in, crew_of}
use Rattle.slee_run.specs.Words.{command_of}
use Rattle.slee_run.specs.declared.command.Command.{Command}
use Rattle.slee_run.specs.declared.command.Command.TheVariants as commands
use Rattle.slee_run.specs.Opening.{IsGood, found}
use Rattle.slee_run.specs.declared.many.Crew.{Crew}
use Rattle.slee_run.specs.declared.tending.Task.{Task}
use Rattle.slee_run.specs.declared.tending.Task.TheVariants as tasks
use Rattle.slee_run.specs.declared.status.Status.{Status}
use Rattle.slee_run.specs.declared.status.Status.TheVariants as statuses
use Rattle.slee_run.proofs.DeployLemmas.{one_document}
use Rattle.slee_run.proofs.OrderlyLemmas.{none_orderly, opened_orderly}
use Rattle.slee_run.proofs.RunLemmas.{ends_given, good, good_early, good_stood, memory_or}

module _ (mode : Mode) (steps : ℕ) (deploy signals before after : Option (List ℕ)) (old new : DiskState) (status : Status) (p : IsPlayedByMany mode steps deploy signals before after old new status) where
  together_orderly : IsTrue old.told → IsOrderly p.run.base p.run.history
  together_orderly told = by p.given
    where
      by : IsDocument deploy p.document ⊎ IsBefore p.run.history old new p.run.ended → IsOrderly p.run.base p.run.history
      by (inl document) = opened_orderly deploy p.document old p.run.base p.run.history p.run.ended document p.played.legal.legal (p.played.met.opened told)
      by (inr early) = none_orderly p.run.base p.run.history early.none

  -- the journal that was met is the one that is asked of
  good_together : (bytes : List ℕ) → deploy ≡ Some bytes → (x : Document) → IsDocument (Some bytes) x → IsTrue old.told → IsOk (found x old) → (lines : List Signal) → EndsOn p.run.base steps lines p.run.history p.run.ended
      → p.run.ended ≢ statuses.ReadFault → p.run.ended ≢ statuses.DiskFault → IsGood p.run.ended
  good_together bytes from x is told ok lines ends reads keeps = by p.given
    where
      by : IsDocument deploy p.document ⊎ IsBefore p.run.history old new p.run.ended → IsGood p.run.ended
      by (inr unopened) = good_early p.run.base steps lines p.run.history p.run.ended ends unopened.early reads
      by (inl document) =
          good p.run.base steps lines p.run.history (found p.document old) p.run.ended ends
          (subst (λ (y : Document). IsOk (found y old)) (one_document bytes x p.document is (subst (λ (d : Option (List ℕ)). IsDocument d p.document) from document)) ok) (p.played.met.opened told).answer reads keeps

pub run_of_many : (words : List (List ℕ)) (crew : Crew) (deploy signals before after : Option (List ℕ)) (old new : DiskState) (status : Status) → crew_in words ≡ Some crew
    → IsPlayedByMany crew.mode crew.steps deploy signals before after old new status → IsRunOfMany words deploy signals before after old new status
run_of_many words crew deploy signals before after old new status asks p =
    record { crew = crew; asks = asks; run = p; laws = λ told. together_orderly crew.mode crew.steps deploy signals before after old new status p told }

pub complete_together : (mode : Mode) (steps : ℕ) (deploy signals before after : Option (List ℕ)) (old new : DiskState) (status : Status) (Faulted : Type 0) → IsPlayedByMany mode steps deploy signals before after old new status
    → (status ≡ statuses.ReadFault → Faulted) → (status ≡ statuses.WriteFault → Faulted) → (status ≡ statuses.DiskFault → Faulted) → IsCompleteOfMany deploy signals old Faulted status
complete_together mode steps None signals before after old new status Faulted p read write disk told x is ok = tt
complete_together mode steps (Some bytes) None before after old new status Faulted p read write disk told x is ok = tt
complete_together mode steps (Some bytes) (Some text) before after old new status Faulted p read write disk told x is ok = λ accepted none.
    let same : p.run.stood ≡ status = (p.played.output.whole (λ e. none (write e))).0 in
    let ends = ends_given (refusal_of bytes text) _ p.comes accepted in
    subst IsGood same (good_stood p.run.ended p.run.stood p.played.same
    (λ other. good_together mode steps (Some bytes) (Some text) before after old new status p bytes refl x is told ok (lines_of_run mode p.run.base (lines_in text)) ends
    (λ e. none (read (sym same ∙ p.played.same other ∙ e))) (λ e. none (disk (sym same ∙ p.played.same other ∙ e))))
    (memory_or p.run.stood))

-- a fault of the disk was counted
pub together_failed : (mode : Mode) (steps : ℕ) (deploy signals before after : Option (List ℕ)) (old new : DiskState) (status : Status) → IsPlayedByMany mode steps deploy signals before after old new status
    → status ≡ statuses.DiskFault → Rose old.faults new.faults
together_failed mode steps deploy signals before after old new status p is =
    let stood : p.run.stood ≡ status = (p.played.output.whole (λ e. let never : statuses.DiskFault ≡ statuses.WriteFault = sym is ∙ e in cc)).0 in
    p.played.met.failed (sym (p.played.same (λ e. let never : statuses.NoMemory ≡ statuses.DiskFault = sym e ∙ (stood ∙ is) in cc)) ∙ (stood ∙ is))

pub many_failed : (words : List (List ℕ)) (deploy signals before after : Option (List ℕ)) (old new : DiskState) (status : Status) → IsRunOfMany words deploy signals before after old new status → status ≡ statuses.DiskFault → Rose old.faults new.faults
many_failed words deploy signals before after old new status r is = together_failed r.crew.mode r.crew.steps deploy signals before after old new status r.run is

-- ---- words of several workers ask for nothing else

no_crew : (crew : Crew) → None ≡ Some crew → ⊥
no_crew crew is = cc

pub some_asks : (asked : Option Crew) (crew : Crew) → Some crew ≡ asked → asked ≡ None → ⊥
some_asks asked crew some none = no_crew crew (sym none ∙ sym some)

pub none_asks : (asked : Option Crew) → None ≡ asked → is_some asked ≡ true → ⊥
none_asks asked none some = let never : ◌≡◌ {A = Bool} false true = ap is_some none ∙ some in cc

not_other : (words : List (List ℕ)) (crew : Crew) (c : Command) → crew_in words ≡ Some crew → crew_of c ≡ None → command_of words ≡ Some c → ⊥
not_other words crew c asks other is = no_crew crew (sym other ∙ (ap (option_and_then crew_of) (sym is) ∙ asks))

play_of_one : (mode : Mode) (steps : ℕ) → crew_of (command_for mode steps) ≡ None
play_of_one modes.AllNew steps = refl
play_of_one modes.SkipTaken steps = refl

task_of_one : (task : Task) → crew_of (command_of_task task) ≡ None
task_of_one tasks.Show = refl
task_of_one tasks.Compact = refl

pub complete_run : (words : List (List ℕ)) (deploy signals : Option (List ℕ)) (disk : DiskState) (Faulted : Type 0) (status : Status) (crew : Crew) → crew_in words ≡ Some crew → IsCompleteOfMany deploy signals disk Faulted status
    → IsCompleteRun words deploy signals disk Faulted status
complete_run words deploy signals disk Faulted status crew asks complete = record {
  plays = λ mode steps is. absurd (not_other words crew (command_for mode steps) asks (play_of_one mode steps) is);
  several = λ some. complete;
  tries = λ seed count is. absurd (not_other words crew (commands.Trial seed count) asks refl is);
  tends = λ task is. absurd (not_other words crew (command_of_task task) asks (task_of_one task) is);
  checks = λ is. absurd (by is);
}
  where
    by : IsOfDeployment words → ⊥
    by (inl is) = not_other words crew commands.Check asks refl is
    by (inr is) = not_other words crew (commands.Gen is.0 is.1) asks refl is.2

pub complete_one : (words : List (List ℕ)) (deploy signals : Option (List ℕ)) (disk : DiskState) (Faulted : Type 0) (status : Status) → crew_in words ≡ None
    → IsComplete words deploy signals disk Faulted status → IsCompleteTrial words deploy disk Faulted status → IsCompleteTask words deploy disk Faulted status → IsWholeCheck words deploy Faulted status
    → IsCompleteRun words deploy signals disk Faulted status
complete_one words deploy signals disk Faulted status one plays tries tends checks = record {
  plays = plays;
  several = λ some. absurd (none_asks (crew_in words) (sym one) some);
  tries = tries;
  tends = tends;
  checks = checks;
}

-- words of several workers open the journal
opening_of : (c : Command) (crew : Crew) → crew_of c ≡ Some crew → IsOpening c
opening_of commands.Check crew is = absurd (no_crew crew is)
opening_of (commands.Play workers steps) crew is = tt
opening_of (commands.Resume workers steps) crew is = tt
opening_of commands.Show crew is = absurd (no_crew crew is)
opening_of commands.Compact crew is = absurd (no_crew crew is)
opening_of (commands.Gen seed count) crew is = absurd (no_crew crew is)
opening_of (commands.Trial seed count) crew is = absurd (no_crew crew is)

pub crew_opens : (words : List (List ℕ)) (crew : Crew) → crew_in words ≡ Some crew → Opens words
crew_opens words crew asks = by (command_of words) refl
  where
    by : (o : Option Command) → command_of words ≡ o → Opens words
    by None e = absurd (no_crew crew (ap (option_and_then crew_of) (sym e) ∙ asks))
    by (Some c) e = record { command = c; asks = e; opening = opening_of c crew (ap (option_and_then crew_of) (sym e) ∙ asks) }
