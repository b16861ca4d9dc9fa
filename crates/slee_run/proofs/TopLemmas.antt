-- What the top call answers besides the run.
use Rattle.std.proofs.Common.{◌≡◌, ◌≢◌, ◌⊎◌, ◌<◌, ◌^◌, ◌&&◌, Bool, true, false, nat_le, arith, inl, inr, ℕ, List, refl, sym, ◌∙◌, ap, subst, is_some, Option, Some}
use Rattle.std.proofs.lemmas.Bool.{leb-true}
use Rattle.slee_disk.specs.Disk.{DiskState}
use Rattle.slee_container.specs.declared.container.Mode.{Mode}
use Rattle.slee_container.specs.declared.container.Mode.TheVariants as modes
use Rattle.slee_run.specs.Words.{command_of, is_seed_in_range, most_lines, most_seed}
use Rattle.slee_run.specs.Headline.{command_for, command_of_task, Plays, Opens, Reads, IsTendedAt, IsWritten}
use Rattle.slee_run.specs.Answers.{IsCheckedBy, IsFormOf, IsGeneratedBy, IsTaskBy}
use Rattle.slee_run.specs.Checking.{IsCheckedAt}
use Rattle.slee_run.specs.declared.command.Command.{Command}
use Rattle.slee_run.specs.declared.command.Command.TheVariants as commands
use Rattle.slee_run.specs.declared.running.Run.{Run}
use Rattle.slee_run.specs.declared.generating.Seeded.{Seeded}
use Rattle.slee_run.specs.declared.top.Form.TheVariants as forms
use Rattle.slee_run.specs.declared.status.Status.{Status}
use Rattle.slee_run.specs.declared.status.Status.TheVariants as statuses
use Rattle.slee_run.specs.declared.tending.Task.{Task}
use Rattle.slee_run.specs.declared.tending.Task.TheVariants as tasks
use Rattle.slee_run.proofs.RunLemmas.{no_play, tends_open}

-- a fault of reading is one of four
pub of_four : (A B C E : Type 0) → A ⊎ B → A ⊎ (B ⊎ (C ⊎ E))
of_four A B C E (inl a) = inl a
of_four A B C E (inr b) = inr (inl b)

-- ---- numbers in range

both : (x y : Bool) → (x && y) ≡ true → (x ≡ true) × (y ≡ true)
both true y is = (refl, is)
both false y is = absurd (cc)

pub small_seed : (seed count : ℕ) → is_seed_in_range seed count ≡ true → seed < 2 ^ 32
small_seed seed count is = omega (arith, leb-true seed most_seed (both (nat_le seed most_seed) (nat_le count most_lines) is).0)

pub few_lines : (seed count : ℕ) → is_seed_in_range seed count ≡ true → count < 2 ^ 32
few_lines seed count is = omega (arith, leb-true count most_lines (both (nat_le seed most_seed) (nat_le count most_lines) is).1)

-- ---- a status that stood, or writing failed

stood_is : (before after : Option (List ℕ)) (text : List ℕ) (stood status other : Status) → IsWritten before after text stood status → other ≢ statuses.WriteFault → status ≡ other → stood ≡ other
stood_is before after text stood status other w written is = (w.whole (λ e. written (sym is ∙ e))).0 ∙ is

pub refused : (before after : Option (List ℕ)) (text : List ℕ) (stood status other : Status) → IsWritten before after text stood status → other ≢ statuses.WriteFault → stood ≢ other → status ≡ other → ⊥
refused before after text stood status other w written never is = never (stood_is before after text stood status other w written is)

-- a check and what is generated come only to their statuses
pub check_comes : (told before after : Option (List ℕ)) (status other : Status) → IsCheckedBy told before after status → other ≢ statuses.WriteFault → status ≡ other → IsCheckedAt other
check_comes told before after status other c written is = subst IsCheckedAt (stood_is before after c.text c.stood status other c.output written is) c.check.comes

pub gen_comes : (seed count : ℕ) (told before after : Option (List ℕ)) (status other : Status) → IsGeneratedBy seed count told before after status → other ≢ statuses.WriteFault → status ≡ other → IsCheckedAt other
gen_comes seed count told before after status other c written is = subst IsCheckedAt (stood_is before after c.text c.stood status other c.output written is) c.lines.comes

pub task_comes : (task : Task) (told before after : Option (List ℕ)) (old new : DiskState) (status other : Status) → IsTaskBy task told before after old new status → other ≢ statuses.WriteFault → status ≡ other → IsTendedAt other
task_comes task told before after old new status other c written is = subst IsTendedAt (stood_is before after _ c.stood status other c.output written is) c.comes

-- ---- what the words ask, by the form

module _ (words : List (List ℕ)) (c : Command) (asks : command_of words ≡ Some c) where
  asked : (d : Command) → c ≡ d → command_of words ≡ Some d
  asked d is = asks ∙ ap (λ (e : Command). Some e) is

  pub play_asked : (run : Run) → IsFormOf c (forms.Play run) → Plays words run.mode run.steps
  play_asked run is = asked (command_for run.mode run.steps) is.0

  pub check_never : c ≡ commands.Check → (mode : Mode) (steps : ℕ) → Plays words mode steps → ⊥
  check_never is mode steps = no_play words commands.Check mode steps (asked commands.Check is) (λ e. cc) (λ e. cc)

  pub task_never : (task : Task) → c ≡ command_of_task task → (mode : Mode) (steps : ℕ) → Plays words mode steps → ⊥
  task_never tasks.Show is mode steps = no_play words commands.Show mode steps (asked commands.Show is) (λ e. cc) (λ e. cc)
  task_never tasks.Compact is mode steps = no_play words commands.Compact mode steps (asked commands.Compact is) (λ e. cc) (λ e. cc)

  pub gen_never : (s : Seeded) → IsFormOf c (forms.Gen s) → (mode : Mode) (steps : ℕ) → Plays words mode steps → ⊥
  gen_never s is mode steps = no_play words (commands.Gen s.seed s.count) mode steps (asked (commands.Gen s.seed s.count) is) (λ e. cc) (λ e. cc)

  pub trial_never : (s : Seeded) → IsFormOf c (forms.Trial s) → (mode : Mode) (steps : ℕ) → Plays words mode steps → ⊥
  trial_never s is mode steps = no_play words (commands.Trial s.seed s.count) mode steps (asked (commands.Trial s.seed s.count) is) (λ e. cc) (λ e. cc)

  pub reads : Reads words
  reads = ap is_some asks

  pub task_opens : (task : Task) → c ≡ command_of_task task → Opens words
  task_opens task is = tends_open words task (asked (command_of_task task) is)

  pub trial_opens : (s : Seeded) → IsFormOf c (forms.Trial s) → Opens words
  trial_opens s is = record { command = commands.Trial s.seed s.count; asks = asked (commands.Trial s.seed s.count) is; opening = tt }

  pub play_opens : (run : Run) → IsFormOf c (forms.Play run) → Opens words
  play_opens run is = by run.mode (asked (command_for run.mode run.steps) is.0)
    where
      by : (mode : Mode) → command_of words ≡ Some (command_for mode run.steps) → Opens words
      by modes.AllNew e = record { command = commands.Play 1 run.steps; asks = e; opening = tt }
      by modes.SkipTaken e = record { command = commands.Resume 1 run.steps; asks = e; opening = tt }
