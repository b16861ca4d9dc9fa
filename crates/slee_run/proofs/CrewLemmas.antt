-- The workers that words ask for, where they are several.
use Rattle.std.proofs.Common.{◌≡◌, inl, inr, ℕ, ◌==◌, ◌&&◌, nat_le, if◌then◌else◌, true, ap, arith, refl, subst, sym, ◌∙◌, List, Option, Some, None, option_and_then}
use Rattle.std.proofs.lemmas.Bool.{and_parts, cases_Bool, eqb-true, leb-true}
use Rattle.slee_container.specs.declared.container.Mode.{Mode}
use Rattle.slee_container.specs.declared.container.Mode.TheVariants as modes
use Rattle.slee_run.specs.Words.{command_of, is_in_range, is_run_in_range, most_steps, most_workers}
use Rattle.slee_run.specs.Answers.{IsFormOf}
use Rattle.slee_run.specs.Headline.{command_for}
use Rattle.slee_run.specs.Many.{IsCrew, crew_in, crew_of, several}
use Rattle.slee_run.specs.declared.command.Command.{Command}
use Rattle.slee_run.specs.declared.command.Command.TheVariants as commands
use Rattle.slee_run.specs.declared.finishing.Report.TheVariants as reports
use Rattle.slee_run.specs.declared.many.Crew.{Crew}
use Rattle.slee_run.specs.declared.running.Run.{Run}
use Rattle.slee_run.specs.declared.top.Form.TheVariants as forms

ranged : (mode : Mode) (workers steps : ℕ) (crew : Crew) → is_run_in_range workers steps ≡ true → (if workers == 1 then None else Some (record { workers = workers; mode = mode; steps = steps })) ≡ Some crew → IsCrew crew
ranged mode workers steps crew range is = elim (cases_Bool (workers == 1)) [
  | inl one ↦ absurd (let never : ◌≡◌ {A = Option Crew} None (Some crew) = rw one at is in cc)
  | inr more ↦
      let parts = and_parts (nat_le 1 workers && nat_le workers most_workers) (nat_le 1 steps && nat_le steps most_steps) range in
      let hands = and_parts (nat_le 1 workers) (nat_le workers most_workers) parts.0 in
      let entries = and_parts (nat_le 1 steps) (nat_le steps most_steps) parts.1 in
      let it : ◌≡◌ {A = Option Crew} (Some (record { workers = workers; mode = mode; steps = steps })) (Some crew) = rw more at is in
      let same : record { workers = workers; mode = mode; steps = steps } ≡ crew = cc in
      subst IsCrew same (record { some = omega (arith, leb-true 1 workers hands.0); few = leb-true workers most_workers hands.1; steps = omega (arith, leb-true 1 steps entries.0) })
]

no_crew : (crew : Crew) → None ≡ Some crew → ⊥
no_crew crew is = cc

pub crew_ranges : (c : Command) (crew : Crew) → is_in_range c ≡ true → crew_of c ≡ Some crew → IsCrew crew
crew_ranges commands.Check crew range is = absurd (no_crew crew is)
crew_ranges (commands.Play workers steps) crew range is = ranged modes.AllNew workers steps crew range is
crew_ranges (commands.Resume workers steps) crew range is = ranged modes.SkipTaken workers steps crew range is
crew_ranges commands.Show crew range is = absurd (no_crew crew is)
crew_ranges commands.Compact crew range is = absurd (no_crew crew is)
crew_ranges (commands.Gen seed count) crew range is = absurd (no_crew crew is)
crew_ranges (commands.Trial seed count) crew range is = absurd (no_crew crew is)

-- ---- words of one worker

pub one_worker : (mode : Mode) (workers steps : ℕ) → several mode workers steps ≡ None → workers ≡ 1
one_worker mode workers steps none = elim (cases_Bool (workers == 1)) [
  | inl one ↦ eqb-true workers 1 one
  | inr more ↦ absurd (let never : ◌≡◌ {A = Option Crew} (Some (record { workers = workers; mode = mode; steps = steps })) None = rw more at none in cc)
]

pub one_asked : (words : List (List ℕ)) (c : Command) → command_of words ≡ Some c → crew_in words ≡ None → crew_of c ≡ None
one_asked words c asks one = ap (option_and_then crew_of) (sym asks) ∙ one

played : (c : Command) (mode : Mode) (steps : ℕ) (run : Run) → c ≡ command_for mode steps → run ≡ record { mode = mode; steps = steps; report = reports.Trace } → IsFormOf c (forms.Play run)
played c mode steps run is made = subst (λ (r : Run). IsFormOf c (forms.Play r)) (sym made) (is, refl)

pub one_play : (c : Command) (workers steps : ℕ) (run : Run) → c ≡ commands.Play workers steps → crew_of c ≡ None → run ≡ record { mode = modes.AllNew; steps = steps; report = reports.Trace } → IsFormOf c (forms.Play run)
one_play c workers steps run is one made =
    played c modes.AllNew steps run (is ∙ ap (λ (n : ℕ). commands.Play n steps) (one_worker modes.AllNew workers steps (ap crew_of (sym is) ∙ one))) made

pub one_resume : (c : Command) (workers steps : ℕ) (run : Run) → c ≡ commands.Resume workers steps → crew_of c ≡ None → run ≡ record { mode = modes.SkipTaken; steps = steps; report = reports.Trace } → IsFormOf c (forms.Play run)
one_resume c workers steps run is one made =
    played c modes.SkipTaken steps run (is ∙ ap (λ (n : ℕ). commands.Resume n steps) (one_worker modes.SkipTaken workers steps (ap crew_of (sym is) ∙ one))) made
