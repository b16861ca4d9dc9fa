-- A container that comes out of the turn: what is known of it by that which went in.
use Rattle.std.proofs.Common.{◌≡◌, ℕ, ◌<◌, ◌≤◌, Bool, true, false, if◌then◌else◌, IsTrue, List, [], ◌∷◌, ◌++◌, length, take, drop, append_assoc, refl, sym, ◌∙◌, ap, subst, arith, Option, Some, Ok}
use Rattle.std.proofs.lemmas.List.{take-append-drop}
use Rattle.std.specs.List.{list_all}
use Rattle.signal_script.specs.Signals.{is_signal}
use Rattle.signal_script.specs.declared.signal.Signal.{Signal}
use Rattle.slee_disk.specs.Disk.{DiskState}
use Rattle.commit_journal.specs.Journal.{payloads_on}
use Rattle.deploy_json.specs.Checking.{read_as, reading_of}
use Rattle.slee_turn.specs.Setups.{Setup as Told}
use Rattle.router_state.specs.State.{State}
use Rattle.router_state.specs.Restoring.{state_of_snapshot}
use Rattle.router_durable.specs.Anew.{size_anew}
use Rattle.router_durable.specs.Choices.{after_all, written_format}
use Rattle.router_durable.specs.Core.{IsHeld}
use Rattle.router_durable.specs.Facts.{Origin, base_of, snapshot_on}
use Rattle.router_durable.specs.Recovery.{choices_in}
use Rattle.slee_container.specs.Container.{View, held_in}
use Rattle.slee_container.specs.Turns.{AreOfRun, setup_told, side_told}
use Rattle.slee_container.specs.declared.container.Mode.{Mode}
use Rattle.slee_container.specs.declared.container.Mode.TheVariants as modes
use Rattle.slee_run.specs.Given.{Document}
use Rattle.slee_run.specs.Headline.{lines_of_run}
use Rattle.slee_run.specs.Opening.{journal_limit}
use Rattle.slee_run.specs.Stops.{left_on}
use Rattle.slee_run.proofs.DeployLemmas.{one_start}
use Rattle.slee_run.proofs.JournalLemmas.{GoesOver}
use Rattle.slee_run.proofs.ToldLemmas.{all_behind, same_inputs, same_lines}

-- ---- what is told of the side that counts

told_by : (b c : Bool) (x y : List ℕ) → (if b then x else []) ≡ (if c then y else []) → c ≡ true → 0 < length y → b ≡ true
told_by true c x y is told some = refl
told_by false true x y is told some = absurd (omega (arith, some, ap length is))
told_by false false x y is told some = absurd (cc)

counting_by : (b c : Bool) (x y : List ℕ) → (if b then x else []) ≡ (if c then y else []) → b ≡ true → c ≡ true → x ≡ y
counting_by true true x y is one two = is
counting_by true false x y is one two = absurd (cc)
counting_by false c x y is one two = absurd (cc)

one_some : (x y : State) (r : Option State) → r ≡ Some x → r ≡ Some y → x ≡ y
one_some x y r one two = cc (sym one ∙ two)

-- ---- lines

cancel : (xs a b : List Signal) → xs ++ a ≡ xs ++ b → a ≡ b
cancel [] a b is = is
cancel (x ∷ xs) a b is = cancel xs a b (let tails : xs ++ a ≡ xs ++ b = cc in tails)

-- the lines that were taken behind those that were skipped, and those that are left
pub rest_of : (lines ins : List Signal) (skipped taken : ℕ) → take skipped lines ++ ins ≡ take taken lines → ins ++ drop taken lines ≡ drop skipped lines
rest_of lines ins skipped taken is =
    cancel (take skipped lines) (ins ++ drop taken lines) (drop skipped lines)
    (sym (append_assoc (take skipped lines) ins (drop taken lines)) ∙ (ap (λ (l : List Signal). l ++ drop taken lines) is ∙ (take-append-drop taken lines ∙ sym (take-append-drop skipped lines))))

same_run : (mode : Mode) (base other : State) (lines : List Signal) → base.inputs ≡ other.inputs → lines_of_run mode base lines ≡ lines_of_run mode other lines
same_run modes.AllNew base other lines is = refl
same_run modes.SkipTaken base other lines is = ap (λ (n : ℕ). drop n lines) is

module _ {D : Type 0} (before now : DiskState) (first last : View D) (told : setup_told last.setup ≡ setup_told first.setup)
    (held_first : IsHeld before (held_in first)) (held_last : IsHeld now (held_in last))
    (run_first : AreOfRun first.setup first.history first.taken first.stop) (run_last : AreOfRun last.setup last.history last.taken last.stop) where
  abbrev from : Origin
  from = first.setup.origin

  abbrev to : Origin
  to = last.setup.origin

  deployed : to.deployment ≡ from.deployment
  deployed = ap (λ (s : Told). s.deployment) told

  side : side_told to ≡ side_told from
  side = ap (λ (s : Told). s.side) told

  pub same_steps : last.setup.steps ≡ first.setup.steps
  same_steps = ap (λ (s : Told). s.steps) told

  pub same_limit : last.setup.journal ≡ first.setup.journal
  same_limit = ap (λ (s : Told). s.journal) told

  initial : to.initial ≡ from.initial
  initial =
      sym run_last.document.first
      ∙ one_start from.deployment run_last.document.deployment run_first.document.deployment (subst (λ (b : List ℕ). reading_of b ≡ Ok (read_as run_last.document.deployment)) deployed run_last.document.read) run_first.document.read
      ∙ run_first.document.first

  long : IsTrue from.told → 0 < length from.counting
  long is = omega (arith, held_first.sized is)

  tells : IsTrue from.told → IsTrue to.told
  tells is = told_by to.told from.told to.counting from.counting side is (long is)

  counting : IsTrue from.told → to.counting ≡ from.counting
  counting is = counting_by to.told from.told to.counting from.counting side (tells is) is

  found : IsTrue from.told → to.found ≡ from.found
  found is = sym (held_last.counted (tells is)) ∙ (ap payloads_on (counting is) ∙ held_first.counted is)

  snapshot : IsTrue from.told → to.snapshot ≡ from.snapshot
  snapshot is = sym (held_last.text (tells is)) ∙ (ap snapshot_on (counting is) ∙ held_first.text is)

  stood : State → List ℕ → Option State
  stood s text = state_of_snapshot written_format s.deployment s.program text

  start : IsTrue from.told → to.start ≡ from.start
  start is =
      one_some to.start from.start (state_of_snapshot written_format to.initial.deployment to.initial.program to.snapshot) held_last.based
      (ap (λ (s : State). state_of_snapshot written_format s.deployment s.program to.snapshot) initial
      ∙ (ap (λ (text : List ℕ). state_of_snapshot written_format from.initial.deployment from.initial.program text) (snapshot is) ∙ held_first.based))

  base : IsTrue from.told → base_of to ≡ base_of from
  base is = ap (λ (s : State). after_all s (choices_in written_format to.found)) (start is) ∙ ap (λ (ps : List (List ℕ)). after_all from.start (choices_in written_format ps)) (found is)

  -- the origin of what came out is over the same as that of what went in
  pub over : (x : Document) (old : DiskState) → GoesOver x old from → 0 < first.setup.steps → GoesOver x old to
  over x old g some = record {
    told = λ is. tells (g.told is);
    clean = λ is. subst IsTrue (sym (ap (λ (s : Told). s.clean) told)) (g.clean is);
    whole = run_last.whole (omega (arith, some, same_steps));
    moment = ap (λ (s : Told). s.moment) told ∙ g.moment;
    faults = ap (λ (s : Told). s.faults) told ∙ g.faults;
    initial = initial ∙ g.initial;
    deployed = deployed ∙ g.deployed;
    base = λ is. g.base is ∙ ap (λ (s : State). Ok s) (sym (base (g.told is)));
    before = λ is. ap (λ (s : Told). s.records) told ∙ g.before is;
    found = λ is. found (g.told is) ∙ (g.found is ∙ ap (λ (s : State). (left_on x old s).payloads) (sym (base (g.told is))));
    snapshot = λ is. snapshot (g.told is) ∙ (g.snapshot is ∙ ap (λ (s : State). (left_on x old s).head.snapshot) (sym (base (g.told is))));
    fits = λ is anew. subst (λ (s : State). size_anew x.bytes s ≤ journal_limit) (sym (base (g.told is))) (g.fits is anew);
  }

  -- its lines are the same, but for those that were skipped
  pub lines : IsTrue (list_all is_signal first.setup.lines) → IsTrue (list_all is_signal last.setup.lines) → drop last.setup.skipped last.setup.lines ≡ drop first.setup.skipped first.setup.lines
  lines valid other =
      same_lines (drop last.setup.skipped last.setup.lines) (drop first.setup.skipped first.setup.lines) (all_behind last.setup.skipped last.setup.lines other) (all_behind first.setup.skipped first.setup.lines valid)
      (ap (λ (s : Told). s.lines) told)

  pub same_run_lines : (mode : Mode) (all : List Signal) → lines_of_run mode (base_of from) all ≡ lines_of_run mode (base_of to) all
  same_run_lines mode all = same_run mode (base_of from) (base_of to) all (sym (same_inputs (base_of to) (base_of from) run_last.counted run_first.counted (ap (λ (s : Told). s.base) told)))
