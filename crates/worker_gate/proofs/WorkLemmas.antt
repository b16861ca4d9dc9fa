-- What a turn does to a worker's pass.
use Rattle.std.proofs.Common.{◌≡◌, Bool, true, List, [], ◌++◌, refl, sym, ◌∙◌, ap, subst, inl, inr, append-nil, append_assoc, is_some, Result, Ok, ⊎_elim}
use mathlib.Core.List.{IsPrefix}
use Rattle.script_types.specs.Program.{Program}
use Rattle.script_types.specs.ProgramOf.{kept_program}
use Rattle.slee_descriptor.specs.declared.deployment.Deployment.{Deployment}
use Rattle.deploy_json.specs.Checking.{Reading, read_as, reading_of}
use Rattle.deploy_json.specs.declared.fault.ReadFault.{ReadFault}
use Rattle.atomic_table.specs.Seated.{TableId}
use Rattle.trace_history.specs.Histories.{choices_of}
use Rattle.trace_history.specs.declared.choice.Choice.{Choice}
use Rattle.router_state.specs.State.{State}
use Rattle.slee_turn.specs.Setups.{Setup}
use Rattle.slee_turn.specs.Passes.{HasTaken, IsFreeOf, PassView, given}
use Rattle.slee_container.specs.Container.{TakesLines, View}
use Rattle.slee_container.specs.Turns.{AreOfRun, IsDocumented, setup_told}
use Rattle.worker_gate.specs.Hands.{IsInHand}
use Rattle.worker_gate.specs.Moves.{ComesTo, GoesOn, IsOver}
use Rattle.worker_gate.specs.Works.{IsLater, IsServed, TurnsTo}
use Rattle.worker_gate.specs.declared.hand.Moved.{Moved}
use Rattle.worker_gate.specs.declared.hand.Moved.TheVariants as moves

same_reading : (x y : Reading) (r s : Result Reading ReadFault) → r ≡ Ok x → s ≡ Ok y → r ≡ s → x ≡ y
same_reading x y r s p q e = ap value_or (sym p ∙ (e ∙ q))
  where
    value_or : Result Reading ReadFault → Reading
    value_or (Ok z) = z
    value_or other = x

module _ {D : Type 0} where
  abbrev history_in : View D → List Choice
  history_in v = choices_of v.history

  abbrev setup_in : View D → Setup
  setup_in v = setup_told v.setup

  -- a container of the setup runs the deployment's program
  pub program_served : (v : View D) (setup : Setup) (d : Deployment) → setup_in v ≡ setup → IsDocumented v.setup.origin → IsServed setup d → kept_program d.codes ≡ v.setup.origin.initial.program
  program_served v setup d same document served =
      let bytes : v.setup.origin.deployment ≡ setup.deployment = ap (λ s. s.deployment) same in
      let read : read_as d ≡ read_as document.deployment = same_reading (read_as d) (read_as document.deployment) (reading_of setup.deployment) (reading_of v.setup.origin.deployment) served.read document.read (ap reading_of (sym bytes)) in
      ap (λ r. r.program) read ∙ ap (λ (s : State). s.program) document.first

  -- the pass that took a container, played, and gave it back
  pub later : (table : TableId) (before taken after : PassView) (old new : View D) (stopped : Bool) → IsFreeOf table before → HasTaken setup_in history_in before old taken → GoesOn old new
      → after ≡ given setup_in history_in taken new stopped → IsLater before after
  later table before taken after old new stopped free has goes is =
      let begun = ap (λ p. p.known) has.pass in
      record {
        table = ap (λ p. p.table) is ∙ ap (λ p. p.table) has.pass;
        phase = ap (λ p. p.known.phase) is ∙ sym free.1;
        number = ap (λ p. p.known.number) is ∙ ap (λ k. k.number) begun;
        setup = ap (λ p. p.known.setup) is ∙ ap (λ k. k.setup) begun;
        seen = subst (IsPrefix before.known.seen) (ap (λ p. p.known.seen) (sym is)) (along before.known.seen (history_in old) (history_in new) has.continues.seen goes.history);
      }
    where
      along : (xs ys zs : List Choice) → IsPrefix xs ys → IsPrefix ys zs → IsPrefix xs zs
      along xs ys zs p q = (p.0 ++ q.0, sym (append_assoc xs p.0 q.0) ∙ (ap (λ l. l ++ q.0) p.1 ∙ q.1))

  -- what may be given back
  pub may_give : (before taken : PassView) (old new : View D) → HasTaken setup_in history_in before old taken → GoesOn old new → (setup_in new ≡ taken.known.setup) × IsPrefix taken.known.seen (history_in new)
  may_give before taken old new has goes = (
    ap setup_told goes.setup ∙ (has.continues.setup ∙ sym (ap (λ p. p.known.setup) has.pass)),
    subst (λ l. IsPrefix l (history_in new)) (sym (ap (λ p. p.known.seen) has.pass)) goes.history,
  )

  -- what a turn comes to, as its pass shows it
  pub turns_to : (program : Program) (before taken after : PassView) (old new : View D) (moved : Moved) → program ≡ new.setup.origin.initial.program
      → HasTaken setup_in history_in before old taken → GoesOn old new → after ≡ given setup_in history_in taken new (is_some new.stop)
      → TakesLines new.setup.lines new.setup.skipped new.history new.taken → AreOfRun new.setup new.history new.taken new.stop → ComesTo new moved → TurnsTo D program after moved
  turns_to program before taken after old new (moves.Goes held) same has goes is lines run comes = subst (λ (p : Program). IsInHand p held) (sym same) comes
  turns_to program before taken after old new moves.Waits same has goes is lines run comes = tt
  turns_to program before taken after old new moves.NoMemory same has goes is lines run comes = tt
  turns_to program before taken after old new moves.Leaves same has goes is lines run comes = ⊎_elim
      (λ (stopped : is_some new.stop ≡ true). inl (ap (λ p. p.stopped) is ∙ stopped))
      (λ (over : IsOver new). inr record {
        container = new;
        setup = ap setup_told goes.setup ∙ (has.continues.setup ∙ (sym (ap (λ p. p.known.setup) has.pass) ∙ sym (ap (λ p. p.known.setup) is)));
        history = sym (ap (λ p. p.known.seen) is);
        lines = lines;
        run = run;
        over = over;
      })
      comes

pub later_itself : (a : PassView) → IsLater a a
later_itself a = record { table = refl; phase = refl; number = refl; setup = refl; seen = ([], append-nil a.known.seen) }

-- a later pass is later still
pub later_still : (a b c : PassView) → IsLater a b → IsLater b c → IsLater a c
later_still a b c one two = record {
  table = two.table ∙ one.table;
  phase = two.phase ∙ one.phase;
  number = two.number ∙ one.number;
  setup = two.setup ∙ one.setup;
  seen = (one.seen.0 ++ two.seen.0, sym (append_assoc a.known.seen one.seen.0 two.seen.0) ∙ (ap (λ l. l ++ two.seen.0) one.seen.1 ∙ two.seen.1));
}
