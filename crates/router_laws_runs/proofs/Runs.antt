-- A legal history over a well-formed state of a deployment that was read is a run: all that the laws ask besides follows.
use Rattle.std.proofs.Common.{List, [], subst, sym, ◌∷◌}
use Rattle.std.proofs.lemmas.Bool.{and_parts}
use Rattle.std.specs.Prelude.{nat_lt}
use Rattle.deploy_model.specs.Deployed.{Deployed}
use Rattle.router_laws.proofs.KeptLemmas.{same_after}
use Rattle.router_laws_runs.proofs.About.{choice_about}
use Rattle.router_laws_runs.proofs.Rooms.{choice_can}
use Rattle.router_laws_runs.proofs.Signals.{choice_read}
use Rattle.router_laws_runs.specs.AsRead.{IsAsRead}
use Rattle.router_laws_sound.specs.Rooms.{HasRoom}
use Rattle.router_laws_steps.proofs.WholeSteps.{well_after}
use Rattle.router_laws_steps.specs.About.{AreAbout, IsRun}
use Rattle.router_laws_steps.specs.Reads.{AreRead}
use Rattle.router_laws_steps.specs.Steps.{CanStep}
use Rattle.router_state.specs.State.{State}
use Rattle.router_state.specs.Well.{IsSound, IsWell}
use Rattle.router_steps.specs.Histories.{Legal, replay}
use Rattle.router_steps.specs.Steps.{after}
use Rattle.script_types.specs.Program.{Program}
use Rattle.trace_history.specs.declared.choice.Choice.{Choice}
use Rattle.trace_history.specs.declared.entry.Entry.{Entry}

pub same_read : (s : State) (c : Choice) → IsAsRead s.deployment s.program → IsAsRead (after s c).deployment (after s c).program
same_read s c read =
    let same = same_after s c in
    subst (λ (d : Deployed). IsAsRead d (after s c).program) (sym same.0) (subst (λ (p : Program). IsAsRead s.deployment p) (sym same.1) read)

-- a choice of a legal history can be made
pub legal_can : (s : State) (e : Entry) (es : List Entry) → IsSound s → IsAsRead s.deployment s.program → Legal s (e ∷ es) → CanStep s e.choice
legal_can s e es sound read legal = choice_can s e.choice sound read.deployed read.programmed legal.1 (choice_read e.choice legal.0)

pub legal_well : (s : State) (h : List Entry) → IsWell s → IsAsRead s.deployment s.program → Legal s h → IsWell (replay s h)
legal_well s [] well read legal = well
legal_well s (e ∷ es) well read legal =
    legal_well (after s e.choice) es (well_after s e.choice well.sound read.deployed (legal_can s e es well.sound read legal)) (same_read s e.choice read) legal.3

pub legal_as_read : (s : State) (h : List Entry) → IsAsRead s.deployment s.program → IsAsRead (replay s h).deployment (replay s h).program
legal_as_read s [] read = read
legal_as_read s (e ∷ es) read = legal_as_read (after s e.choice) es (same_read s e.choice read)

legal_read : (s : State) (h : List Entry) → Legal s h → AreRead h
legal_read s [] legal = tt
legal_read s (e ∷ es) legal = (choice_read e.choice legal.0, legal_read (after s e.choice) es legal.3)

legal_about : (s : State) (h : List Entry) → IsAsRead s.deployment s.program → Legal s h → AreAbout s h
legal_about s [] read legal = tt
legal_about s (e ∷ es) read legal = (choice_about s e.choice read legal.1, legal_about (after s e.choice) es (same_read s e.choice read) legal.3)

pub sound_room : (s : State) → IsSound s → HasRoom s
sound_room s sound = record {
  entity = (and_parts (nat_lt 0 s.next_entity) _ sound.next_entity).1;
  activity = (and_parts (nat_lt 0 s.next_activity) _ sound.next_activity).1;
  timer = (and_parts (nat_lt 0 s.next_timer) _ sound.next_timer).1;
  event = (and_parts (nat_lt 0 s.next_event) _ sound.next_event).1;
}

pub legal_is_run : (s : State) (h : List Entry) → IsWell s → IsAsRead s.deployment s.program → Legal s h → IsRun s h
legal_is_run s h well read legal =
    let end = (legal_well s h well read legal).sound in
    record {
      well = well;
      deployed = read.deployed;
      words = read.words;
      legal = legal;
      read = legal_read s h legal;
      about = legal_about s h read legal;
      room = sound_room (replay s h) end;
      count = end.inputs;
    }
