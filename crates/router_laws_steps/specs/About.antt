-- What is asked besides so that what lines say of a history is what happened.
use Rattle.std.specs.Prelude.{List, [], true, ℕ, ◌∷◌, ◌≡◌, is_some}
use Rattle.deploy_model.specs.Deployed.{Deployed}
use Rattle.router_laws_histories.specs.Words.{IsWord}
use Rattle.router_laws_sound.specs.Rooms.{HasRoom, IsDeployed}
use Rattle.router_laws_steps.specs.Reads.{AreRead}
use Rattle.router_state.specs.Fits.{is_u64}
use Rattle.router_state.specs.State.{State}
use Rattle.router_state.specs.Well.{IsWell}
use Rattle.router_steps.specs.Histories.{Legal, replay}
use Rattle.router_steps.specs.Steps.{after, subject_of}
use Rattle.script_types.specs.Codes.{named}
use Rattle.script_types.specs.declared.codes.EventCode.{EventCode}
use Rattle.trace_history.specs.declared.entry.Entry.{Entry}

-- the names of declared events are words
pub record AreWords (d : Deployed) : Type 0 where
  pub declared : (name : List ℕ) → is_some (named (λ (e : EventCode). e.name) name d.events) ≡ true → IsWord name

-- each choice of the history is about something: a delivery comes to an outcome
abbrev pub AreAbout : State → List Entry → Type 0
AreAbout s [] = Unit {0}
AreAbout s (e ∷ es) = (is_some (subject_of s e.choice) ≡ true) × AreAbout (after s e.choice) es

-- A run: a legal history over a well-formed state, of a deployment that is as it should be, whose lines were read and whose
-- deliveries come to outcomes; at its end the numbers that come next and the count of lines have 64 bits.
pub record IsRun (s : State) (h : List Entry) : Type 0 where
  pub well : IsWell s
  pub deployed : IsDeployed s.deployment
  pub words : AreWords s.deployment
  pub legal : Legal s h
  pub read : AreRead h
  pub about : AreAbout s h
  pub room : HasRoom (replay s h)
  pub count : is_u64 (replay s h).inputs ≡ true
