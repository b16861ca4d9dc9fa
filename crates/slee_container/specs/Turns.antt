-- What is true of each run of a container, and a run as plain data, by which those who take turns tell whether a container is of their run.
use Rattle.std.specs.Prelude.{◌≡◌, ◌⊎◌, ℕ, ◌≤◌, ◌<◌, ◌^◌, if◌then◌else◌, IsTrue, false, List, [], ◌∷◌, ◌++◌, drop, flat_map, length, Option, Some, Ok}
use mathlib.Core.List.{IsPrefix}
use Rattle.signal_script.specs.declared.signal.Signal.{Signal}
use Rattle.signal_script.specs.Signals.{spelled}
use Rattle.slee_descriptor.specs.declared.deployment.Deployment.{Deployment}
use Rattle.deploy_json.specs.Checking.{read_as, reading_of}
use Rattle.trace_history.specs.Histories.{input_of}
use Rattle.trace_history.specs.declared.choice.Choice.{Choice}
use Rattle.trace_history.specs.declared.entry.Entry.{Entry}
use Rattle.router_state.specs.Snapshot.{spelled_state}
use Rattle.router_durable.specs.Core.{Held}
use Rattle.router_durable.specs.Facts.{IsFullFor, Origin, base_of, initial_of, size_after}
use Rattle.router_durable.specs.declared.fault.Stop.{Stop}
use Rattle.router_durable.specs.declared.fault.Stop.TheVariants as stops
use Rattle.slee_turn.specs.Setups.{Setup as Told}
use Rattle.slee_container.specs.Container.{Setup}

-- what a run was given over a router, with these lines, of which so many were skipped, and so many entries at most
abbrev pub setup_over : {D : Type 0} → Held D → List Signal → ℕ → ℕ → Setup
setup_over h lines skipped steps = record { origin = h.origin; lines = lines; skipped = skipped; journal = h.limit; steps = steps }

-- the document of a run is read as a deployment, whose first state the run's is
pub record IsDocumented (o : Origin) : Type 0 where
  pub deployment : Deployment
  pub read : reading_of o.deployment ≡ Ok (read_as deployment)
  pub first : initial_of deployment.parts deployment.codes ≡ o.initial

-- A record had no room: that of the next line, or of a choice that takes no line.
pub record IsFullNext (s : Setup) (history : List Entry) (taken size adding : ℕ) : Type 0 where
  pub fewer : length history < s.steps
  pub choice : Choice
  pub full : IsFullFor s.origin s.journal history choice size adding
  pub next : IsPrefix (input_of choice) (drop taken s.lines)

-- What is true of each run besides, whatever was done: its history, how many lines were taken, and how it is stopped are of its setup.
pub record AreOfRun (s : Setup) (history : List Entry) (taken : ℕ) (stop : Option Stop) : Type 0 where
  pub document : IsDocumented s.origin
  pub counted : (base_of s.origin).inputs < 2 ^ 64
  -- a run that may have entries is over a journal whose compaction didn't fail
  pub whole : 0 < s.steps → s.origin.torn ≡ false
  pub few : length history ≤ s.steps
  -- each entry that was made had room
  pub room : IsTrue s.origin.told → (history ≡ []) ⊎ (size_after s.origin history ≤ s.journal)
  pub full : (size adding : ℕ) → stop ≡ Some (stops.Full size adding) → IsFullNext s history taken size adding

-- ---- as plain data

-- a line as it stands in a file, with its end
abbrev pub line_told : Signal → List ℕ
line_told signal = spelled signal ++ 10 ∷ []

-- the format in which a state is told
abbrev pub told_format : ℕ
told_format = 2

-- the side that counted when opening was done, where the disk told its bytes
abbrev pub side_told : Origin → List ℕ
side_told o = if o.told then o.counting else []

-- What a run was given, as bytes and numbers: its lines are those that were not taken before it.
abbrev pub setup_told : Setup → Told
setup_told s = record {
  deployment = s.origin.deployment;
  lines = flat_map line_told (drop s.skipped s.lines);
  base = spelled_state told_format (base_of s.origin);
  side = side_told s.origin;
  records = s.origin.before;
  journal = s.journal;
  steps = s.steps;
  moment = s.origin.moment;
  faults = s.origin.faults;
  clean = s.origin.clean;
}
