-- The states of a deployment whose states can be kept, and that their snapshots stand for them.
use Rattle.std.proofs.Common.{◌≡◌, ℕ, ◌+◌, ◌<◌, ◌^◌, true, List, [], ◌∷◌, length, refl, sym, ap, subst, arith, inl, inr}
use Rattle.std.specs.Prelude.{IsTrue, Some, nat_lt}
use Rattle.std.proofs.lemmas.Bool.Decides.{nat_tests}
use Rattle.script_types.specs.Program.{Program}
use Rattle.deploy_model.specs.Deployed.{Deployed}
use Rattle.trace_history.specs.declared.choice.Choice.{Choice}
use Rattle.trace_history.specs.declared.entry.Entry.{Entry}
use Rattle.router_state.specs.Initial.{initial}
use Rattle.router_state.specs.Restoring.{IsSnapshot, snapshot_text, state_of_snapshot}
use Rattle.router_state.specs.Snapshot.{spelled_state}
use Rattle.router_state.specs.State.{State}
use Rattle.router_state.specs.Well.{IsWell}
use Rattle.router_steps.specs.Histories.{Legal, is_choice, replay}
use Rattle.router_steps.specs.Steps.{after, is_enabled, step_entry}
use Rattle.router_laws.proofs.KeptLemmas.{deployment_replayed, program_replayed}
use Rattle.router_laws_kept.specs.Kept.{CanBeKept, IsKeepable}
use Rattle.router_laws_runs.proofs.Runs.{legal_well}
use Rattle.router_laws_snapshots.proofs.SnapshotTexts.{text_again, text_is}
use Rattle.router_laws_sound.specs.Rooms.{HasRoom}
use Rattle.router_laws_steps.proofs.First.{well_initial}

-- of this deployment with its program
same_keepable : (d e : Deployed) (p q : Program) → d ≡ e → p ≡ q → IsKeepable e q → IsKeepable d p
same_keepable d e p q one two keepable = rw (one, two) keepable

room_first : (d : Deployed) (program : Program) → length d.tables + 1 < 2 ^ 64 → HasRoom (initial d program)
room_first d program few = record { entity = refl; activity = under (length d.tables + 1) few; timer = refl; event = refl }
  where
    under : (n : ℕ) → n < 2 ^ 64 → nat_lt n (2 ^ 64) ≡ true
    under n less = grind (arith, nat_tests, less)

pub well_first : (d : Deployed) (p : Program) → length d.tables + 1 < 2 ^ 64 → IsWell (initial d p)
well_first d p few = well_initial d p (room_first d p few)

pub snapshot_deployed : (format : ℕ) (d : Deployed) (p : Program) (bytes : List ℕ) (s : State) → state_of_snapshot format d p bytes ≡ Some s → (s.deployment ≡ d) × (s.program ≡ p)
snapshot_deployed format d p bytes s is = elim (text_is format d p bytes s is) [
  | inl first ↦ (ap (λ (t : State). t.deployment) first.1, ap (λ (t : State). t.program) first.1)
  | inr snapshot ↦ (snapshot.deployment, snapshot.program)
]

pub snapshot_well : (format : ℕ) (d : Deployed) (p : Program) (bytes : List ℕ) (s : State) → length d.tables + 1 < 2 ^ 64 → state_of_snapshot format d p bytes ≡ Some s → IsWell s
snapshot_well format d p bytes s few is = elim (text_is format d p bytes s is) [
  | inl first ↦ subst IsWell (sym first.1) (well_first d p few)
  | inr snapshot ↦ snapshot.well
]

pub kept_first : (d : Deployed) (p : Program) → IsKeepable d p → CanBeKept (initial d p)
kept_first d p keepable = record { well = well_first d p keepable.few; deployment = keepable }

pub kept_snapshot : (format : ℕ) (d : Deployed) (p : Program) (bytes : List ℕ) (s : State) → IsKeepable d p → state_of_snapshot format d p bytes ≡ Some s → CanBeKept s
kept_snapshot format d p bytes s keepable is =
    let same = snapshot_deployed format d p bytes s is in
    record { well = snapshot_well format d p bytes s keepable.few is; deployment = same_keepable s.deployment d s.program p same.0 same.1 keepable }

pub kept_replay : (s : State) (h : List Entry) → CanBeKept s → Legal s h → CanBeKept (replay s h)
kept_replay s h kept legal = record {
  well = legal_well s h kept.well kept.deployment.read legal;
  deployment = same_keepable (replay s h).deployment s.deployment (replay s h).program s.program (deployment_replayed s h) (program_replayed s h) kept.deployment;
}

pub kept_after : (s : State) (c : Choice) → CanBeKept s → IsTrue (is_choice c) → IsTrue (is_enabled s c) → CanBeKept (after s c)
kept_after s c kept given enabled = kept_replay s (step_entry s c ∷ []) kept (given, enabled, refl, tt)

pub kept_again : (format : ℕ) (s : State) → CanBeKept s → length (spelled_state format s) < 2 ^ 64 → state_of_snapshot format s.deployment s.program (snapshot_text format s) ≡ Some s
kept_again format s kept short = text_again format s kept.deployment.named kept.well short
