-- Passes that are out with workers, and what a worker leaves.
use Rattle.std.specs.Prelude.{◌≡◌, ℕ, zero, suc, ◌+◌, ◌-◌, ◌^◌, ◌<◌, List, [], ◌∷◌, length, slice_index_or}
use mathlib.Core.List.{IsPrefix}
use Rattle.atomic_table.specs.Seated.{TableId}
use Rattle.slee_descriptor.specs.declared.deployment.Deployment.{Deployment}
use Rattle.trace_history.specs.declared.choice.Choice.{Choice}
use Rattle.slee_turn.specs.Passes.{IsFreeOf, PassView}
use Rattle.slee_turn.specs.Setups.{Setup}
use Rattle.worker_gate.specs.Works.{IsLater, IsServed}
use Rattle.worker_threads.specs.declared.jobs.Job.{Job}

-- the numbers from k + 1 down to 2
abbrev pub numbers : ℕ → List ℕ
numbers zero = []
numbers (suc k) = (k + 2) ∷ numbers k

-- the first pass, with k passes out and this setup, whose history begins with h
pub record HasOut (t : TableId) (u : Setup) (h : List Choice) (k : ℕ) (p : PassView) : Type 0 where
  pub free : IsFreeOf t p
  pub first : p.known.number ≡ 1
  pub setup : p.known.setup ≡ u
  pub seen : IsPrefix h p.known.seen
  pub out : p.known.out ≡ numbers k

-- k of its numbers are given
abbrev pub HasGiven : ℕ → PassView → Type 0
HasGiven k p = p.known.spare + k ≡ 2 ^ 64 - 2

-- a worker may begin
pub record IsReady {A B C E : Type 0} (j : Job A Deployment B C E) : Type 0 where
  pub free : IsFreeOf j.turn.now j.worker.pass
  pub served : IsServed j.worker.pass.known.setup j.deployment.now

-- the turn stays, and the pass is a later one
pub record IsLaterJob {A B C E : Type 0} (j k : Job A Deployment B C E) : Type 0 where
  pub turn : k.turn.now ≡ j.turn.now
  pub pass : IsLater j.worker.pass k.worker.pass

-- the job has the pass of its place
pub record IsSeated {A B C E : Type 0} (t : TableId) (h : List Choice) (k : ℕ) (j : Job A Deployment B C E) : Type 0 where
  pub free : IsFreeOf t j.worker.pass
  pub turn : j.turn.now ≡ t
  pub number : j.worker.pass.known.number ≡ k + 2
  pub seen : IsPrefix h j.worker.pass.known.seen

abbrev pub AreSeated : {A B C E : Type 0} → TableId → List Choice → List (Job A Deployment B C E) → Type 0
AreSeated {A} {B} {C} {E} t h js = (k : ℕ) (d : Job A Deployment B C E) → k < length js → IsSeated t h k (slice_index_or js k d)

abbrev pub AreReady : {A B C E : Type 0} → List (Job A Deployment B C E) → Type 0
AreReady {A} {B} {C} {E} js = (k : ℕ) (d : Job A Deployment B C E) → k < length js → IsReady (slice_index_or js k d)

abbrev pub AreLater : {A B C E : Type 0} → List (Job A Deployment B C E) → List (Job A Deployment B C E) → Type 0
AreLater {A} {B} {C} {E} js ks = (k : ℕ) (d : Job A Deployment B C E) → k < length js → IsLaterJob (slice_index_or js k d) (slice_index_or ks k d)
