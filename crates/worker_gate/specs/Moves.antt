-- What a worker does to a container under the turn.
use Rattle.std.specs.Prelude.{◌≡◌, ◌⊎◌, ℕ, false, IsTrue, IsSome, None, Result, Ok, Err, [], ⊤}
use mathlib.Core.List.{IsPrefix}
use Rattle.trace_history.specs.Histories.{choices_of}
use Rattle.router_durable.specs.declared.fault.StepFault.{StepFault}
use Rattle.router_durable.specs.declared.fault.StepFault.TheVariants as faults
use Rattle.router_state.specs.Next.{least}
use Rattle.slee_container.specs.Container.{View, state_of}
use Rattle.slee_container.specs.Steps.{is_spent}
use Rattle.slee_container.specs.Work.{has_line}
use Rattle.worker_gate.specs.Hands.{IsInHand}
use Rattle.worker_gate.specs.declared.hand.Moved.{Moved}
use Rattle.worker_gate.specs.declared.hand.Moved.TheVariants as moves

-- it is the same run, and its history goes on
pub record GoesOn {D : Type 0} (old new : View D) : Type 0 where
  pub setup : new.setup ≡ old.setup
  pub history : IsPrefix (choices_of old.history) (choices_of new.history)

-- no choice is enabled and no line is left, or no step may be made any more
abbrev pub IsOver : {D : Type 0} → View D → Type 0
IsOver v = ((least (state_of v) [] ≡ None) × (has_line v ≡ false)) ⊎ IsTrue (is_spent v)

-- a worker may leave
abbrev pub MayLeave : {D : Type 0} → View D → Type 0
MayLeave v = IsSome v.stop ⊎ IsOver v

-- what a turn that comes to this leaves
abbrev pub ComesTo : {D : Type 0} → View D → Moved → Type 0
ComesTo new (moves.Goes held) = IsInHand new.setup.origin.initial.program held
ComesTo new moves.Waits = ⊤
ComesTo new moves.Leaves = MayLeave new
ComesTo new moves.NoMemory = ⊤

-- what a step that ended so has left
abbrev pub MayEnd : {D : Type 0} → View D → Result ℕ StepFault → Type 0
MayEnd v (Ok number) = ⊤
MayEnd v (Err faults.DiskFault) = MayLeave v
MayEnd v (Err (faults.Full size adding)) = MayLeave v
MayEnd v (Err faults.Spent) = MayLeave v
MayEnd v (Err faults.NoMemory) = ⊤
