-- What a worker has in hand.
use Rattle.std.specs.Prelude.{⊤}
use Rattle.script_types.specs.Program.{Program}
use Rattle.rollback_calls.specs.Deliveries.{Handles}
use Rattle.tx_attempt.specs.Attempts.{HasAsked, IsDone, IsNeeded}
use Rattle.tx_attempt.specs.declared.attempt.Attempt.{Attempt}
use Rattle.tx_attempt.specs.declared.ticket.Ticket.{Ticket}
use Rattle.slee_container.specs.Claims.{IsAttemptOf}
use Rattle.worker_gate.specs.declared.hand.Held.{Held}
use Rattle.worker_gate.specs.declared.hand.Held.TheVariants as helds
use Rattle.worker_gate.specs.declared.hand.Tried.{Tried}
use Rattle.worker_gate.specs.declared.hand.Tried.TheVariants as tries

-- an attempt at the delivery of a ticket, which the program handles; it asked for all that it learned
pub record IsTrying (program : Program) (ticket : Ticket) (attempt : Attempt) : Type 0 where
  pub of : IsAttemptOf ticket attempt
  pub handled : Handles program ticket.block ticket.event.name
  pub asked : HasAsked program attempt

-- what is in hand is of the program, when a worker leaves the turn
abbrev pub IsInHand : Program → Held → Type 0
IsInHand program helds.Nothing = ⊤
IsInHand program (helds.Fresh ticket answers) = Handles program ticket.block ticket.event.name
IsInHand program (helds.Begun ticket attempt answers) = IsTrying program ticket attempt

-- and when it asks for it
abbrev pub WasTried : Program → Tried → Type 0
WasTried program tries.Nothing = ⊤
WasTried program (tries.Asks ticket attempt key answers) = IsTrying program ticket attempt × IsNeeded program attempt key
WasTried program (tries.Ended ticket attempt) = IsAttemptOf ticket attempt × IsDone program attempt
WasTried program (tries.NoMemory ticket) = ⊤
