-- How the steps of a container end, and what its other calls do.
use Rattle.std.specs.Prelude.{◌≡◌, ℕ, ◌+◌, nat_le, not, ◌&&◌, ◌||◌, if◌then◌else◌, length, List, [], ◌∷◌, ◌++◌, Bool, true, false, IsTrue, Option, Some, None, Result, Ok, Err, ⊤}
use Rattle.slee_disk.specs.Disk.{DiskState, LeavesOnly}
use Rattle.slee_value.specs.declared.ids.ActivityId.{ActivityId}
use Rattle.slee_value.specs.declared.memory.NoMemory.{NoMemory}
use Rattle.handler_run.specs.Views.{conflict}
use Rattle.rollback_calls.specs.Deliveries.{Handles}
use Rattle.rollback_calls.specs.declared.delivered.Delivered.{Delivered}
use Rattle.trace_history.specs.Histories.{input_of}
use Rattle.trace_history.specs.declared.choice.Choice.{Choice}
use Rattle.trace_history.specs.declared.choice.Choice.TheVariants as choices
use Rattle.router_state.specs.Look.{look, next_delivery}
use Rattle.router_state.specs.State.{is_used_up}
use Rattle.router_steps.specs.Steps.{is_delivery, is_next_by}
use Rattle.router_core.specs.Delivering.{Delivers, IsTicket}
use Rattle.router_durable.specs.Core.{Makes as MakesInRouter}
use Rattle.router_durable.specs.Facts.{RestartsIn}
use Rattle.router_durable.specs.declared.fault.StepFault.{StepFault}
use Rattle.router_durable.specs.declared.fault.StepFault.TheVariants as faults
use Rattle.router_durable.specs.declared.fault.Stop.TheVariants as stops
use Rattle.tx_attempt.specs.declared.attempt.Attempt.{Attempt}
use Rattle.tx_attempt.specs.declared.check.CheckStop.{CheckStop}
use Rattle.tx_attempt.specs.declared.check.CheckStop.TheVariants as checks
use Rattle.tx_attempt.specs.declared.ticket.Ticket.{Ticket}
use Rattle.slee_container.specs.Claims.{is_claimed, without_claim}
use Rattle.slee_container.specs.Container.{View, held_in, state_of}
use Rattle.slee_container.specs.declared.fault.CommitFault.{CommitFault}
use Rattle.slee_container.specs.declared.fault.CommitFault.TheVariants as refusals
use Rattle.slee_container.specs.declared.fault.Redone.{Redone}
use Rattle.slee_container.specs.declared.fault.Redone.TheVariants as redones

-- no step may be made any more
abbrev pub is_spent : {D : Type 0} → View D → Bool
is_spent v = nat_le v.setup.steps (length v.history) || is_used_up (state_of v)

-- How a step ends: as that of the router; one that is refused as spent changes nothing.
abbrev pub Ends : {D : Type 0} → DiskState → DiskState → View D → Choice → Result ℕ StepFault → View D → Type 0
Ends before after old c (Ok number) new = MakesInRouter before after (held_in old) c (Ok number) (held_in new)
Ends before after old c (Err faults.DiskFault) new = MakesInRouter before after (held_in old) c (Err faults.DiskFault) (held_in new)
Ends before after old c (Err (faults.Full size adding)) new = MakesInRouter before after (held_in old) c (Err (faults.Full size adding)) (held_in new)
Ends before after old c (Err faults.NoMemory) new = MakesInRouter before after (held_in old) c (Err faults.NoMemory) (held_in new)
Ends before after old c (Err faults.Spent) new = new ≡ old

-- the step was made: it stands in the history
abbrev pub is_made : Result ℕ StepFault → Bool
is_made (Ok number) = true
is_made (Err faults.DiskFault) = true
is_made (Err (faults.Full size adding)) = false
is_made (Err faults.NoMemory) = false
is_made (Err faults.Spent) = false

-- how many lines were taken then
abbrev pub taken_after : ℕ → Choice → Result ℕ StepFault → ℕ
taken_after taken c result = if is_made result then taken + length (input_of c) else taken

-- A step that is made of a choice, or refused; what becomes of the claims stands beside it.
pub record Makes {D : Type 0} (before after : DiskState) (old : View D) (c : Choice) (result : Result ℕ StepFault) (new : View D) : Type 0 where
  pub step : Ends before after old c result new
  pub taken : new.taken ≡ taken_after old.taken c result
  pub setup : new.setup ≡ old.setup
  -- a crash at any moment of it leaves what was acknowledged before it
  pub any_moment : IsTrue old.setup.origin.told → LeavesOnly before after (RestartsIn old.setup.origin new.history old.acked)
  -- it is refused as spent exactly where it is
  pub refused : result ≡ Err faults.Spent → IsTrue (is_spent old)
  pub spent : IsTrue (is_spent old) → result ≡ Err faults.Spent

-- a step, with the claims behind it
pub record MakesWith {D : Type 0} (before after : DiskState) (old : View D) (c : Choice) (result : Result ℕ StepFault) (left : List Ticket) (new : View D) : Type 0 where
  pub made : Makes before after old c result new
  pub claims : new.claims ≡ left

-- the claims behind a delivery on an activity: its claim is gone where the step was made
abbrev pub claims_after : List Ticket → ℕ → Result ℕ StepFault → List Ticket
claims_after claims a result = if is_made result then without_claim claims a else claims

-- a delivery is next on the activity, and nobody claims it
abbrev pub is_free : {D : Type 0} → View D → ℕ → Bool
is_free v a = is_next_by is_delivery (state_of v) a && not (is_claimed v.claims a)

-- The ticket of the delivery that is next on the activity. Its number is the length of the history, and the program has what it asks for.
pub record IsTicketFor {D : Type 0} (v : View D) (a : ActivityId) (t : Ticket) : Type 0 where
  pub number : t.number ≡ length v.history
  pub activity : t.activity ≡ a
  pub ticket : IsTicket (state_of v) t
  pub handled : Handles v.setup.origin.initial.program t.block t.event.name

-- What preparing a delivery does: no ticket exactly where the activity's next choice is another, or it is claimed. Only a ticket takes memory.
abbrev pub Prepares : {D : Type 0} → View D → ActivityId → Result (Option Ticket) NoMemory → View D → Type 0
Prepares old a (Ok None) new = (new ≡ old) × (is_free old a.0 ≡ false)
Prepares old a (Ok (Some ticket)) new = (new ≡ record old { claims = old.claims ++ ticket ∷ [] }) × (is_free old a.0 ≡ true) × IsTicketFor old a ticket
Prepares old a (Err fault) new = (new ≡ old) × (is_free old a.0 ≡ true)

-- why a delivery isn't committed, where its step isn't made
abbrev pub commit_fault_of : StepFault → CommitFault
commit_fault_of faults.DiskFault = refusals.DiskFault
commit_fault_of (faults.Full size adding) = refusals.Full size adding
commit_fault_of faults.Spent = refusals.Spent
commit_fault_of faults.NoMemory = refusals.NoMemory

-- why it isn't, where something else is seen now than was seen
abbrev pub check_fault_of : CheckStop → CommitFault
check_fault_of (checks.Conflict key saw found) = refusals.Conflict key saw found
check_fault_of checks.NoMemory = refusals.NoMemory

-- What the attempt at a claim came to, if all that it has seen is seen so: then its delivery is next, and comes to that. Else the first that isn't.
abbrev pub ChecksOut : {D : Type 0} → View D → Ticket → Attempt → Result Delivered CommitFault → Type 0
ChecksOut v t a (Ok delivered) =
    (conflict (look (state_of v)) a.known ≡ None)
    × (next_delivery (state_of v) t.activity.0 ≡ Some (t.event.id, t.entity))
    × (is_next_by is_delivery (state_of v) t.activity.0 ≡ true)
    × Delivers (state_of v) t.activity delivered
ChecksOut v t a (Err (refusals.Conflict key saw found)) = conflict (look (state_of v)) a.known ≡ Some (key, saw, found)
ChecksOut v t a (Err refusals.NoMemory) = ⊤
ChecksOut v t a (Err refusals.DiskFault) = ⊥
ChecksOut v t a (Err (refusals.Full size adding)) = ⊥
ChecksOut v t a (Err refusals.Spent) = ⊥

-- What a commit does. It makes the delivery of the ticket where no refusal stands, and lets the claim go; then what the attempt has seen is
-- seen so, and the ticket's event reaches its entity next. A refusal leaves the claim.
abbrev pub Commits : {D : Type 0} → DiskState → DiskState → View D → Ticket → Attempt → Result ℕ CommitFault → View D → Type 0
Commits before after old t a (Ok number) new =
    (conflict (look (state_of old)) a.known ≡ None)
    × (next_delivery (state_of old) t.activity.0 ≡ Some (t.event.id, t.entity))
    × MakesWith before after old (choices.Deliver t.activity) (Ok number) (without_claim old.claims t.activity.0) new
Commits before after old t a (Err refusals.DiskFault) new =
    (conflict (look (state_of old)) a.known ≡ None)
    × (next_delivery (state_of old) t.activity.0 ≡ Some (t.event.id, t.entity))
    × MakesWith before after old (choices.Deliver t.activity) (Err faults.DiskFault) (without_claim old.claims t.activity.0) new
Commits before after old t a (Err (refusals.Full size adding)) new =
    (conflict (look (state_of old)) a.known ≡ None)
    × MakesWith before after old (choices.Deliver t.activity) (Err (faults.Full size adding)) old.claims new
Commits before after old t a (Err (refusals.Conflict key saw found)) new =
    (new ≡ old) × (conflict (look (state_of old)) a.known ≡ Some (key, saw, found)) × (is_spent old ≡ false)
Commits before after old t a (Err refusals.NoMemory) new = (new ≡ old) × (is_spent old ≡ false)
Commits before after old t a (Err refusals.Spent) new = (new ≡ old) × IsTrue (is_spent old)

-- What redoing a delivery does. The claim is gone where the step was made, also where the disk failed then, and where no delivery is next; where the step is refused before, it stays.
abbrev pub Redoes : {D : Type 0} → DiskState → DiskState → View D → ActivityId → Result Redone StepFault → View D → Type 0
Redoes before after old a (Ok redones.Released) new =
    (new ≡ record old { claims = without_claim old.claims a.0 }) × (is_next_by is_delivery (state_of old) a.0 ≡ false)
Redoes before after old a (Ok (redones.Entry number)) new =
    (is_next_by is_delivery (state_of old) a.0 ≡ true) × MakesWith before after old (choices.Deliver a) (Ok number) (without_claim old.claims a.0) new
Redoes before after old a (Err faults.DiskFault) new =
    (is_next_by is_delivery (state_of old) a.0 ≡ true) × MakesWith before after old (choices.Deliver a) (Err faults.DiskFault) (without_claim old.claims a.0) new
Redoes before after old a (Err (faults.Full size adding)) new =
    (is_next_by is_delivery (state_of old) a.0 ≡ true) × MakesWith before after old (choices.Deliver a) (Err (faults.Full size adding)) old.claims new
Redoes before after old a (Err faults.NoMemory) new =
    (is_next_by is_delivery (state_of old) a.0 ≡ true) × MakesWith before after old (choices.Deliver a) (Err faults.NoMemory) old.claims new
Redoes before after old a (Err faults.Spent) new =
    (is_next_by is_delivery (state_of old) a.0 ≡ true) × MakesWith before after old (choices.Deliver a) (Err faults.Spent) old.claims new

-- What a flush does: all entries are acknowledged, and but for the disk nothing else changes; a fault of the disk stops the container.
abbrev pub Flushes : {D T E : Type 0} → View D → Result T E → View D → Type 0
Flushes old (Ok done) new = new ≡ record old { acked = length old.history; disk = new.disk }
Flushes old (Err fault) new = new ≡ record old { stop = Some stops.DiskFault; disk = new.disk }
