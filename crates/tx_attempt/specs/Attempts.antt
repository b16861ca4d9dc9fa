-- Attempts: what they know, and how far they came.
use Rattle.std.specs.Prelude.{◌≡◌, ◌≤◌, ℕ, List, [], ◌∷◌, length, Option, Some, None}
use Rattle.script_types.specs.Program.{Program}
use Rattle.script_meaning.specs.declared.key.Key.{Key}
use Rattle.script_meaning.specs.declared.key.Key.TheVariants as keys
use Rattle.script_meaning.specs.declared.seen.Seen.{Seen}
use Rattle.script_meaning.specs.declared.seen.Seen.TheVariants as seen
use Rattle.script_meaning.specs.Answers.{Answers, kept}
use Rattle.script_meaning.specs.Delivery.{Complete, Wants}
use Rattle.script_laws.specs.Asking.{lacked_by, WereAsked}
use Rattle.rollback_calls.specs.declared.delivered.Delivered.{Delivered}
use Rattle.rollback_calls.specs.Deliveries.{delivered_of}
use Rattle.rollback_calls.specs.Prepared.{delivery_over}
use Rattle.tx_attempt.specs.declared.ticket.Ticket.{Ticket}
use Rattle.tx_attempt.specs.declared.attempt.Attempt.{Attempt}
use Rattle.tx_attempt.specs.declared.attempt.Progress.{Progress}
use Rattle.tx_attempt.specs.declared.attempt.Progress.TheVariants as p

-- the delivery of the ticket is the one that is next on its activity
abbrev pub next_seen : Ticket → Key × Seen
next_seen t = (keys.Next t.activity, seen.Next (Some (t.event.id, t.entity)))

-- An attempt at the delivery of a ticket that knows nothing else.
pub record IsNew (t : Ticket) (a : Attempt) : Type 0 where
  pub block : a.delivery.block ≡ t.block
  pub entity : a.delivery.entity ≡ t.entity
  pub activity : a.delivery.arguments.activity ≡ t.activity
  pub event : a.delivery.event ≡ t.event.name
  pub fields : a.delivery.arguments.fields ≡ t.event.fields
  pub known : a.known ≡ next_seen t ∷ []
  pub undone : a.outcome ≡ None

-- the delivery and what is known are as they were
pub record IsSameTask (a b : Attempt) : Type 0 where
  pub delivery : b.delivery ≡ a.delivery
  pub known : b.known ≡ a.known

-- what was learned behind the first pair was asked for, one key after another
abbrev pub asked_for : (Answers → Option Key) → List (Key × Seen) → Type 0
asked_for lacks [] = Unit {0}
asked_for lacks (pair ∷ learned) = WereAsked lacks (pair ∷ []) learned

abbrev pub HasAsked : Program → Attempt → Type 0
HasAsked program a = asked_for (λ answers. lacked_by (delivery_over program a.delivery answers)) a.known

-- the most that is known where one key more is needed
abbrev pub known_limit : ℕ
known_limit = 128

-- A key that is needed isn't known, and one of few.
pub record IsNeeded (program : Program) (a : Attempt) (key : Key) : Type 0 where
  pub wanted : delivery_over program a.delivery (kept a.known) ≡ Wants key
  pub unknown : kept a.known key ≡ None
  pub few : length a.known ≤ known_limit

-- the outcome is that of the delivery over what is known
abbrev pub Comes : Program → Attempt → Option Delivered → Type 0
Comes program a None = ⊥
Comes program a (Some d) = delivery_over program a.delivery (kept a.known) ≡ Complete (delivered_of d)

abbrev pub IsDone : Program → Attempt → Type 0
IsDone program a = Comes program a a.outcome

-- how far a run came
abbrev pub Progresses : Program → Attempt → Progress → Type 0
Progresses program a (p.Need key) = IsNeeded program a key
Progresses program a p.Done = IsDone program a
