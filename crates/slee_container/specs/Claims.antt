-- Claims on deliveries, what is kept of them, and attempts at them.
use Rattle.std.specs.Prelude.{◌≡◌, ◌⊎◌, ◌<◌, ◌==◌, ℕ, Bool, true, not, List, [], ◌∷◌, Some, filter, map, IsTrue, ⊤}
use Rattle.std.specs.List.{list_any, AllByRecursion}
use Rattle.slee_value.specs.declared.ids.ActivityId.{ActivityId}
use Rattle.script_meaning.specs.declared.key.Key.{Key}
use Rattle.script_meaning.specs.declared.seen.Seen.{Seen}
use Rattle.router_state.specs.Queues.{head_event}
use Rattle.router_state.specs.State.{State}
use Rattle.router_state.specs.declared.rows.Entity.{Entity}
use Rattle.router_state.specs.declared.rows.Queued.{Queued}
use Rattle.tx_attempt.specs.Attempts.{next_seen}
use Rattle.tx_attempt.specs.declared.attempt.Attempt.{Attempt}
use Rattle.tx_attempt.specs.declared.ticket.Ticket.{Ticket}

-- the activity is claimed
abbrev pub is_claimed : List Ticket → ℕ → Bool
is_claimed claims a = list_any (λ (t : Ticket). t.activity.0 == a) claims

-- the activities that are claimed
abbrev pub claimed_in : List Ticket → List ℕ
claimed_in claims = map (λ (t : Ticket). t.activity.0) claims

-- the same, as numbers of activities
abbrev pub activities_of : List Ticket → List ActivityId
activities_of claims = map (λ (t : Ticket). t.activity) claims

-- the claims without that of an activity
abbrev pub without_claim : List Ticket → ℕ → List Ticket
without_claim claims a = filter (λ (t : Ticket). not (t.activity.0 == a)) claims

-- the activities without one
abbrev pub without_activity : List ActivityId → ℕ → List ActivityId
without_activity claimed a = filter (λ (b : ActivityId). not (b.0 == a)) claimed

-- the ticket is one of the claims
abbrev pub IsClaim : Ticket → List Ticket → Type 0
IsClaim t [] = ⊥
IsClaim t (u ∷ us) = (t ≡ u) ⊎ IsClaim t us

-- no two claims are of one activity
abbrev pub AreApart : List Ticket → Type 0
AreApart [] = ⊤
AreApart (t ∷ ts) = IsTrue (not (is_claimed ts t.activity.0)) × AreApart ts

-- the event of a ticket is still the head event of its activity
abbrev pub IsFront : State → Ticket → Type 0
IsFront s t = head_event s.events t.activity.0 ≡ Some t.event

-- The number of an entity was drawn, and an entity that has it is of this block; a number isn't drawn twice.
abbrev pub IsOfBlock : ℕ → ℕ → State → Type 0
IsOfBlock e block s = (e < s.next_entity) × AllByRecursion (λ (row : Entity). (row.number.0 == e) ≡ true → row.block ≡ block) s.entities

-- what is kept of claims
pub record HoldsClaims (s : State) (claims : List Ticket) : Type 0 where
  pub apart : AreApart claims
  pub fronts : AllByRecursion (IsFront s) claims
  pub blocks : AllByRecursion (λ (t : Ticket). IsOfBlock t.entity.0 t.block s) claims

-- the numbers of the events that wait were drawn, so that a new event waits behind them
abbrev pub AreDrawn : State → Type 0
AreDrawn s = AllByRecursion (λ (q : Queued). q.event.id.0 < s.next_event) s.events

-- An attempt at the delivery of a ticket: it knows that this is the one that is next, and what it learned behind that.
pub record IsAttemptOf (t : Ticket) (a : Attempt) : Type 0 where
  pub block : a.delivery.block ≡ t.block
  pub entity : a.delivery.entity ≡ t.entity
  pub activity : a.delivery.arguments.activity ≡ t.activity
  pub event : a.delivery.event ≡ t.event.name
  pub fields : a.delivery.arguments.fields ≡ t.event.fields
  pub learned : List (Key × Seen)
  pub known : a.known ≡ next_seen t ∷ learned
