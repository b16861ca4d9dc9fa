-- Activities that are ready: an event waits there, and the head event isn't suspended. Only on these a choice can be next.
use Rattle.std.specs.Prelude.{◌≡◌, ℕ, ◌==◌, Bool, ◌&&◌, not, is_some, find, IsTrue, List}
use Rattle.router_state.specs.State.{State}
use Rattle.rows_sorted.specs.Orders.{rises_in}
use Rattle.router_state.specs.Queues.{is_waiting, is_suspended}
use Rattle.router_state.specs.declared.rows.Queued.{Queued}
use Rattle.router_state.specs.declared.rows.Suspension.{Suspension}
use Rattle.rows_sorted.specs.Keys.{Key, number_key}
use Rattle.router_stores.specs.declared.ready.Ready.{Ready}

-- the activity's number
abbrev pub number_of : Ready → ℕ
number_of row = row.activity.0

-- the key: the activity's number
abbrev pub ready_key : Ready → Key
ready_key row = number_key row.activity.0

-- an event waits on the activity, and its head event isn't suspended
abbrev pub is_ready : List Queued → List Suspension → ℕ → Bool
is_ready events suspensions a = is_waiting events a && not (is_suspended suspensions a)

-- the activity is listed
abbrev pub is_listed : List Ready → ℕ → Bool
is_listed rows a = is_some (find (λ row. row.activity.0 == a) rows)

-- exactly the activities that are ready are listed
abbrev pub AreReady : List Ready → List Queued → List Suspension → Type 0
AreReady rows events suspensions = (a : ℕ) → is_listed rows a ≡ is_ready events suspensions a

-- the activities of a state that are ready, each once, rising
pub record AreAllReady (rows : List Ready) (s : State) : Type 0 where
  pub rises : IsTrue (rises_in number_of rows)
  pub listed : AreReady rows s.events s.suspensions
