-- What is seen of the timer facility.
use Rattle.std.specs.Prelude.{ℕ, Bool, nat_lt, List}
use Rattle.router_state.specs.declared.rows.Timer.{Timer}

-- the timers, the number that the next one has, and for how many there is room
pub record TimersView : Type 0 where
  pub timers : List Timer
  pub next : ℕ
  pub room : ℕ

-- the timers alone, and for how many there is room
pub record TimerRowsView : Type 0 where
  pub timers : List Timer
  pub room : ℕ

-- by number
abbrev pub timer_before : Timer → Timer → Bool
timer_before x y = nat_lt x.number.0 y.number.0
