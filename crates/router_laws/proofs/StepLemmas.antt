-- Single steps.
use Rattle.std.proofs.Common.{◌≡◌, ℕ, ◌+◌, true, None, Err, refl}
use Rattle.signal_script.specs.declared.signal.Signal.{Signal}
use Rattle.router_state.specs.State.{State}
use Rattle.router_state.specs.Next.{next}
use Rattle.router_state.specs.Queues.{is_suspended}
use Rattle.router_steps.specs.Actions.{action_of}
use Rattle.router_steps.specs.Steps.{before_closing}
use Rattle.router_steps.specs.declared.refusal.Refusal.{Refusal}
use Rattle.trace_history.specs.declared.choice.Choice.TheVariants as choices

pub suspended_waits : (s : State) (a : ℕ) → is_suspended s.suspensions a ≡ true → next s a ≡ None
suspended_waits s a is = rw is refl

pub refused_counts : (s : State) (signal : Signal) (why : Refusal) → action_of s signal ≡ Err why → before_closing s (choices.Input signal) ≡ record s { inputs = s.inputs + 1 }
refused_counts s signal why is = rw is refl
