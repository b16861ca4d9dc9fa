-- The laws of runs, of every legal history over a well-formed state of a deployment that was read.
use Rattle.std.proofs.Common.{List, ℕ, ◌++◌, ◌<◌, ◌^◌, ◌≡◌}
use Rattle.router_laws_histories.specs.Suspended.{IsLeftAlone}
use Rattle.router_laws_histories.specs.Words.{AreNew}
use Rattle.router_laws_runs.proofs.Runs.{legal_is_run}
use Rattle.router_laws_runs.specs.AsRead.{IsAsRead}
use Rattle.router_laws_steps.proofs.RunLemmas.{run_in_order, run_once, run_waits}
use Rattle.router_state.specs.Queues.{is_suspended}
use Rattle.router_state.specs.State.{State}
use Rattle.router_state.specs.Well.{IsWell}
use Rattle.router_steps.specs.Histories.{Legal, marked_at, pending_at, replay}
use Rattle.trace_history.specs.Reading.{finished_in, queued_in, reached_in}
use Rattle.trace_history.specs.declared.entry.Entry.{Entry}

pub legal_in_order : (s : State) (h : List Entry) → IsWell s → IsAsRead s.deployment s.program → Legal s h → (a : ℕ) → a < 2 ^ 64 → pending_at s a ++ queued_in h a ≡ finished_in h a ++ pending_at (replay s h) a
legal_in_order s h well read legal = run_in_order s h (legal_is_run s h well read legal)

pub legal_once : (s : State) (h : List Entry) → IsWell s → IsAsRead s.deployment s.program → Legal s h → (v : ℕ) → v < 2 ^ 64 → AreNew (marked_at s v) (reached_in h v)
legal_once s h well read legal = run_once s h (legal_is_run s h well read legal)

pub legal_waits : (s : State) (h : List Entry) → IsWell s → IsAsRead s.deployment s.program → Legal s h → (a : ℕ) → a < 2 ^ 64 → IsLeftAlone a (is_suspended s.suspensions a) h
legal_waits s h well read legal = run_waits s h (legal_is_run s h well read legal)
