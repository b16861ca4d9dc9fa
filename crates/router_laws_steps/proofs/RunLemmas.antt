-- The laws over histories, of every run.
use Rattle.router_laws_histories.proofs.Bases.{finished_in_order, reached_once}
use Rattle.router_laws_histories.proofs.Waiting.{suspended_left}
use Rattle.router_laws_histories.specs.Suspended.{IsLeftAlone}
use Rattle.router_laws_histories.specs.Words.{AreNew, AreTold}
use Rattle.router_laws_steps.proofs.HoldsTold.{holds_all}
use Rattle.router_laws_steps.proofs.ToldSteps.{told_all}
use Rattle.router_laws_steps.specs.About.{IsRun}
use Rattle.router_state.specs.Queues.{is_suspended}
use Rattle.router_state.specs.State.{State}
use Rattle.router_steps.specs.Histories.{marked_at, pending_at, replay}
use Rattle.std.proofs.Common.{List, ℕ, ◌++◌, ◌<◌, ◌^◌, ◌≡◌}
use Rattle.trace_history.specs.Reading.{finished_in, queued_in, reached_in}
use Rattle.trace_history.specs.declared.entry.Entry.{Entry}

told_of : (s : State) (h : List Entry) → IsRun s h → AreTold s h
told_of s h run = told_all s h run.well.sound run.deployed run.words run.about run.legal run.read run.room run.count

pub run_in_order : (s : State) (h : List Entry) → IsRun s h → (a : ℕ) → a < 2 ^ 64 → pending_at s a ++ queued_in h a ≡ finished_in h a ++ pending_at (replay s h) a
run_in_order s h run = finished_in_order s h run.well.sound run.legal (told_of s h run)

pub run_once : (s : State) (h : List Entry) → IsRun s h → (v : ℕ) → v < 2 ^ 64 → AreNew (marked_at s v) (reached_in h v)
run_once s h run = reached_once s h run.well.sound run.legal (told_of s h run)

pub run_waits : (s : State) (h : List Entry) → IsRun s h → (a : ℕ) → a < 2 ^ 64 → IsLeftAlone a (is_suspended s.suspensions a) h
run_waits s h run = suspended_left s h run.well.sound run.legal (holds_all s h run.well.sound run.deployed run.about run.legal run.read run.room run.count)
