-- What the workers leave is played to its end.
use Rattle.std.proofs.Common.{◌≡◌, ◌≢◌, ℕ, ◌-◌, ◌<◌, ◌≤◌, false, List, [], ◌∷◌, drop, length, length-append, refl, sym, ◌∙◌, ap, subst, arith, Option, Some, None}
use Rattle.signal_script.specs.declared.signal.Signal.{Signal}
use Rattle.trace_history.specs.declared.entry.Entry.{Entry}
use Rattle.router_state.specs.State.{State, is_used_up}
use Rattle.router_steps.specs.Histories.{replay, solo_choice}
use Rattle.router_steps.specs.Steps.{step_entry}
use Rattle.router_durable.specs.Core.{is_down}
use Rattle.router_durable.specs.Facts.{base_of}
use Rattle.router_durable.specs.declared.fault.Stop.{Stop}
use Rattle.router_durable.specs.declared.fault.Stop.TheVariants as stops
use Rattle.slee_container.specs.Container.{Setup, View, state_of}
use Rattle.slee_run.specs.Many.{IsDownAt, StandsAt, end_of_stop}
use Rattle.slee_run.specs.Playing.{Advances, IsSpent, left}
use Rattle.slee_run.specs.declared.playing.End.{End}
use Rattle.slee_run.specs.declared.playing.End.TheVariants as ends

-- ---- the last flush

pub up_at : (stop : Option Stop) (e : End) → IsDownAt stop e → e ≢ ends.DiskFault → is_down stop ≡ false
up_at stop ends.Done at other = at
up_at stop ends.Spent at other = at
up_at stop (ends.Full size adding) at other = at
up_at stop ends.DiskFault at other = absurd (other refl)
up_at stop ends.NoMemory at other = at

-- what is written changes nothing of how it stands
pub closed : {D : Type 0} (v w : View D) (e : End) → IsDownAt v.stop e → StandsAt v e → w ≡ record v { acked = length v.history; disk = w.disk } → IsDownAt w.stop e × StandsAt w e
closed v w e at stands is = (subst (λ (stop : Option Stop). IsDownAt stop e) (sym (ap (λ x. x.stop) is)) at, still e stands)
  where
    still : (e : End) → StandsAt v e → StandsAt w e
    still ends.Done s = subst (λ x. StandsAt x ends.Done) (sym is) s
    still ends.Spent s = subst (λ x. StandsAt x ends.Spent) (sym is) s
    still (ends.Full size adding) s = ap (λ x. x.stop) is ∙ s
    still ends.DiskFault s = ap (λ x. x.stop) is ∙ s
    still ends.NoMemory s = tt

pub fell : {D : Type 0} (v w : View D) → w ≡ record v { stop = Some stops.DiskFault; disk = w.disk } → IsDownAt w.stop ends.DiskFault × StandsAt w ends.DiskFault
fell v w is = (ap (λ x. x.stop) is, ap (λ x. x.stop) is)

-- ---- a container that the workers stopped

pub stopped_down : (stop : Stop) → IsDownAt (Some stop) (end_of_stop stop)
stopped_down stops.DiskFault = refl
stopped_down (stops.Full size adding) = refl
stopped_down stops.NoMemory = refl

pub stopped_stands : {D : Type 0} (v : View D) (stop : Stop) → v.stop ≡ Some stop → StandsAt v (end_of_stop stop)
stopped_stands v stops.DiskFault is = is
stopped_stands v (stops.Full size adding) is = is
stopped_stands v stops.NoMemory is = tt

-- ---- steps

-- what is played on: the same run, which isn't stopped, without claims, and has no more entries than it may have
pub record IsOn {D : Type 0} (first v : View D) : Type 0 where
  pub same : v.setup ≡ first.setup
  pub live : v.stop ≡ None
  pub free : v.claims ≡ []
  pub few : length v.history ≤ v.setup.steps

module _ {D : Type 0} (first v w : View D) (on : IsOn first v) (same : w.setup ≡ v.setup) where
  pub goes_on : Advances v None w → IsOn first w
  goes_on a = record {
    same = same ∙ on.same;
    live = a.3;
    free = a.4;
    few = omega (arith, a.1.fewer, ap length a.2.history, length-append v.history (step_entry (state_of v) a.0 ∷ []), ap (λ (u : Setup). u.steps) same);
  }

  pub nearer : Advances v None w → first.setup.steps - length w.history < first.setup.steps - length v.history
  nearer a = omega (arith, a.1.fewer, ap (λ (u : Setup). u.steps) on.same, ap length a.2.history, length-append v.history (step_entry (state_of v) a.0 ∷ []))

  state_same : w.history ≡ v.history → state_of w ≡ state_of v
  state_same is = ap (λ (u : Setup). replay (base_of u.origin) w.history) same ∙ ap (replay (base_of v.setup.origin)) is

  left_same : w.taken ≡ v.taken → left w ≡ left v
  left_same is = ap (λ (u : Setup). drop w.taken u.lines) same ∙ ap (λ (n : ℕ). drop n v.setup.lines) is

  pub stands : (e : End) → Advances v (Some e) w → StandsAt w e
  stands ends.Done a = (
    left_same a.0.taken ∙ a.2,
    ap (λ (s : State). solo_choice s []) (state_same a.0.history) ∙ a.3,
    ap is_used_up (state_same a.0.history) ∙ a.4,
  )
  stands ends.Spent a =
      subst (λ (n : ℕ). IsSpent (state_of w) n w.history (left w)) (sym (ap (λ (u : Setup). u.steps) same))
      (subst (λ (s : State). IsSpent s v.setup.steps w.history (left w)) (sym (state_same a.0.history))
      (subst (λ (h : List Entry). IsSpent (state_of v) v.setup.steps h (left w)) (sym a.0.history)
      (subst (λ (l : List Signal). IsSpent (state_of v) v.setup.steps v.history l) (sym (left_same a.0.taken)) (a.2 on.few))))
  stands (ends.Full size adding) a = a.1
  stands ends.DiskFault a = a.3
  stands ends.NoMemory a = tt

  pub down : (e : End) → Advances v (Some e) w → IsDownAt w.stop e
  down ends.Done a = ap is_down a.1
  down ends.Spent a = ap is_down a.1
  down (ends.Full size adding) a = ap is_down a.1
  down ends.DiskFault a = a.3
  down ends.NoMemory a = ap is_down a.1
