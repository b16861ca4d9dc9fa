-- A container that was just opened, and what is true of any.
use Rattle.std.proofs.Common.{◌≡◌, ℕ, ◌≤◌, ◌<◌, nat_le, nat_lt, Bool, true, ◌&&◌, is_some, List, [], ◌∷◌, ◌++◌, append-nil, length, take, refl, sym, ◌∙◌, ap, subst, arith, inl, inr}
use Rattle.std.proofs.lemmas.Bool.{and_parts, cases_Bool, leb-false, ltb-true}
use Rattle.std.specs.List.{AllByRecursion, list_all}
use Rattle.rows_sorted.specs.Orders.{rises_by}
use Rattle.signal_script.specs.declared.signal.Signal.{Signal}
use Rattle.slee_disk.specs.Disk.{DiskState}
use Rattle.trace_history.specs.Histories.{inputs_of}
use Rattle.trace_history.specs.declared.entry.Entry.{Entry}
use Rattle.router_state.specs.Contexts.{activity_at}
use Rattle.router_state.specs.Fits.{is_drawn, none_or}
use Rattle.router_state.specs.Queues.{queued_before}
use Rattle.router_state.specs.State.{State}
use Rattle.router_state.specs.Well.{IsWell}
use Rattle.router_state.specs.WellEntities.{all_differ}
use Rattle.router_state.specs.WellQueues.{differ_in_number, has_event_fields, is_event_row}
use Rattle.router_state.specs.declared.rows.Queued.{Queued}
use Rattle.router_steps.specs.Histories.{replay}
use Rattle.router_durable.specs.Core.{Held, IsHeld, state_held}
use Rattle.router_durable.specs.Facts.{base_of}
use Rattle.router_durable.specs.Opening.{Opens}
use Rattle.tx_attempt.specs.declared.ticket.Ticket.{Ticket}
use Rattle.slee_container.specs.Claims.{AreDrawn}
use Rattle.slee_container.specs.Container.{IsKept, IsSteady, TakesLines, View, over_router}
use Rattle.slee_container.specs.Opening.{Starts, skipped_by}
use Rattle.slee_container.specs.declared.container.Limits.{Limits}
use Rattle.slee_container.specs.declared.container.Mode.{Mode}
use Rattle.slee_container.specs.declared.container.Mode.TheVariants as modes

-- no more lines are skipped than there are
skipped_within : (mode : Mode) (count inputs : ℕ) → skipped_by mode count inputs ≤ count
skipped_within modes.AllNew count inputs = omega arith
skipped_within modes.SkipTaken count inputs = elim (cases_Bool (nat_le count inputs)) [
  | inl all ↦ rw all (omega arith)
  | inr some ↦ rw some (omega (arith, leb-false count inputs some))
]

-- numbers of events were drawn, in a state that is well formed

drawn_rows : (n : ℕ) (test : Queued → Bool) (qs : List Queued) → list_all (λ (q : Queued). is_drawn n q.event.id.0 && test q) qs ≡ true → AllByRecursion (λ (q : Queued). q.event.id.0 < n) qs
drawn_rows n test [] all = tt
drawn_rows n test (q ∷ qs) all =
    let both = and_parts (is_drawn n q.event.id.0 && test q) (list_all (λ (q : Queued). is_drawn n q.event.id.0 && test q) qs) all in
    let here = and_parts (is_drawn n q.event.id.0) (test q) both.0 in
    (ltb-true q.event.id.0 n (and_parts (nat_lt 0 q.event.id.0) (nat_lt q.event.id.0 n) here.0).1, drawn_rows n test qs both.1)

pub drawn_well : (s : State) → IsWell s → AreDrawn s
drawn_well s well =
    let rise = and_parts (rises_by queued_before s.events) _ well.sound.events in
    let differ = and_parts (all_differ differ_in_number s.events) _ rise.1 in
    let rows = and_parts (list_all (is_event_row s.deployment s.activities s.next_activity s.next_timer s.next_event) s.events) _ differ.1 in
    drawn_rows s.next_event
    (λ q. is_some (activity_at s.activities q.activity.0) && (none_or (λ service. nat_lt service (length s.deployment.services)) q.event.target && has_event_fields s.deployment s.next_activity s.next_timer q.event))
    s.events rows.0

takes_none : (lines : List Signal) (skipped : ℕ) (history : List Entry) → history ≡ [] → skipped ≤ length lines → TakesLines lines skipped history skipped
takes_none lines skipped history none within = record {
  inputs = ap (λ (h : List Entry). take skipped lines ++ inputs_of h) none ∙ append-nil (take skipped lines);
  within = within;
}

-- the state that was found is well formed
pub well_opened : {D : Type 0} (old new : DiskState) (first : State) (bytes : List ℕ) (limit : ℕ) (h : Held D) → Opens old new first bytes limit h → IsWell (state_held h)
well_opened old new first bytes limit h opens = subst (λ (es : List Entry). IsWell (replay (base_of h.origin) es)) (sym opens.history) opens.held.keepable.well

-- a container over a router that was just opened
pub steady_begun : {D : Type 0} (h : Held D) (lines : List Signal) (mode : Mode) (inputs skipped : ℕ) → h.history ≡ [] → skipped ≡ skipped_by mode (length lines) inputs
    → IsWell (state_held h) → IsSteady lines skipped h.history skipped (state_held h) []
steady_begun h lines mode inputs skipped none is well = record {
  takes = takes_none lines skipped h.history none (subst (λ (n : ℕ). n ≤ length lines) (sym is) (skipped_within mode (length lines) inputs));
  drawn = drawn_well (state_held h) well;
  holds = record { apart = tt; fronts = tt; blocks = tt };
}

module _ {D : Type 0} (disk_of : D → DiskState) (h : Held D) (lines : List Signal) (mode : Mode) (limits : Limits) (old : DiskState) (start : State) (bytes : List ℕ)
    (opens : Opens old (disk_of h.disk) start bytes limits.journal h) where
  abbrev count : ℕ
  count = skipped_by mode (length lines) (state_held h).inputs

  abbrev begun : View D
  begun = over_router h lines count count limits.steps []

  starts_here : Starts old (disk_of h.disk) start bytes lines mode limits begun
  starts_here = record { opened = opens; lined = refl; steps = refl; skipped = refl; taken = refl; claims = refl }

  kept_here : IsKept (disk_of h.disk) begun
  kept_here = record {
    held = opens.held;
    lines = takes_none lines count h.history opens.history (skipped_within mode (length lines) (state_held h).inputs);
    claims = record { apart = tt; fronts = tt; blocks = tt };
  }

  pub starts_begun : (v : View D) → v ≡ begun → Starts old (disk_of v.disk) start bytes lines mode limits v
  starts_begun v is = subst (λ (u : View D). Starts old (disk_of u.disk) start bytes lines mode limits u) (sym is) starts_here

  pub kept_begun : (v : View D) → v ≡ begun → IsKept (disk_of v.disk) v
  kept_begun v is = subst (λ (u : View D). IsKept (disk_of u.disk) u) (sym is) kept_here

-- what is true of any container
pub steady_kept : {D : Type 0} (disk : DiskState) (h : Held D) (lines : List Signal) (skipped taken steps : ℕ) (claims : List Ticket) (v : View D) → over_router h lines skipped taken steps claims ≡ v
    → IsHeld disk h → IsSteady lines skipped h.history taken (state_held h) claims → IsKept disk v
steady_kept {D = D} disk h lines skipped taken steps claims v is held steady =
    subst (λ (u : View D). IsKept disk u) is (record { held = held; lines = steady.takes; claims = steady.holds })
