-- A container whose journal was compacted.
use Rattle.std.proofs.Common.{◌≡◌, ℕ, List, [], refl, sym, ◌∙◌, ap, subst, Result, Ok, Err}
use Rattle.signal_script.specs.declared.signal.Signal.{Signal}
use Rattle.slee_disk.specs.Disk.{DiskState}
use Rattle.commit_journal.specs.declared.fault.BeginFault.{BeginFault}
use Rattle.commit_journal.specs.declared.fault.BeginFault.TheVariants as faults
use Rattle.trace_history.specs.declared.entry.Entry.{Entry}
use Rattle.router_state.specs.State.{State}
use Rattle.router_steps.specs.Histories.{replay}
use Rattle.router_durable.specs.Compacting.{Compacts as CompactsRouter, Ends}
use Rattle.router_durable.specs.Core.{Held, state_held}
use Rattle.router_durable.specs.Facts.{base_of}
use Rattle.tx_attempt.specs.declared.ticket.Ticket.{Ticket}
use Rattle.slee_container.specs.Compacting.{Compacts}
use Rattle.slee_container.specs.Container.{IsSteady, View, held_in, over_router}

-- the history and the state stay

kept_history : {D : Type 0} (before after : DiskState) (old new : Held D) (r : Result ℕ BeginFault) → Ends before after old r new → new.history ≡ old.history
kept_history before after old new (Ok generation) is = ap (λ (h : Held _). h.history) is.same
kept_history before after old new (Err (faults.Full size adding)) is = ap (λ (h : Held _). h.history) is.0
kept_history before after old new (Err faults.NoMemory) is = ap (λ (h : Held _). h.history) is
kept_history before after old new (Err faults.DiskFault) is = ap (λ (h : Held _). h.history) is.0

pub kept_state : {D : Type 0} (before after : DiskState) (old new : Held D) (r : Result ℕ BeginFault) → old.history ≡ [] → Ends before after old r new → state_held new ≡ state_held old
kept_state before after old new (Ok generation) none is =
    ap (λ (es : List Entry). replay (base_of new.origin) es) (kept_history before after old new (Ok generation) is ∙ none) ∙ ap base_of is.origin
kept_state before after old new (Err (faults.Full size adding)) none is = ap (λ (h : Held _). state_held h) is.0
kept_state before after old new (Err faults.NoMemory) none is = ap (λ (h : Held _). state_held h) is
kept_state before after old new (Err faults.DiskFault) none is = ap (λ (h : Held _). state_held h) is.0

-- so what is true of its fields stays
pub steady_compacted : {D : Type 0} (before after : DiskState) (old new : Held D) (r : Result ℕ BeginFault) (lines : List Signal) (skipped taken : ℕ) (claims : List Ticket) → old.history ≡ [] → Ends before after old r new
    → IsSteady lines skipped old.history taken (state_held old) claims → IsSteady lines skipped new.history taken (state_held new) claims
steady_compacted before after old new r lines skipped taken claims none is steady =
    subst (λ (es : List Entry). IsSteady lines skipped es taken (state_held new) claims) (sym (kept_history before after old new r is))
    (subst (λ (s : State). IsSteady lines skipped old.history taken s claims) (sym (kept_state before after old new r none is)) steady)

-- a router with other parts
abbrev parts : {D : Type 0} → Held D → ℕ → List Entry → ℕ → Held D
parts h limit history acked = record h { limit = limit; history = history; acked = acked }

by_parts : {D : Type 0} (old new : Held D) → new.limit ≡ old.limit → new.history ≡ old.history → new.acked ≡ old.acked → new ≡ record old { disk = new.disk; origin = new.origin; stop = new.stop }
by_parts old new limit history acked =
    ap (λ (n : ℕ). parts new n new.history new.acked) limit ∙ ap (λ (es : List Entry). parts new old.limit es new.acked) history ∙ ap (λ (n : ℕ). parts new old.limit old.history n) acked

-- what a compacted router shows, but for its disk, its origin and its stop
kept_rest : {D : Type 0} (before after : DiskState) (old new : Held D) (r : Result ℕ BeginFault) → Ends before after old r new → new ≡ record old { disk = new.disk; origin = new.origin; stop = new.stop }
kept_rest before after old new (Ok generation) is = by_parts old new (ap (λ (h : Held _). h.limit) is.same) (ap (λ (h : Held _). h.history) is.same) (ap (λ (h : Held _). h.acked) is.same)
kept_rest before after old new (Err (faults.Full size adding)) is = by_parts old new (ap (λ (h : Held _). h.limit) is.0) (ap (λ (h : Held _). h.history) is.0) (ap (λ (h : Held _). h.acked) is.0)
kept_rest before after old new (Err faults.NoMemory) is = by_parts old new (ap (λ (h : Held _). h.limit) is) (ap (λ (h : Held _). h.history) is) (ap (λ (h : Held _). h.acked) is)
kept_rest before after old new (Err faults.DiskFault) is = by_parts old new (ap (λ (h : Held _). h.limit) is.0) (ap (λ (h : Held _). h.history) is.0) (ap (λ (h : Held _). h.acked) is.0)

abbrev seen : {D : Type 0} → Held D → List Signal → ℕ → ℕ → ℕ → List Ticket → View D
seen h lines skipped taken steps claims = over_router h lines skipped taken steps claims

-- the container's answer is that of its router
pub compacts : {D : Type 0} (disk_of : D → DiskState) (old new : Held D) (r : Result ℕ BeginFault) (lines : List Signal) (skipped taken steps : ℕ) (claims : List Ticket) (v w : View D)
    → seen old lines skipped taken steps claims ≡ v → seen new lines skipped taken steps claims ≡ w
    → CompactsRouter (disk_of old.disk) (disk_of new.disk) old r new → Compacts (disk_of v.disk) (disk_of w.disk) v r w
compacts {D = D} disk_of old new r lines skipped taken steps claims v w is_old is_new c =
    subst (λ (x : View D). Compacts (disk_of x.disk) (disk_of w.disk) x r w) is_old
    (subst (λ (y : View D). Compacts (disk_of old.disk) (disk_of y.disk) (seen old lines skipped taken steps claims) r y) is_new
    (record { router = c; same = ap (λ (h : Held D). seen h lines skipped taken steps claims) (kept_rest (disk_of old.disk) (disk_of new.disk) old new r c.ends) }))
