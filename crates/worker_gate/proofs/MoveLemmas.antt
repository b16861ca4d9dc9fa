-- What the calls of a container do to its run, and when a worker may leave.
use Rattle.std.proofs.Common.{◌≡◌, ◌⊎◌, inl, inr, ℕ, ◌<◌, ◌≤◌, ◌==◌, nat_le, not, Bool, true, false, ◌&&◌, ◌||◌, if◌then◌else◌, List, [], ◌∷◌, ◌++◌, length, refl, sym, ◌∙◌, ap, subst, arith, append-nil, append_assoc, Option, Some, None, IsSome, IsTrue, Result, Ok, Err, is_some, slice_get, get_or, ⊎_elim, eqb-true}
use Rattle.std.proofs.lemmas.Option.{slice_get_cases}
use Rattle.std.specs.Option.{option_map_or}
use mathlib.Core.List.{map-append}
use Rattle.signal_script.specs.declared.signal.Signal.{Signal as Line}
use Rattle.slee_disk.specs.Disk.{DiskState}
use Rattle.slee_value.specs.declared.ids.ActivityId.{ActivityId}
use Rattle.slee_value.specs.declared.memory.NoMemory.{NoMemory}
use Rattle.trace_history.specs.Histories.{choices_of}
use Rattle.trace_history.specs.declared.choice.Choice.{Choice}
use Rattle.trace_history.specs.declared.choice.Choice.TheVariants as choices
use Rattle.trace_history.specs.declared.entry.Entry.{Entry}
use Rattle.rollback_calls.specs.Deliveries.{Handles}
use Rattle.router_state.specs.Next.{least, next}
use Rattle.router_state.specs.State.{is_used_up}
use Rattle.router_state.specs.declared.kindred.Kindred.{Kindred}
use Rattle.router_state.specs.declared.kindred.Kindred.TheVariants as kinds
use Rattle.router_steps.specs.Steps.{is_next}
use Rattle.router_durable.specs.declared.fault.StepFault.{StepFault}
use Rattle.router_durable.specs.declared.fault.StepFault.TheVariants as faults
use Rattle.router_durable.specs.declared.fault.Stop.{Stop}
use Rattle.tx_attempt.specs.declared.attempt.Attempt.{Attempt}
use Rattle.tx_attempt.specs.declared.ticket.Ticket.{Ticket}
use Rattle.slee_container.specs.Claims.{claimed_in, is_claimed}
use Rattle.slee_container.specs.Container.{View, state_of}
use Rattle.slee_container.specs.Steps.{Commits, Flushes, Makes, Prepares, Redoes, is_free, is_spent}
use Rattle.slee_container.specs.Work.{is_left, line_or, next_work, work_left}
use Rattle.slee_container.specs.declared.fault.CommitFault.{CommitFault}
use Rattle.slee_container.specs.declared.fault.CommitFault.TheVariants as refusals
use Rattle.slee_container.specs.declared.fault.Redone.{Redone}
use Rattle.slee_container.specs.declared.fault.Redone.TheVariants as redones
use Rattle.slee_container.specs.declared.fault.Work.{Work}
use Rattle.slee_container.specs.declared.fault.Work.TheVariants as works
use Rattle.worker_gate.specs.Moves.{GoesOn, IsOver, MayEnd, MayLeave}

-- what is next is nothing, for a worker
abbrev pub IsLast : Work → Type 0
IsLast (works.Stopped stop) = Unit {0}
IsLast works.Spent = Unit {0}
IsLast (works.Step a kindred) = ⊥
IsLast works.Line = ⊥
IsLast (works.Idle claims) = ⊥
IsLast works.Done = Unit {0}

-- what it is that stands below
record IsStepOf (w : Work) : Type 0 where
  pub activity : ActivityId
  pub kindred : Kindred
  pub is : w ≡ works.Step activity kindred

record IsIdleOf (w : Work) : Type 0 where
  pub claims : ℕ
  pub is : w ≡ works.Idle claims

spent_or : (u n l : Bool) → (u || (n && l)) ≡ true → (n || u) ≡ true
spent_or true true l is = refl
spent_or true false l is = refl
spent_or false true l is = refl
spent_or false false l is = absurd (cc)

-- a line that is left is the one that is taken
line_left : (lines : List Line) (taken : ℕ) → taken < length lines → (signal : Line) × (slice_get lines taken ≡ Some signal)
line_left lines taken left = ⊎_elim
    (λ (here : (signal : Line) × (taken < length lines) × (slice_get lines taken ≡ Some signal) × (get_or lines taken signal ≡ signal)). (here.0, here.2))
    (λ (past : (length lines ≤ taken) × (slice_get lines taken ≡ None)). absurd (omega (arith, past.0, left)))
    (slice_get_cases lines taken).1

module _ {D : Type 0} where
  -- ---- the run goes on

  pub same_goes : (old new : View D) → new.setup ≡ old.setup → new.history ≡ old.history → GoesOn old new
  same_goes old new setup history = record { setup = setup; history = ([], append-nil (choices_of old.history) ∙ ap choices_of (sym history)) }

  pub stays : (v : View D) → GoesOn v v
  stays v = same_goes v v refl refl

  pub goes_further : (a b c : View D) → GoesOn a b → GoesOn b c → GoesOn a c
  goes_further a b c one two = record {
    setup = two.setup ∙ one.setup;
    history = (one.history.0 ++ two.history.0, sym (append_assoc (choices_of a.history) one.history.0 two.history.0) ∙ (ap (λ l. l ++ two.history.0) one.history.1 ∙ two.history.1));
  }

  entry_goes : (old new : View D) (e : Entry) → new.setup ≡ old.setup → new.history ≡ old.history ++ e ∷ [] → GoesOn old new
  entry_goes old new e setup history = record { setup = setup; history = (choices_of (e ∷ []), sym (ap choices_of history ∙ map-append (λ (x : Entry). x.choice) old.history (e ∷ []))) }

  pub made_goes : (before after : DiskState) (old : View D) (c : Choice) (r : Result ℕ StepFault) (new : View D) → Makes before after old c r new → GoesOn old new
  made_goes before after old c (Ok number) new m = entry_goes old new _ m.setup m.step.step.0
  made_goes before after old c (Err faults.DiskFault) new m = entry_goes old new _ m.setup m.step.step.0
  made_goes before after old c (Err (faults.Full size adding)) new m = same_goes old new m.setup (ap (λ h. h.history) m.step.step.0)
  made_goes before after old c (Err faults.NoMemory) new m = same_goes old new m.setup (ap (λ h. h.history) m.step.step)
  made_goes before after old c (Err faults.Spent) new m = same_goes old new m.setup (ap (λ v. v.history) m.step)

  -- ---- and how it ends

  pub made_ends : (before after : DiskState) (old : View D) (c : Choice) (r : Result ℕ StepFault) (new : View D) → Makes before after old c r new → MayEnd new r
  made_ends before after old c (Ok number) new m = tt
  made_ends before after old c (Err faults.DiskFault) new m = inl (ap is_some m.step.step.1)
  made_ends before after old c (Err (faults.Full size adding)) new m = inl (ap (λ h. is_some h.stop) m.step.step.0)
  made_ends before after old c (Err faults.NoMemory) new m = tt
  made_ends before after old c (Err faults.Spent) new m = inr (inr (subst (λ (v : View D). IsTrue (is_spent v)) (sym m.step) (m.refused refl)))

  pub line_goes : (before after : DiskState) (old : View D) (r : Result ℕ StepFault) (new : View D) → old.taken < length old.setup.lines
      → ((signal : Line) → slice_get old.setup.lines old.taken ≡ Some signal → Makes before after old (choices.Input signal) r new) → GoesOn old new
  line_goes before after old r new left made = let line = line_left old.setup.lines old.taken left in made_goes before after old (choices.Input line.0) r new (made line.0 line.1)

  pub line_ends : (before after : DiskState) (old : View D) (r : Result ℕ StepFault) (new : View D) → old.taken < length old.setup.lines
      → ((signal : Line) → slice_get old.setup.lines old.taken ≡ Some signal → Makes before after old (choices.Input signal) r new) → MayEnd new r
  line_ends before after old r new left made = let line = line_left old.setup.lines old.taken left in made_ends before after old (choices.Input line.0) r new (made line.0 line.1)

  -- claims don't count for it
  pub over_without : (old new : View D) (claims : List Ticket) → new ≡ record old { claims = claims } → MayLeave old → MayLeave new
  over_without old new claims is may = subst (λ (v : View D). MayLeave v) (sym is) may

  pub stop_leaves : (v : View D) → IsSome v.stop → MayLeave v
  stop_leaves v stopped = inl stopped

  -- ---- what is next

  pub initial_next : (v : View D) (a : ActivityId) → next (state_of v) a.0 ≡ Some kinds.Initial → IsTrue (is_next (state_of v) (choices.Initial a))
  initial_next v a is = rw is refl

  pub finish_next : (v : View D) (a : ActivityId) → next (state_of v) a.0 ≡ Some kinds.Finish → IsTrue (is_next (state_of v) (choices.Finish a))
  finish_next v a is = rw is refl

  -- what next_work answers where it isn't stopped
  abbrev unstopped : View D → Work
  unstopped v = if is_used_up (state_of v) || (nat_le v.setup.steps (length v.history) && is_left v) then works.Spent else work_left v

  on_stop : (v : View D) (w : Work) (stop : Option Stop) → v.stop ≡ stop → w ≡ option_map_or works.Stopped stop (unstopped v) → ((v.stop ≡ None) × (w ≡ unstopped v)) ⊎ ((s : Stop) × (v.stop ≡ Some s) × (w ≡ works.Stopped s))
  on_stop v w None is w_is = inl (is, w_is)
  on_stop v w (Some s) is w_is = inr (s, is, w_is)

  record IsDoneOf (v : View D) (w : Work) : Type 0 where
    pub done : w ≡ works.Done
    pub claims : length v.claims ≡ 0
    pub lines : nat_le (length v.setup.lines) v.taken ≡ true

  on_claims : (v : View D) (w : Work) (b : Bool) → (length v.claims == 0) ≡ b → nat_le (length v.setup.lines) v.taken ≡ true
      → w ≡ (if b then works.Done else works.Idle (length v.claims)) → IsDoneOf v w ⊎ IsIdleOf w
  on_claims v w true is lines w_is = inl (record { done = w_is; claims = eqb-true (length v.claims) 0 is; lines = lines })
  on_claims v w false is lines w_is = inr (record { claims = length v.claims; is = w_is })

  on_line : (v : View D) (w : Work) (b : Bool) → nat_le (length v.setup.lines) v.taken ≡ b
      → w ≡ (if b then (if length v.claims == 0 then works.Done else works.Idle (length v.claims)) else works.Line) → (w ≡ works.Line) ⊎ (IsDoneOf v w ⊎ IsIdleOf w)
  on_line v w true is w_is = inr (on_claims v w (length v.claims == 0) refl is w_is)
  on_line v w false is w_is = inl w_is

  on_least : (v : View D) (w : Work) (found : Option (ℕ × Kindred)) → least (state_of v) (claimed_in v.claims) ≡ found
      → w ≡ option_map_or (λ x. works.Step (record { 0 = x.0 }) x.1) found (line_or v) → ((least (state_of v) (claimed_in v.claims) ≡ None) × (w ≡ line_or v)) ⊎ IsStepOf w
  on_least v w None is w_is = inl (is, w_is)
  on_least v w (Some x) is w_is = inr (record { activity = record { 0 = x.0 }; kindred = x.1; is = w_is })

  on_spent : (v : View D) (w : Work) (b : Bool) → (is_used_up (state_of v) || (nat_le v.setup.steps (length v.history) && is_left v)) ≡ b
      → w ≡ (if b then works.Spent else work_left v) → IsTrue (is_spent v) ⊎ (w ≡ work_left v)
  on_spent v w true is w_is = inl (spent_or (is_used_up (state_of v)) (nat_le v.setup.steps (length v.history)) (is_left v) is)
  on_spent v w false is w_is = inr w_is

  none_left : (v : View D) (claims : List Ticket) → length claims ≡ 0 → least (state_of v) (claimed_in claims) ≡ None → least (state_of v) [] ≡ None
  none_left v [] none is = is
  none_left v (x ∷ xs) none is = absurd (omega (arith, none))

  done_over : (v : View D) (w : Work) → IsDoneOf v w → least (state_of v) (claimed_in v.claims) ≡ None → IsOver v
  done_over v w done none = inl (none_left v v.claims done.claims none, ap not done.lines)

  -- it isn't stopped where it says that claims are waited for
  pub idle_lives : (v : View D) (n : ℕ) → next_work v ≡ works.Idle n → v.stop ≡ None
  idle_lives v n is = ⊎_elim
      (λ (live : (v.stop ≡ None) × (works.Idle n ≡ unstopped v)). live.0)
      (λ (stopped : (s : Stop) × (v.stop ≡ Some s) × (works.Idle n ≡ works.Stopped s)). absurd (let e : works.Idle n ≡ works.Stopped stopped.0 = stopped.2 in cc))
      (on_stop v (works.Idle n) v.stop refl (sym is))

  -- a worker may leave where it says that it is stopped, that no step may be made, or that nothing is left
  pub last_leaves : (v : View D) (w : Work) → w ≡ next_work v → IsLast w → MayLeave v
  last_leaves v w is last = ⊎_elim
      (λ (live : (v.stop ≡ None) × (w ≡ unstopped v)). inr (⊎_elim
      (λ (spent : IsTrue (is_spent v)). inr spent)
      (λ (left : w ≡ work_left v). ⊎_elim
      (λ (none : (least (state_of v) (claimed_in v.claims) ≡ None) × (w ≡ line_or v)). ⊎_elim
      (λ (line : w ≡ works.Line). absurd (subst IsLast line last))
      (λ (rest : IsDoneOf v w ⊎ IsIdleOf w). ⊎_elim
      (λ (done : IsDoneOf v w). done_over v w done none.0)
      (λ (idle : IsIdleOf w). absurd (subst IsLast idle.is last))
      rest)
      (on_line v w (nat_le (length v.setup.lines) v.taken) refl none.1))
      (λ (step : IsStepOf w). absurd (subst IsLast step.is last))
      (on_least v w (least (state_of v) (claimed_in v.claims)) refl left))
      (on_spent v w (is_used_up (state_of v) || (nat_le v.setup.steps (length v.history) && is_left v)) refl live.1)))
      (λ (stopped : (s : Stop) × (v.stop ≡ Some s) × (w ≡ works.Stopped s)). inl (ap is_some stopped.1))
      (on_stop v w v.stop refl is)

  -- ---- claims and commits

  pub prepared_goes : (old : View D) (a : ActivityId) (r : Result (Option Ticket) NoMemory) (new : View D) → Prepares old a r new → GoesOn old new
  prepared_goes old a (Ok None) new is = same_goes old new (ap (λ v. v.setup) is.0) (ap (λ v. v.history) is.0)
  prepared_goes old a (Ok (Some ticket)) new is = same_goes old new (ap (λ v. v.setup) is.0) (ap (λ v. v.history) is.0)
  prepared_goes old a (Err fault) new is = same_goes old new (ap (λ v. v.setup) is.0) (ap (λ v. v.history) is.0)

  pub prepared_held : (old : View D) (a : ActivityId) (t : Ticket) (new : View D) → Prepares old a (Ok (Some t)) new → Handles new.setup.origin.initial.program t.block t.event.name
  prepared_held old a t new is = subst (λ (v : View D). Handles v.setup.origin.initial.program t.block t.event.name) (sym is.0) is.2.handled

  -- a delivery that is next and not claimed is free
  pub never_none : (old : View D) (a : ActivityId) (new : View D) → next (state_of old) a.0 ≡ Some kinds.Deliver → is_claimed old.claims a.0 ≡ false → Prepares old a (Ok None) new → ⊥
  never_none old a new next unclaimed is =
      let free : is_free old a.0 ≡ true = rw (next, unclaimed) refl in
      let both : true ≡ false = sym free ∙ is.1 in
      absurd (cc)

  pub committed_goes : (before after : DiskState) (old : View D) (t : Ticket) (a : Attempt) (r : Result ℕ CommitFault) (new : View D) → Commits before after old t a r new → GoesOn old new
  committed_goes before after old t a (Ok number) new is = made_goes before after old _ _ new is.2.made
  committed_goes before after old t a (Err refusals.DiskFault) new is = made_goes before after old _ _ new is.2.made
  committed_goes before after old t a (Err (refusals.Full size adding)) new is = made_goes before after old _ _ new is.1.made
  committed_goes before after old t a (Err (refusals.Conflict key saw found)) new is = same_goes old new (ap (λ v. v.setup) is.0) (ap (λ v. v.history) is.0)
  committed_goes before after old t a (Err refusals.NoMemory) new is = same_goes old new (ap (λ v. v.setup) is.0) (ap (λ v. v.history) is.0)
  committed_goes before after old t a (Err refusals.Spent) new is = same_goes old new (ap (λ v. v.setup) is.0) (ap (λ v. v.history) is.0)

  -- why a worker may leave behind a commit that was refused
  abbrev pub Refused : View D → Result ℕ CommitFault → Type 0
  Refused v (Ok number) = Unit {0}
  Refused v (Err refusals.DiskFault) = MayLeave v
  Refused v (Err (refusals.Full size adding)) = MayLeave v
  Refused v (Err (refusals.Conflict key saw found)) = Unit {0}
  Refused v (Err refusals.NoMemory) = Unit {0}
  Refused v (Err refusals.Spent) = MayLeave v

  pub committed_ends : (before after : DiskState) (old : View D) (t : Ticket) (a : Attempt) (r : Result ℕ CommitFault) (new : View D) → Commits before after old t a r new → Refused new r
  committed_ends before after old t a (Ok number) new is = tt
  committed_ends before after old t a (Err refusals.DiskFault) new is = made_ends before after old _ _ new is.2.made
  committed_ends before after old t a (Err (refusals.Full size adding)) new is = made_ends before after old _ _ new is.1.made
  committed_ends before after old t a (Err (refusals.Conflict key saw found)) new is = tt
  committed_ends before after old t a (Err refusals.NoMemory) new is = tt
  committed_ends before after old t a (Err refusals.Spent) new is = inr (inr (subst (λ (v : View D). IsTrue (is_spent v)) (sym is.0) is.1))

  pub redone_goes : (before after : DiskState) (old : View D) (a : ActivityId) (r : Result Redone StepFault) (new : View D) → Redoes before after old a r new → GoesOn old new
  redone_goes before after old a (Ok redones.Released) new is = same_goes old new (ap (λ v. v.setup) is.0) (ap (λ v. v.history) is.0)
  redone_goes before after old a (Ok (redones.Entry number)) new is = made_goes before after old _ _ new is.1.made
  redone_goes before after old a (Err faults.DiskFault) new is = made_goes before after old _ _ new is.1.made
  redone_goes before after old a (Err (faults.Full size adding)) new is = made_goes before after old _ _ new is.1.made
  redone_goes before after old a (Err faults.NoMemory) new is = made_goes before after old _ _ new is.1.made
  redone_goes before after old a (Err faults.Spent) new is = made_goes before after old _ _ new is.1.made

  pub redone_ends : (before after : DiskState) (old : View D) (a : ActivityId) (f : StepFault) (new : View D) → Redoes before after old a (Err f) new → MayEnd new (Err f)
  redone_ends before after old a faults.DiskFault new is = made_ends before after old _ _ new is.1.made
  redone_ends before after old a (faults.Full size adding) new is = made_ends before after old _ _ new is.1.made
  redone_ends before after old a faults.NoMemory new is = tt
  redone_ends before after old a faults.Spent new is = made_ends before after old _ _ new is.1.made

  -- ---- a flush

  pub flushed_goes : {T E : Type 0} (old : View D) (r : Result T E) (new : View D) → Flushes old r new → GoesOn old new
  flushed_goes old (Ok done) new is = same_goes old new (ap (λ v. v.setup) is) (ap (λ v. v.history) is)
  flushed_goes old (Err fault) new is = same_goes old new (ap (λ v. v.setup) is) (ap (λ v. v.history) is)

  pub flushed_stops : (T E : Type 0) (old : View D) (e : E) (new : View D) → Flushes {D = D} {T = T} {E = E} old (Err e) new → MayLeave new
  flushed_stops T E old e new is = inl (ap (λ v. is_some v.stop) is)
