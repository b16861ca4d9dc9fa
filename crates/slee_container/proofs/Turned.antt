-- What stays true of a run, whatever a container does.
use Rattle.std.proofs.Common.{◌≡◌, ◌⊎◌, inl, inr, ℕ, ◌+◌, ◌<◌, ◌≤◌, ◌^◌, nat_le, Bool, true, false, ◌||◌, IsTrue, List, [], ◌∷◌, ◌++◌, drop, length, length-append, slice_get, refl, sym, ◌∙◌, ap, subst, arith, zero, suc, Option, Some, None, Result, Ok, Err}
use Rattle.std.proofs.lemmas.Bool.{cases_Bool, leb-false}
use mathlib.Core.List.{IsPrefix}
use Rattle.commit_journal.specs.Spelling.{records_size}
use Rattle.commit_journal.proofs.Sizes.{records_size-more}
use Rattle.deploy_json.specs.Checking.{read_as, reading_of}
use Rattle.slee_descriptor.specs.declared.deployment.Deployment.{Deployment}
use Rattle.signal_script.specs.declared.signal.Signal.{Signal}
use Rattle.slee_disk.specs.Disk.{DiskState}
use Rattle.trace_history.specs.Histories.{choices_of, input_of}
use Rattle.trace_history.specs.declared.choice.Choice.{Choice}
use Rattle.trace_history.specs.declared.choice.Choice.TheVariants as choices
use Rattle.trace_history.specs.declared.entry.Entry.{Entry}
use Rattle.router_state.specs.State.{State, is_used_up}
use Rattle.router_steps.specs.Histories.{replay}
use Rattle.router_steps.specs.Payloads.{payload, payloads}
use Rattle.router_steps.specs.Steps.{step_entry}
use Rattle.router_durable.proofs.HistoryLemmas.{choices_of-append, payloads-append, replay-choices}
use Rattle.commit_journal.specs.declared.fault.BeginFault.{BeginFault}
use Rattle.commit_journal.specs.declared.fault.BeginFault.TheVariants as renewals
use Rattle.router_durable.specs.Choices.{written_format}
use Rattle.router_durable.specs.Compacting.{Compacts, origin_anew}
use Rattle.router_durable.specs.Core.{Flushes, Held, Makes, halted, lifted, state_held}
use Rattle.router_durable.specs.Facts.{HasRoom, IsFullFor, Origin, base_of, initial_of, records_since, size_added, size_after}
use Rattle.router_durable.specs.Opening.{Opens}
use Rattle.router_durable.specs.declared.fault.StepFault.{StepFault}
use Rattle.router_durable.specs.declared.fault.StepFault.TheVariants as faults
use Rattle.router_durable.specs.declared.fault.Stop.{Stop}
use Rattle.router_durable.specs.declared.fault.Stop.TheVariants as stops
use Rattle.tx_attempt.specs.declared.ticket.Ticket.{Ticket}
use Rattle.slee_container.specs.Container.{IsSteady, Setup, View, over_router, state_of}
use Rattle.slee_container.specs.Steps.{is_made, is_spent, taken_after}
use Rattle.slee_container.specs.Turns.{AreOfRun, IsDocumented, IsFullNext, setup_over}
use Rattle.slee_container.proofs.Made.{untaken}

-- the size of the side with an entry more
pub grown_size : (o : Origin) (h : List Entry) (e : Entry) → size_after o (h ++ e ∷ []) ≡ size_after o h + size_added o h e.choice
grown_size o h e = omega (
  arith,
  ap records_size payloads_grown,
  records_size-more (records_since o h) (payload written_format (replay (base_of o) h) e.choice ∷ []),
)
  where
    payloads_grown : records_since o (h ++ e ∷ []) ≡ records_since o h ++ payload written_format (replay (base_of o) h) e.choice ∷ []
    payloads_grown =
        ap (payloads written_format (base_of o)) (choices_of-append h (e ∷ []))
        ∙ payloads-append (base_of o) (choices_of h) (e.choice ∷ [])
        ∙ ap (λ (s : State). records_since o h ++ payload written_format s e.choice ∷ []) (sym (replay-choices (base_of o) h))

no_full : (size adding : ℕ) → None ≡ Some (stops.Full size adding) → ⊥
no_full size adding is = cc

down_not_full : (size adding : ℕ) → Some stops.DiskFault ≡ Some (stops.Full size adding) → ⊥
down_not_full size adding is = cc

want_not_full : (size adding : ℕ) → Some stops.NoMemory ≡ Some (stops.Full size adding) → ⊥
want_not_full size adding is = cc

-- no more entries are made than the run may have
fewer : (steps n : ℕ) (up : Bool) → (nat_le steps n || up) ≡ false → suc n ≤ steps
fewer steps n up is = elim (cases_Bool (nat_le steps n)) [
  | inl more ↦ absurd (let never : true ≡ false = sym (ap (λ b. b || up) more) ∙ is in cc)
  | inr less ↦ omega (arith, leb-false steps n less)
]

-- ---- a run that begins

pub run_begun : {D : Type 0} (h : Held D) (lines : List Signal) (skipped taken steps inputs : ℕ) → IsDocumented h.origin → h.origin.torn ≡ false → h.history ≡ [] → h.stop ≡ None → inputs ≡ (state_held h).inputs → inputs < 2 ^ 64
    → AreOfRun (setup_over h lines skipped steps) h.history taken h.stop
run_begun h lines skipped taken steps inputs document untorn none live is below = record {
  document = document;
  whole = λ some. untorn;
  counted = subst (λ (n : ℕ). n < 2 ^ 64) (is ∙ ap (λ (es : List Entry). (replay (base_of h.origin) es).inputs) none) below;
  few = subst (λ (es : List Entry). length es ≤ steps) (sym none) (omega arith);
  room = λ told. inl none;
  full = λ size adding is_full. absurd (no_full size adding (sym live ∙ is_full));
}

-- ---- a step

module _ {D : Type 0} (h k : Held D) (lines : List Signal) (skipped taken steps : ℕ) where
  abbrev before : Setup
  before = setup_over h lines skipped steps

  abbrev behind : Setup
  behind = setup_over k lines skipped steps

  same_setup : k.origin ≡ h.origin → k.limit ≡ h.limit → behind ≡ before
  same_setup origin limit =
      let set : Origin → ℕ → Setup = λ o journal. record { origin = o; lines = lines; skipped = skipped; journal = journal; steps = steps } in
      ap (λ (o : Origin). set o k.limit) origin ∙ ap (λ (n : ℕ). set h.origin n) limit

  -- an entry more
  grown : (e : Entry) (more : ℕ) → behind ≡ before → k.history ≡ h.history ++ e ∷ [] → HasRoom h.origin h.limit h.history e.choice → suc (length h.history) ≤ steps
      → ((size adding : ℕ) → k.stop ≡ Some (stops.Full size adding) → ⊥) → AreOfRun before h.history taken h.stop → AreOfRun behind k.history more k.stop
  grown e more same is room few never run = subst (λ (s : Setup). AreOfRun s k.history more k.stop) (sym same) (record {
    document = run.document;
    counted = run.counted;
    whole = run.whole;
    few = omega (arith, few, ap length is, length-append h.history (e ∷ []));
    room = λ told. inr (omega (arith, room told, ap (size_after h.origin) is, grown_size h.origin h.history e));
    full = λ size adding is_full. absurd (never size adding is_full);
  })

  -- the same entries
  still : behind ≡ before → k.history ≡ h.history → ((size adding : ℕ) → k.stop ≡ Some (stops.Full size adding) → IsFullNext before h.history taken size adding)
      → AreOfRun before h.history taken h.stop → AreOfRun behind k.history taken k.stop
  still same is full run =
      subst (λ (s : Setup). AreOfRun s k.history taken k.stop) (sym same) (subst (λ (es : List Entry). AreOfRun before es taken k.stop) (sym is) (record {
        document = run.document;
        counted = run.counted;
        whole = run.whole;
        few = run.few;
        room = run.room;
        full = full;
      }))

  kept_held : k ≡ h → AreOfRun before h.history taken h.stop → AreOfRun behind k.history taken k.stop
  kept_held is run = subst (λ (x : Held D). AreOfRun (setup_over x lines skipped steps) x.history taken x.stop) (sym is) run

  stepped : (before_it after_it : DiskState) (c : Choice) (r : Result ℕ StepFault) → Makes before_it after_it h c r k → suc (length h.history) ≤ steps → IsPrefix (input_of c) (drop taken lines)
      → AreOfRun before h.history taken h.stop → AreOfRun behind k.history (taken_after taken c r) k.stop
  stepped before_it after_it c (Ok number) made few next run =
      grown (step_entry (state_held h) c) _ (same_setup made.origin made.limit) made.step.0 made.step.3 few (λ size adding is. no_full size adding (sym made.step.2 ∙ is)) run
  stepped before_it after_it c (Err faults.DiskFault) made few next run =
      grown (step_entry (state_held h) c) _ (same_setup made.origin made.limit) made.step.0 made.step.2 few (λ size adding is. down_not_full size adding (sym made.step.1 ∙ is)) run
  stepped before_it after_it c (Err (faults.Full size adding)) made few next run =
      still (same_setup made.origin made.limit) (ap (λ x. x.history) made.step.0) (λ n m is. elsewhere n m (sym (ap (λ x. x.stop) made.step.0) ∙ is)) run
    where
      elsewhere : (n m : ℕ) → Some (stops.Full size adding) ≡ Some (stops.Full n m) → IsFullNext before h.history taken n m
      elsewhere n m is =
          let one : size ≡ n = cc in
          let two : adding ≡ m = cc in
          subst (λ (x : ℕ). IsFullNext before h.history taken x m) one (subst (λ (y : ℕ). IsFullNext before h.history taken size y) two (record { fewer = omega (arith, few); choice = c; full = made.step.1; next = next }))
  stepped before_it after_it c (Err faults.NoMemory) made few next run = kept_held made.step run
  stepped before_it after_it c (Err faults.Spent) made few next run = absurd made.step

-- a step that takes no line, of a container that isn't spent
pub run_step : {D : Type 0} (before after : DiskState) (h k : Held D) (c : Choice) (r : Result ℕ StepFault) (lines : List Signal) (skipped taken steps : ℕ) (xs : List Ticket) (v : View D)
    → over_router h lines skipped taken steps xs ≡ v → is_spent v ≡ false → input_of c ≡ [] → Makes before after h c r k
    → AreOfRun (setup_over h lines skipped steps) h.history taken h.stop → AreOfRun (setup_over k lines skipped steps) k.history taken k.stop
run_step {D = D} before after h k c r lines skipped taken steps xs v is fresh none made run =
    let few : is_spent (over_router h lines skipped taken steps xs) ≡ false = subst (λ (u : View D). is_spent u ≡ false) (sym is) fresh in
    subst (λ (n : ℕ). AreOfRun (setup_over k lines skipped steps) k.history n k.stop) (sym (untaken taken c r none))
    (stepped h k lines skipped taken steps before after c r made (fewer steps (length h.history) (is_used_up (state_held h)) few) (drop taken lines, ap (λ (l : List Signal). l ++ drop taken lines) none) run)

-- the lines that are left begin with the next
left_next : (lines : List Signal) (n : ℕ) (x : Signal) → slice_get lines n ≡ Some x → IsPrefix (x ∷ []) (drop n lines)
left_next [] n x is = absurd (cc)
left_next (y ∷ ys) zero x is = (ys, ap (λ (z : Signal). z ∷ ys) (let same : x ≡ y = cc in same))
left_next (y ∷ ys) (suc n) x is = left_next ys n x is

-- a step that takes the next line
pub run_input : {D : Type 0} (before after : DiskState) (h k : Held D) (signal : Signal) (r : Result ℕ StepFault) (lines : List Signal) (skipped taken steps : ℕ) (xs : List Ticket) (v : View D)
    → over_router h lines skipped taken steps xs ≡ v → is_spent v ≡ false → slice_get lines taken ≡ Some signal → Makes before after h (choices.Input signal) r k
    → AreOfRun (setup_over h lines skipped steps) h.history taken h.stop → AreOfRun (setup_over k lines skipped steps) k.history (taken_after taken (choices.Input signal) r) k.stop
run_input {D = D} before after h k signal r lines skipped taken steps xs v is fresh line made run =
    let few : is_spent (over_router h lines skipped taken steps xs) ≡ false = subst (λ (u : View D). is_spent u ≡ false) (sym is) fresh in
    stepped h k lines skipped taken steps before after (choices.Input signal) r made (fewer steps (length h.history) (is_used_up (state_held h)) few) (left_next lines taken signal line) run

-- ---- other calls

-- what isn't acknowledged is written: the history stays
pub steady_flushed : {D T E : Type 0} (h k : Held D) (r : Result T E) (lines : List Signal) (skipped taken : ℕ) (claims : List Ticket) → Flushes h r k
    → IsSteady lines skipped h.history taken (state_held h) claims → IsSteady lines skipped k.history taken (state_held k) claims
steady_flushed {D = D} h k (Ok done) lines skipped taken claims is steady = subst (λ (x : Held D). IsSteady lines skipped x.history taken (state_held x) claims) (sym is) steady
steady_flushed {D = D} h k (Err fault) lines skipped taken claims is steady = subst (λ (x : Held D). IsSteady lines skipped x.history taken (state_held x) claims) (sym is) steady

-- what isn't acknowledged is written
pub run_flushed : {D T E : Type 0} (h k : Held D) (r : Result T E) (lines : List Signal) (skipped taken steps : ℕ) → Flushes h r k
    → AreOfRun (setup_over h lines skipped steps) h.history taken h.stop → AreOfRun (setup_over k lines skipped steps) k.history taken k.stop
run_flushed {D = D} h k (Ok done) lines skipped taken steps is run =
    subst (λ (x : Held D). AreOfRun (setup_over x lines skipped steps) x.history taken x.stop) (sym is) (record { document = run.document; counted = run.counted; whole = run.whole; few = run.few; room = run.room; full = run.full })
run_flushed {D = D} h k (Err fault) lines skipped taken steps is run =
    subst (λ (x : Held D). AreOfRun (setup_over x lines skipped steps) x.history taken x.stop) (sym is) (record {
      document = run.document;
      counted = run.counted;
      whole = run.whole;
      few = run.few;
      room = run.room;
      full = λ size adding is_full. absurd (down_not_full size adding is_full);
    })

halt_full : (stop : Option Stop) (size adding : ℕ) → halted stop ≡ Some (stops.Full size adding) → stop ≡ Some (stops.Full size adding)
halt_full None size adding is = absurd (want_not_full size adding is)
halt_full (Some stop) size adding is = is

-- it is stopped for want of memory
pub run_halted : {D : Type 0} (h k : Held D) (lines : List Signal) (skipped taken steps : ℕ) → k ≡ record h { stop = halted h.stop }
    → AreOfRun (setup_over h lines skipped steps) h.history taken h.stop → AreOfRun (setup_over k lines skipped steps) k.history taken k.stop
run_halted {D = D} h k lines skipped taken steps is run =
    subst (λ (x : Held D). AreOfRun (setup_over x lines skipped steps) x.history taken x.stop) (sym is) (record {
      document = run.document;
      counted = run.counted;
      whole = run.whole;
      few = run.few;
      room = run.room;
      full = λ size adding is_full. run.full size adding (halt_full h.stop size adding is_full);
    })

-- a router that was opened over the bytes of a deployment has its document
pub documented : {D : Type 0} (old new : DiskState) (bytes : List ℕ) (limit : ℕ) (h : Held D) (d : Deployment) → Opens old new (initial_of d.parts d.codes) bytes limit h → reading_of bytes ≡ Ok (read_as d)
    → IsDocumented h.origin
documented old new bytes limit h d opens read = record {
  deployment = d;
  read = subst (λ (b : List ℕ). reading_of b ≡ Ok (read_as d)) (sym (ap (λ (o : Origin). o.deployment) opens.origin)) read;
  first = sym (ap (λ (o : Origin). o.initial) opens.origin);
}

-- ---- the journal is compacted

-- a run that may have no entry has none
pub no_entries : (s : Setup) (h : List Entry) (taken : ℕ) (stop : Option Stop) → s.steps ≡ 0 → AreOfRun s h taken stop → h ≡ []
no_entries s [] taken stop none run = refl
no_entries s (e ∷ es) taken stop none run = absurd (omega (arith, none, run.few))

anew : {D : Type 0} (h k : Held D) (lines : List Signal) (skipped taken steps : ℕ) → steps ≡ 0 → k.history ≡ [] → k.origin.initial ≡ h.origin.initial → k.origin.deployment ≡ h.origin.deployment → base_of k.origin ≡ base_of h.origin
    → ((size adding : ℕ) → k.stop ≡ Some (stops.Full size adding) → ⊥) → AreOfRun (setup_over h lines skipped steps) h.history taken h.stop → AreOfRun (setup_over k lines skipped steps) k.history taken k.stop
anew h k lines skipped taken steps none empty initial deployment base never run = record {
  document = record {
    deployment = run.document.deployment;
    read = subst (λ (b : List ℕ). reading_of b ≡ Ok (read_as run.document.deployment)) (sym deployment) run.document.read;
    first = run.document.first ∙ sym initial;
  };
  counted = subst (λ (s : State). s.inputs < 2 ^ 64) (sym base) run.counted;
  whole = λ some. absurd (omega (arith, none, some));
  few = subst (λ (es : List Entry). length es ≤ steps) (sym empty) (omega arith);
  room = λ told. inl empty;
  full = λ size adding is. absurd (never size adding is);
}

-- a compaction lifts a stop for want of room
lifted_not_full : (stop : Option Stop) (size adding : ℕ) → lifted stop ≡ Some (stops.Full size adding) → ⊥
lifted_not_full None size adding is = cc
lifted_not_full (Some stops.DiskFault) size adding is = cc
lifted_not_full (Some (stops.Full was more)) size adding is = cc
lifted_not_full (Some stops.NoMemory) size adding is = cc

pub run_compacted : {D : Type 0} (before after : DiskState) (h k : Held D) (r : Result ℕ BeginFault) (lines : List Signal) (skipped taken steps : ℕ) → steps ≡ 0 → Compacts before after h r k
    → AreOfRun (setup_over h lines skipped steps) h.history taken h.stop → AreOfRun (setup_over k lines skipped steps) k.history taken k.stop
run_compacted {D = D} old new h k (Ok number) lines skipped taken steps none compacts run =
    anew h k lines skipped taken steps none (ap (λ x. x.history) same ∙ empty) (ap (λ (o : Origin). o.initial) origin) (ap (λ (o : Origin). o.deployment) origin)
    (ap base_of origin ∙ ap (λ (es : List Entry). replay (base_of h.origin) es) empty)
    (λ size adding is. lifted_not_full h.stop size adding (sym (ap (λ x. x.stop) same) ∙ is)) run
  where
    same : k ≡ record h { disk = k.disk; origin = k.origin; stop = lifted h.stop }
    same = compacts.ends.same

    origin : k.origin ≡ origin_anew new (state_held h) h.origin k.origin
    origin = compacts.ends.origin

    empty : h.history ≡ []
    empty = no_entries (setup_over h lines skipped steps) h.history taken h.stop none run
run_compacted {D = D} old new h k (Err (renewals.Full size adding)) lines skipped taken steps none compacts run = kept_held h k lines skipped taken steps compacts.ends.0 run
run_compacted {D = D} old new h k (Err renewals.NoMemory) lines skipped taken steps none compacts run = kept_held h k lines skipped taken steps compacts.ends run
run_compacted {D = D} old new h k (Err renewals.DiskFault) lines skipped taken steps none compacts run =
    let is = compacts.ends.0 in
    anew h k lines skipped taken steps none (ap (λ x. x.history) is ∙ no_entries (setup_over h lines skipped steps) h.history taken h.stop none run) (ap (λ x. x.origin.initial) is) (ap (λ x. x.origin.deployment) is) (ap (λ x. base_of x.origin) is)
    (λ size adding is_full. down_not_full size adding (sym (ap (λ x. x.stop) is) ∙ is_full)) run

-- and it isn't torn
pub untorn : {D : Type 0} (old new : DiskState) (first : State) (bytes : List ℕ) (limit : ℕ) (h : Held D) → Opens old new first bytes limit h → h.origin.torn ≡ false
untorn old new first bytes limit h opens = ap (λ (o : Origin). o.torn) opens.origin
